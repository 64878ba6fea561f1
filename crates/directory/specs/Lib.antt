pub mod Candidates
pub mod Buckets
