pub mod Reachable
