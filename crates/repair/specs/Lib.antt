pub mod Repairs
