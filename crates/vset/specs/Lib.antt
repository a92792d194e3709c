pub mod Limits
pub mod Columns
pub mod Tails
pub mod Steps
