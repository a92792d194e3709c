pub mod Columns
pub mod Tails
