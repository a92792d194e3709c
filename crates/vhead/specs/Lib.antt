pub mod Limits
pub mod Heads
pub mod HeadRules
pub mod Steps
