pub mod Limits
pub mod Groups
pub mod GroupRules
pub mod Listings
pub mod ListRules
pub mod Steps
