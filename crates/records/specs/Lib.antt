pub mod Limits
pub mod Readings
pub mod Packings
pub mod NumberTypes
pub mod Dimensions
pub mod Arrays
pub mod Types
pub mod RecordRules
