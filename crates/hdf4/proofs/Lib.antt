pub mod Proper
pub mod Bits
pub mod Tables
pub mod TableClaims
pub mod EditReads
pub mod CallClaims
