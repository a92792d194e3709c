pub mod Refusals
pub mod Search
pub mod Links
pub mod Answer
pub mod Lent
pub mod Rules
pub mod Carried
