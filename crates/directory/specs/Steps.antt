-- What the functions behind the calls take and leave: no reader of the calls has to believe it. Assumes nothing.
pub mod Cursors
pub mod Chains
pub mod Gaps
pub mod Keys
pub mod Doubts
pub mod Checks
pub mod Opens
pub mod Resuming
pub mod Walks
