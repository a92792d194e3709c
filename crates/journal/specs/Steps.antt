-- What the functions behind the calls take and leave: no reader of the calls has to believe it. Assumes nothing.
pub mod Changes
pub mod Restores
