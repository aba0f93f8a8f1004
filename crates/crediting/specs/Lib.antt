pub mod Limits
pub mod Ranges
pub mod Credits
pub mod Worths
pub mod Refusals
pub mod Lawfulness
