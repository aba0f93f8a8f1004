pub mod Amounts
pub mod Limits
