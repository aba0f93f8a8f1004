pub mod Entering
pub mod Fees
pub mod Outcomes
pub mod Requests
pub mod Scanning
