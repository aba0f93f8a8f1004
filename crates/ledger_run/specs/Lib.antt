pub mod Histories
pub mod Laws
pub mod Outcomes
pub mod Refusals
pub mod WorkedPostings
pub mod WorkedChecks
pub mod WorkedHistory
