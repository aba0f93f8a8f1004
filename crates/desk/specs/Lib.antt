pub mod RefusalLines
pub mod Answers
pub mod BookLines
pub mod Deeds
pub mod Plans
pub mod Amounts
pub mod Totals
pub mod Logs
