pub mod Sharing
pub mod Totals
