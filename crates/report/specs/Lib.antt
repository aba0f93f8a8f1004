pub mod Rows
pub mod Tables
pub mod Payments
pub mod Sheets
