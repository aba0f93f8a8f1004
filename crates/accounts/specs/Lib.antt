pub mod Ranges
pub mod Marks
pub mod Books
pub mod Records
