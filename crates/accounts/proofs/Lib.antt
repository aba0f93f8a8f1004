pub mod Answering
pub mod Finding
pub mod Found
pub mod Keeping
pub mod Leaving
pub mod Locating
pub mod Replacing
