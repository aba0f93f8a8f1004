pub mod Form
pub mod Limits
pub mod Meaning
pub mod Packing
pub mod Placed
pub mod Reading
pub mod Refusals
