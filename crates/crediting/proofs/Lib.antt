pub mod Fewest
pub mod Rounding
pub mod Applying
