mod Amounts
mod Booked
mod Bounding
mod Checked
mod Conserving
mod Entering
mod Moves
mod Posted
mod Reading
mod Ruling
pub mod Runs
mod Standing
mod Stepping
mod Ties
mod Told
mod Turns
mod Tying
mod WorkedPosted
