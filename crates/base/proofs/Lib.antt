pub mod Digits
mod Zeros
