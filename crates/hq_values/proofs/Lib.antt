pub mod Ascii
pub mod Digits
pub mod Hex
pub mod QueueIds
pub mod Truths
pub mod Turns
pub mod Alike
pub mod Parts
