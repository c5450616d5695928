pub mod Called
pub mod Reasons
