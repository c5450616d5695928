pub mod Held
pub mod History
pub mod Next
pub mod Steps
pub mod Talked
pub mod Turns
