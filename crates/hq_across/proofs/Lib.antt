pub mod Answering
pub mod Across
pub mod Lost
pub mod Running
