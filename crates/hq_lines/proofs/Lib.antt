pub mod First
pub mod Lines
pub mod Steps
pub mod Texts
pub mod Told
pub mod Written
