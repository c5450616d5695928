pub mod Columns
pub mod DateTexts
pub mod Days
pub mod Groups
pub mod Joined
pub mod Parted
pub mod Printed
pub mod Writing
