pub mod Coming
pub mod Connections
pub mod Logged
pub mod Rounds
pub mod Steps
pub mod Taking
