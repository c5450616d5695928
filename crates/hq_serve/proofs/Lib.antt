pub mod Connected
pub mod InRounds
pub mod Logging
pub mod Taking
