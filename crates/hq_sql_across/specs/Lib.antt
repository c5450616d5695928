pub mod Rounds
pub mod Stopped
pub mod Visits
