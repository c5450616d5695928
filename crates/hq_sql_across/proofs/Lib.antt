pub mod Calls
pub mod Cut
pub mod Found
pub mod Passing
pub mod Replied
pub mod Rounds
pub mod Telling
