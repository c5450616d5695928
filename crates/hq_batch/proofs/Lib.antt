pub mod Logging
pub mod InRounds
pub mod Lined
pub mod Replying
pub mod Ends
pub mod Printed
