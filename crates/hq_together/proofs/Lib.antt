pub mod InRounds
pub mod InTurns
pub mod Inside
pub mod OnDesks
pub mod Served
pub mod Wanted
pub mod Closing
