pub mod Ours
pub mod Stops
pub mod Reading
pub mod RoundCalls
pub mod RoundEnds
pub mod Migrated
pub mod Causes
pub mod Moved
