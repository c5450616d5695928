pub mod Queued
pub mod Entries
pub mod Searches
pub mod Whose
pub mod Leaving
pub mod InShort
