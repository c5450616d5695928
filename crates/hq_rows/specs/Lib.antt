pub mod Listed
pub mod Lookups
