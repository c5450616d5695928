pub mod Stored
pub mod Changed
pub mod Filled
pub mod Made
pub mod Left
pub mod Values
