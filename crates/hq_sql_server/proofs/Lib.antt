pub mod Memory
pub mod Servers
pub mod Untold
