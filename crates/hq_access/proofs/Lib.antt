pub mod Asking
pub mod Domains
pub mod Weighing
