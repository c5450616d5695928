pub mod Places
pub mod Recipients
