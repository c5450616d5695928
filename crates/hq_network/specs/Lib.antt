pub mod Networks
pub mod Places
