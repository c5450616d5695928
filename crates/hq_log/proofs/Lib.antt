pub mod NoFloats
pub mod Shown
pub mod Told
