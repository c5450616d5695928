mod Folded
pub mod Given
