pub mod Rows
pub mod Causes
pub mod Unfit
pub mod Bound
pub mod Tables
pub mod Kept
pub mod Lent
pub mod Heads
