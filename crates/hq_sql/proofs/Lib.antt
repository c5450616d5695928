pub mod Tables
pub mod Texts
pub mod Keeping
pub mod Steps
pub mod Statements
pub mod OnHeads
pub mod Walking
