pub mod JsonBodies
pub mod Submitted
