pub mod Sessions
pub mod Together
