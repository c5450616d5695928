pub mod Actions
pub mod Customers
pub mod Keys
pub mod Limits
pub mod Messages
pub mod Patterns
pub mod Statuses
pub mod Tallies
