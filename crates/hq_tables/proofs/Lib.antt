pub mod Added
pub mod Customers
pub mod Empty
pub mod Orders
