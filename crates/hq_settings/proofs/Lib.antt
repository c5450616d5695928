pub mod Failing
pub mod Keys
pub mod Customers
pub mod Named
