pub mod Customers
pub mod Lines
pub mod Performs
pub mod Printed
pub mod Rounds
