pub mod Alone
pub mod Exchanging
pub mod Numbers
pub mod OneLine
pub mod Serving
pub mod Called
pub mod Stopping
pub mod Written
