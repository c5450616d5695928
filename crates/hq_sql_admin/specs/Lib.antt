pub mod Calls
pub mod Migrations
pub mod Requests
pub mod Rounds
pub mod Words
