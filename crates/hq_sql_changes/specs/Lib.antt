pub mod Accounts
pub mod Transacted
pub mod Moved
pub mod Dropped
pub mod OneMoved
pub mod Done
