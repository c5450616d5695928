pub mod Cases
pub mod Lists
pub mod OwnedPages
pub mod Pages
pub mod Parts
pub mod Totals
pub mod Unique
pub mod Mapped
