pub mod Texts
pub mod InPlace
pub mod OnRecipients
pub mod Found
pub mod Loop
