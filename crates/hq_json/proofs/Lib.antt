pub mod Escapes
pub mod OneLine
pub mod Closing
pub mod ReadBack
pub mod PartTexts
