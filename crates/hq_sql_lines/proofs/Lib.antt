pub mod Texts
pub mod Backs
pub mod OnLines
pub mod OnLinePages
pub mod MarkTexts
pub mod OnMarks
