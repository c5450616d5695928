pub mod Seek
pub mod Entered
pub mod Segment
pub mod Entries
pub mod Whose
pub mod Reading
