pub mod EndPages
pub mod LinePages
pub mod NoRows
pub mod NoticePages
pub mod Notices
pub mod Pages
