pub mod NoticeTexts
pub mod OnNotices
pub mod EndTexts
pub mod OnEnds
pub mod Adding
