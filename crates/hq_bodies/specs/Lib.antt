pub mod Outcomes
pub mod Queries
pub mod Reading
pub mod Tables
pub mod Submissions
