pub mod Texts
pub mod Between
pub mod Lists
pub mod Dealt
pub mod Parts
pub mod OnQueued
