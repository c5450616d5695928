pub mod Queued
pub mod Dealt
pub mod Parts
