pub mod Saved
pub mod Steps
