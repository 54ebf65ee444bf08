pub mod Counts
mod Examples
pub mod Literals
pub mod Places
