pub mod Plans
pub mod Labels
pub mod Fates
pub mod Waits
pub mod Watches
pub mod Simulated
pub mod Written
pub mod Answers
