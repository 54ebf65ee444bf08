pub mod Stretch
pub mod Meeting
pub mod Ranks
pub mod Certificates
pub mod Among
pub mod Checks
