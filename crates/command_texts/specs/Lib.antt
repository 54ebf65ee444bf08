pub mod Lines
pub mod Done
pub mod Run
pub mod Rounds
pub mod Calls
pub mod Telling
pub mod Ends
