pub mod Pieces
pub mod Waiting
pub mod Watching
pub mod Simulating
pub mod Telling
pub mod Numbers
