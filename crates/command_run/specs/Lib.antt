pub mod Workers
pub mod Watched
pub mod Ends
