pub mod Stream
pub mod Views
pub mod Watching
pub mod Whole
