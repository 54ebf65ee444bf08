pub mod Rising
pub mod Ranges
pub mod Services
pub mod Turns
pub mod Orders
pub mod Courses
pub mod Rows
pub mod Served
pub mod Known
pub mod Built
pub mod Apart
pub mod OneTag
pub mod Words
pub mod Found
pub mod Replied
pub mod OfRuns
pub mod WeakRuns
mod Examples
