pub mod Steps
pub mod Boxes
pub mod MachineParts
pub mod WatchParts
mod Events
mod Stands
pub mod WatchBack
pub mod WatchPut
pub mod WatchSaves
