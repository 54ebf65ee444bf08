pub mod Keeps
pub mod Turning
pub mod Seating
pub mod Sharing
pub mod Learning
pub mod EndsShown
pub mod Closing
pub mod Meetings
pub mod SeenEnds
mod Cuts
mod Ranges
mod Fresh
mod Parting
mod Slots
mod Looking
mod Refusing
pub mod Counting
mod Starting
mod Takes
