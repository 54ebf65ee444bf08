pub mod Recorded
pub mod Counted
pub mod Course
pub mod Arriving
pub mod EmptyChannels
pub mod WantedPorts
pub mod Reserved
