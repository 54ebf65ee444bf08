pub mod Zones
pub mod Told
pub mod Conflicts
pub mod Looks
pub mod Cited
