pub mod Ownership
pub mod Ways
pub mod WantedPorts
pub mod Begins
pub mod EmptyChannels
mod WrongOnes
pub mod Words
pub mod Latched
