pub mod Homes
pub mod FlitsToPut
pub mod RequestWords
pub mod WantedPorts
pub mod EmptyChannels
pub mod MemoryReplays
mod WrongOnes
