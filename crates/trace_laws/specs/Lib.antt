pub mod Traces
pub mod Orders
pub mod Legal
pub mod Locality
pub mod Paths
pub mod Configs
pub mod Searches
pub mod Unanswered
