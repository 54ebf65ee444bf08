pub mod ByWorkers
pub mod Shares
pub mod Joined
pub mod Lent
pub mod Watched
