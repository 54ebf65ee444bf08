pub mod CircularJams
pub mod Lengths
pub mod Endpoints
pub mod Transactions
pub mod LockUps
pub mod Fillings
pub mod DeadSets
