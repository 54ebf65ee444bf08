pub mod ServiceList
pub mod Inside
pub mod BankTable
pub mod Beginning
pub mod BankAgent
pub mod Reach
pub mod MemoryReplay
