pub mod Step
pub mod Command
pub mod Text
pub mod Rows
pub mod Said
pub mod Records
pub mod Obeying
pub mod Responding
