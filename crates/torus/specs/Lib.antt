pub mod Shape
pub mod Refusal
pub mod Digits
pub mod Inside
pub mod FaultCode
pub mod Filled
pub mod Choices
