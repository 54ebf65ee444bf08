pub mod Refusing
pub mod Answering
