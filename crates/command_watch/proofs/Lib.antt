pub mod Refusing
pub mod WholeTraces
