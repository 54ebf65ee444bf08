pub mod Growing
pub mod LongLines
pub mod NumberLists
pub mod Refusing
pub mod Valued
pub mod Replied
