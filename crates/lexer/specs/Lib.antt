pub mod Before
pub mod Faults
pub mod Joined
pub mod Named
pub mod Numbers
pub mod Outcome
pub mod Spelled
pub mod Words
