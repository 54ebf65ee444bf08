pub mod Programs
pub mod Accesses
pub mod Traces
pub mod Values
pub mod Runs
