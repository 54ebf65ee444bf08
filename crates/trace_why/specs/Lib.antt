pub mod Before
pub mod Calls
pub mod Certified
pub mod Refused
pub mod Told
pub mod Values
pub mod Why
