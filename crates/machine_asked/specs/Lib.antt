pub use Rattle.machine_core.specs.Rounds
pub mod Asked
pub mod Inside
pub mod Opened
pub mod GoingOn
pub mod Hosts
pub mod Near
