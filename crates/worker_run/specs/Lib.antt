pub mod Working
pub mod Places
pub mod Calls
pub mod Watching
pub mod Going
pub mod RouterTurns
