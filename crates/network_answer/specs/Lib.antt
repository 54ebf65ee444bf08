pub mod Answer
pub mod Judging
pub mod OneFlit
pub mod Routing
pub mod Causes
pub mod Totals
pub mod Reached
