pub mod Form
pub mod Head
pub mod InsideHead
pub mod Reasons
