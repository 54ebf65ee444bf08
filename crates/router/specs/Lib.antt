pub mod Table
pub mod Ways
pub mod Reach
pub mod Owned
pub mod Kept
pub mod Inside
pub mod Beginning
