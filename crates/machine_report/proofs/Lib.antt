pub mod RowMore
pub mod Rows
pub mod Limits
pub mod Fitting
pub mod Mapped
pub mod Contents
pub mod Good
