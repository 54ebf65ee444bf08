pub mod Order
pub mod Ports
pub mod Number
pub mod Rising
pub mod Failing
