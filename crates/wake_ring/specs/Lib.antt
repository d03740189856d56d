pub mod Flags
pub mod Links
pub mod Order
pub mod Queue
