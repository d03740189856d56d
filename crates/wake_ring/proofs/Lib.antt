pub mod Flags
pub mod Members
pub mod Order
pub mod Rings
pub mod Worked
