pub mod Rooms
pub mod RunEnds
pub mod TickRows
