pub mod PhaseRows
pub mod RootDo
pub mod Rooms
