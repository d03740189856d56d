pub mod Ticks
pub mod RootDo
