pub mod Seen
pub mod Items
pub mod Keys
pub mod Sound
