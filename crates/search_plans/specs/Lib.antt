pub mod Drawn
pub mod Plans
pub mod Steps
pub mod Wishes
