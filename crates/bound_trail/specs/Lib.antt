pub mod History
pub mod Trail
