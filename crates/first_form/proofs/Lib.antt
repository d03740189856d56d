pub mod FirstReading
pub mod SameMeaning
