pub mod Fetching
pub mod Meaning
pub mod OneText
pub mod SomeText
