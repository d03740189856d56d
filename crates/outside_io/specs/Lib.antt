pub mod Counts
pub mod Files
pub mod Bytes
pub mod Memory
pub mod ShelfFields
pub mod SinkFields
