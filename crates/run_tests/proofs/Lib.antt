pub mod DataWeights
pub mod LineFeeds
pub mod Migrations
pub mod NarrowData
pub mod RoundTrips
pub mod SampleCounts
pub mod WrittenData
