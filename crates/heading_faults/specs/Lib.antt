pub mod SeenNames
pub mod Trees
pub mod ItemSets
pub mod NameFaults
pub mod Holding
pub mod HeldRanks
