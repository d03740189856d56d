pub mod AskedForms
pub mod AskedLaws
pub mod FormLaws
pub mod Recordings
pub mod Suites
