pub mod Firsts
pub mod Results
pub mod Settled
pub mod StepFaults
