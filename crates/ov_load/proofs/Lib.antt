pub mod Asking
pub mod Counting
pub mod LendingLoads
pub mod LoadEnds
pub mod LoadTracing
pub mod WorkloadSteps
