pub mod Cases
pub mod StepCases
pub mod OutputCases
