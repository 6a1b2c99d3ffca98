-- Cases of the definitions beside: evidence, which has not to be believed.
pub mod Forms
pub mod CallCases
pub mod Distinctions
pub mod WrongAnswers
pub mod CopyCases
pub mod Outputs
pub mod WrongOutputs
