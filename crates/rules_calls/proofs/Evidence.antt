-- Cases of the definitions beside: evidence, which has not to be believed.
pub mod Computed
pub mod CallCases
pub mod Distinctions
pub mod Questions
pub mod WrongAnswers
pub mod CopyCases
pub mod WrongOutputs
