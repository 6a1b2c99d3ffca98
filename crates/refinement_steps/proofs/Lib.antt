pub mod EndedList
pub mod StepsSame
pub mod CloseSame
pub mod CloseBlocks
pub mod StepAnswer
