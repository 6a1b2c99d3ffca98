pub mod Lives
pub mod OneList
