pub mod ReturnAnswer
