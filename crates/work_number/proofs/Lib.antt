pub mod NumberAnswer
