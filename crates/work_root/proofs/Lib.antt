pub mod RootAnswer
