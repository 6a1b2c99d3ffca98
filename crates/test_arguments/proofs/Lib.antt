pub mod ArgumentTests
