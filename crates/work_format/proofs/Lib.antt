pub mod FormatPromise
