pub mod CopyWork
