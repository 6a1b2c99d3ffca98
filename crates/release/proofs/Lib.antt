pub mod ReleaseLoop
pub mod OtherBuffers
