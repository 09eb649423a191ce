pub mod Documents
pub mod FrameRow
