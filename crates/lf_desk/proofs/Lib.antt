pub mod Passing
pub mod PatchAnswers
pub mod FrameAnswers
pub mod Found
