pub mod FrameTexts
pub mod Answers
pub mod Laws
pub mod Worked
