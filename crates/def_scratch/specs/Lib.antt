pub mod Scratch
pub mod Laws
pub mod RowWords
pub mod Rows
pub mod FrameRows
pub mod EdgeRows
