mod Leading
mod Rows
mod Refusals
mod Frames
mod OneAnswer
mod Sessions
mod RunProofs
mod Completeness
