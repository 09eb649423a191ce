pub mod History
pub mod Replay
pub mod Legal
pub mod LegalProp
pub mod Jobs
pub mod JobCases
pub mod HistoryLaws
pub mod Worked
