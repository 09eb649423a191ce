pub mod OrderLemmas
pub mod ScanLemmas
pub mod AnswerLemmas
pub mod LoopLemmas
pub mod IndexLemmas
pub mod ApplyLemmas
pub mod AskLemmas
