pub mod RowProofs
pub mod VerdictProofs
pub mod NearTerms
pub mod ViewRefs
pub mod MatchProofs
pub mod Learnt
