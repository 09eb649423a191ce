mod Ordered
pub mod EntriesLemmas
