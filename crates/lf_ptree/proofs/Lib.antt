mod Ordered
pub mod PairsLemmas
pub mod PagesLemmas
pub mod RootsLemmas
pub mod RemovalLemmas
pub mod RangeLemmas
