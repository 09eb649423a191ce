-- Worked cases: what the definitions give on small datasets.
pub mod Words
pub mod ListLosesCell
pub mod NoList
pub mod NamedGraph
pub mod IdleCommits
pub mod NestedList
pub mod MixedValues
pub mod AskedQuestions
pub mod NearTerms
pub mod ListForms
pub mod SharedNodes
