mod ErrorNames
pub mod JsonLemmas
pub mod TreeLemmas
pub mod ValueLemmas
