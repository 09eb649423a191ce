pub mod Appended
pub mod JobProofs
pub mod LegalProofs
pub mod LiveProofs
pub mod StandingProofs
pub mod PublishedProofs
pub mod TextProofs
