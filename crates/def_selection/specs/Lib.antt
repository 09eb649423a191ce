pub mod Keywords
pub mod Slots
pub mod Chosen
pub mod Iris
pub mod SelectionCases
pub mod Laws
pub mod RoundTrip
