pub mod CellTests
pub mod ClimbStates
pub mod Climbs
pub mod Hearings
mod Marking
pub mod Questions
mod Shapes
pub mod Walks
mod WalkStates
mod ItemByItem
mod Items
mod ReadStates
mod KnownWalks
mod KnownClimbs
