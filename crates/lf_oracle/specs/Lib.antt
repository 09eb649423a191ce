pub mod Asking
pub mod Laws
pub mod Nearby
pub mod NodeViews
