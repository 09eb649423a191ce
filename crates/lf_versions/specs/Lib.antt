pub mod Commits
pub mod Numbered
pub mod Changes
pub mod ChangeLaws
