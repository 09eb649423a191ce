pub mod JsonText
pub mod JsonTextCases
