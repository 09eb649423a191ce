pub mod RegisterAnswer
pub mod CommitAnswer
pub mod Looks
pub mod Seats
pub mod Calls
pub mod AnswerLaws
pub mod WorkedAnswers
pub mod Rotas
