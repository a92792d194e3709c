pub mod Answers
pub mod RecordAnswers
pub mod VsetAnswers
pub mod FieldTable
pub mod Calls
pub mod EditReads
pub mod Steps
