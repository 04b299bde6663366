-- What the C functions write into the eight words that the caller lends.
pub mod AnswerWords
