pub mod RuledLemmas
pub mod LooksLemmas
pub mod GreetedLemmas
pub mod ChoicesLemmas
pub mod RestWithinLemmas
pub mod JournalsLemmas
pub mod EndsLemmas
pub mod ToldAtLemmas
pub mod HallPlacesLemmas
pub mod SessionPlacesLemmas
pub mod ServedLemmas
pub mod WordsLemmas
pub mod WitnessesLemmas
pub mod RunClosesLemmas
mod JournalWordsLemmas
mod SameLabsLemmas
mod AskingLinesLemmas
mod FinishesLemmas
mod HaltingLemmas
mod SameAuditsLemmas
mod SameRulingsLemmas
mod ListsLemmas
mod ColumnsLemmas
mod ZipsLemmas
mod WeavingLemmas
mod AnswersLemmas
mod HallStepsLemmas
mod ConversationsLemmas
mod OneScriptLemmas
mod OneScriptServedLemmas
mod ClassesLemmas
