-- The claim, in reading order: what a reader has to believe of scripts, and of what their lines do and are answered.
pub mod Limits
pub mod Requests
pub mod Scripts
pub mod FaultTexts
pub mod Canonical
pub mod Openings
pub mod Decide
pub mod Replay
pub mod AnswerTexts
-- What is proved of these. (Of Confinement `object_in` and `has_c` are also part of what pua_ever claims.)
pub mod ScriptGrammar
pub mod Guards
pub mod Laws
pub mod Bytes
pub mod Devices
pub mod Family
pub mod Tightening
pub mod OpeningLaws
pub mod Holding
pub mod Confinement
pub mod ErrorTables
pub mod Futures
-- Worked rows, which hold by computation.
pub mod Examples
-- Notes: what a reader of lines adds, a request with other arguments, for which worlds of the replay a world of the code stands, what it decides, and how it
-- compares the names of texts.
pub mod Added
pub mod Regiven
pub mod Worlds
pub mod Pasts
pub mod Judged
pub mod Beside
