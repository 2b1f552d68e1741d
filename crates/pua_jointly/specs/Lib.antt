-- The claim, in reading order: what several processes can ever touch together, and when there is no such list.
pub mod Jointly
pub mod JointRefusals
pub mod JointPrograms
-- What is proved of exec on files.
pub mod JointStarts
pub mod JointLasting
-- Worked rows, which hold by computation.
pub mod JointlyExamples
-- Notes: what the code gathers before its first line, and the rows of its list.
pub mod Closing
pub mod JointFacts
pub mod JointTable
pub mod JointShape
pub mod JointPlace
pub mod JointWords
pub mod JointGround
pub mod JointOld
pub mod JointRounds
pub mod JointSetup
pub mod JointCovers
pub mod JointMembers
pub mod JointSetting
pub mod JointSides
pub mod JointFound
pub mod JointCalls
pub mod JointList
