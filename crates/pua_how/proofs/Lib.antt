mod NamesLeadToThing
mod Means
mod Lived
mod LineOfTarget
mod Coming
mod Given
mod Granting
mod Outlooking
mod Meaning
mod SameSteps
mod Staying
mod StepsComeToCall
pub mod ForCallers
mod Unlaid
