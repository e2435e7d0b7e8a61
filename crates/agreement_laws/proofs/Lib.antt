pub mod Puts
pub mod Growth
pub mod Signings
pub mod VoteSteps
pub mod LogSteps
pub mod Views
pub mod Safety
pub mod Staying
mod ExampleRun
mod DividedRun
pub mod ListSets
