pub mod Wholes
pub mod Arguments
pub mod PartyArguments
pub mod BatchEnds
pub mod Ends
