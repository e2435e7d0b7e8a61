pub mod Halves
pub mod TextLaws
pub mod SignerLaws
pub mod PartLaws
pub mod LookLaws
pub mod RoomLaws
