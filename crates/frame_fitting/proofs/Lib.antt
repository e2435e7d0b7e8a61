pub mod LengthLaws
pub mod RoomWalks
pub mod RoomLaws
pub mod WiderLaws
