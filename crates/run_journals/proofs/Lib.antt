mod TookLaws
mod RoomLaws
mod StopLaws
mod PairLaws
