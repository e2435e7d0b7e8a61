mod PenLaws
mod SentLaws
mod SaidLaws
mod HearLaws
mod ListLaws
mod HeardLaws
mod TallyLaws
mod SecondLaws
