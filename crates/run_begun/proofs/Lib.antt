mod PartLaws
mod AddingLaws
