pub mod NeedLaws
