mod KeepLaws
mod ProvenLaws
mod PairLaws
mod SightLaws
mod NoteLaws
mod BackLaws
mod AgainLaws
mod OrderLaws
