mod ChoiceLaws
mod LaneLaws
mod BlockLaws
mod WordLaws
mod ChainLaws
mod RotationLaws
