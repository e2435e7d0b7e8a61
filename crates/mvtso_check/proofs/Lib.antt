pub mod CrossingLaws
pub mod HitLaws
pub mod BookLaws
pub mod SearchLaws
pub mod VerdictLaws
pub mod SafeLaws
pub mod HeldLaws
pub mod StandingLaws
