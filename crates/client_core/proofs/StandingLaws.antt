-- What a pursuit tells, whether or not a frame is held back.
use Rattle.std.proofs.Common.{◌≡◌, Bool, true, false}
use Rattle.client_recover.specs.declared.pursuit.Pursuit.{Pursuit}
use Rattle.client_recover.specs.Standing.{StandsFor, GoesBackTo}
use Rattle.client_recover.specs.Taken.{PursuitValue}
use Rattle.client_core.specs.Showing.{StandsNow}

pub now_transaction : (held_back : Bool) (u : Pursuit) (p : PursuitValue) → StandsNow held_back u p → u.transaction ≡ p.transaction
now_transaction true u p h = let g : GoesBackTo u p = h in g.transaction
now_transaction false u p h = let g : StandsFor u p = h in g.transaction

pub now_signature : (held_back : Bool) (u : Pursuit) (p : PursuitValue) → StandsNow held_back u p → u.signature ≡ p.signature
now_signature true u p h = let g : GoesBackTo u p = h in g.signature
now_signature false u p h = let g : StandsFor u p = h in g.signature
