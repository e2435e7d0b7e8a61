-- A frame that a replica accepts has 1 to 1,048,576 bytes.
use Rattle.std.proofs.Common.{◌≡◌, ℕ, ◌≤◌, Bool, true, false, cond, ltb, List, [], ◌∷◌, length, Result, Ok, Err, refl, arith}
use Rattle.std.proofs.lemmas.Bool.{ltb-false}
use Rattle.std.proofs.Math.Bridge.{le_prop}
use Rattle.std.proofs.Math.Logic.{∥∥₁_elim}
use Rattle.basil_types.specs.Limits.{frame_limit}
use Rattle.basil_types.specs.declared.party.Party.{Party}
use Rattle.frame_views.specs.declared.fault.BadFrame.{BadFrame}
use Rattle.frame_views.specs.declared.fault.BadFrame.TheVariants as bad
use Rattle.frame_views.specs.declared.bounds.Bounds.{Bounds}
use Rattle.frame_views.specs.Fitting.{bounds_of}
use Rattle.frame_views.specs.Frames.{frame_in, message_in}
use Rattle.frame_views.specs.Values.{MessageValue}
use Rattle.node_steps.specs.Pens.{PenValue}
use Rattle.replica_core.specs.declared.parts.Parts.{Parts}
use Rattle.replica_core.specs.Nodes.{IsShown, Shows}
use Rattle.replica_core.specs.Telling.{Told, told_of}
use Rattle.replica_core.specs.Answers.{answer, answer_read_frame}
use Rattle.replica_core.specs.Replicas.{ReplicaSelf, BookValue, Done}
use Rattle.node_journal.proofs.TakenLaws.{planned-ok}

pub record HasSize (frame : List ℕ) : Type 0 where
  pub some : 1 ≤ length frame
  pub short : length frame ≤ frame_limit

empty-is_none : (b : Bounds) (m : MessageValue) → message_in b [] ≡ Ok m → ⊥
unfolding message_in
empty-is_none b m e = cc

not_empty : (b : Bounds) (frame : List ℕ) (m : MessageValue) → message_in b frame ≡ Ok m → 1 ≤ length frame
not_empty b [] m e = absurd (empty-is_none b m e)
not_empty b (x ∷ xs) m e = omega arith

by_length : (long : Bool) (r : Result MessageValue BadFrame) (m : MessageValue) → cond long (Err bad.Length) r ≡ Ok m →
    (long ≡ false) × (r ≡ Ok m)
by_length true r m e = absurd cc
by_length false r m e = (refl, e)

frame-has_size : (b : Bounds) (frame : List ℕ) (m : MessageValue) → frame_in b frame ≡ Ok m → HasSize frame
unfolding frame_in
frame-has_size b frame m e =
    let p = by_length (ltb frame_limit (length frame)) (message_in b frame) m e in
    record { some = not_empty b frame m p.1; short = ltb-false _ _ p.0 }

read-accepted : (me : ReplicaSelf) (now : ℕ) (from : Party) (book : BookValue) (r : Result MessageValue BadFrame) (done : Done) →
    answer_read_frame me now from book r ≡ Ok done → (m : MessageValue) × (r ≡ Ok m)
read-accepted me now from book (Ok m) done e = (m, refl)
read-accepted me now from book (Err fault) done e = absurd cc

pub accepted-has_size : (me : ReplicaSelf) (now : ℕ) (from : Party) (book : BookValue) (frame : List ℕ) (done : Done) →
    answer me now from book frame ≡ Ok done → HasSize frame
accepted-has_size me now from book frame done e =
    let m = read-accepted me now from book (frame_in (bounds_of me.home.cluster) frame) done e in
    frame-has_size (bounds_of me.home.cluster) frame m.0 m.1

planned-has_size : (me : ReplicaSelf) (now : ℕ) (from : Party) (book : BookValue) (frame : List ℕ) (t : Told) →
    told_of (answer me now from book frame) ≡ Ok t → HasSize frame
planned-has_size me now from book frame t e =
    let q = planned-ok (answer me now from book frame) t e in
    accepted-has_size me now from book frame q.0 q.1

-- some book is shown, so what is planned of every book has a size
pub sized-by : (me : ReplicaSelf) (now : ℕ) (from : Party) (frame : List ℕ) (parts : Parts) (pen : PenValue) → ∥ IsShown parts pen ∥₁ →
    ((book : BookValue) → Shows parts pen book → (t : Told) × (told_of (answer me now from book frame) ≡ Ok t)) → HasSize frame
sized-by me now from frame parts pen shown planned =
    let of : IsShown parts pen → HasSize frame =
    λ x. let t = planned x.0 x.1 in planned-has_size me now from x.0 frame t.0 t.1 in
    record {
      some = ∥∥₁_elim shown le_prop (λ x. (of x).some);
      short = ∥∥₁_elim shown le_prop (λ x. (of x).short);
    }
