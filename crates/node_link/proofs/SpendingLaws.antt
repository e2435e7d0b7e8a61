-- The book of a node that serves is that of a replica that was handed so many frames.
use Rattle.std.proofs.Common.{◌≡◌, ℕ, zero, suc, ◌+◌, ◌≤◌, List, [], ◌∷◌, ◌++◌, length, length-append, take, refl, sym, ap, subst, ◌∙◌}
use Rattle.std.proofs.Common.{Result, Ok, Err, arith}
use Rattle.basil_types.specs.declared.links.LinkFail.{LinkFail}
use Rattle.basil_types.specs.declared.outbox.Envelope.{Envelope}
use Rattle.basil_types.specs.Setting.{Setting}
use Rattle.node_steps.specs.Pens.{PenValue}
use Rattle.replica_core.specs.Answers.{answer}
use Rattle.replica_core.specs.Replicas.{ReplicaSelf, BookValue, Done, empty_book}
use Rattle.replica_core.specs.declared.refusal.Refusal.{Refusal}
use Rattle.replica_laws.specs.Steps.{Handed, PlacesNeverRepeat, SignsNoMoreThanHanded, book_after, left_by, step}
use Rattle.node_link.specs.Connections.{Node, Whole, Cut, ServesNext, ServesPart, ServesParts, envelopes_of, served_of}
use Rattle.node_link.specs.Serving.{Served, next_moment, serves, serves_all}
use Rattle.node_link.specs.Serving as links
use Rattle.node_link.specs.Spending.{SignsWithinFrames}

module _ (me : ReplicaSelf) (pen : PenValue) where
  -- behind so many frames
  abbrev Reached : BookValue → ℕ → Type 0
  Reached book count = (hs : List Handed) × (book ≡ book_after me (empty_book pen) hs) × (length hs ≡ count)

  after_one_more : (book : BookValue) (hs : List Handed) (h : Handed) →
      book_after me book (hs ++ h ∷ []) ≡ (step me (book_after me book hs) h).book
  after_one_more book [] h = refl
  after_one_more book (x ∷ hs) h = after_one_more (step me book x).book hs h

  handed : Served → Envelope → Handed
  handed s e = record { now = next_moment s.moments; from = e.to; frame = e.frame }

  left_same : (book : BookValue) (answered : Result Done Refusal) → links.book_after book answered ≡ (left_by book answered).book
  left_same book (Ok done) = refl
  left_same book (Err refusal) = refl

  one_reached : (s : Served) (e : Envelope) (count : ℕ) → Reached s.book count → Reached (serves me s e).book (count + 1)
  one_reached s e count r =
      let h : Handed = record { now = next_moment s.moments; from = e.to; frame = e.frame } in
      let sum = length-append r.0 (h ∷ []) in
      let long = r.2 in (
        r.0 ++ h ∷ [],
        left_same s.book (answer me (next_moment s.moments) e.to s.book e.frame)
            ∙ ap (λ (b : BookValue). (step me b h).book) r.1 ∙ sym (after_one_more (empty_book pen) r.0 h),
        omega (arith, sum, long),
      )

  all_reached : (es : List Envelope) (s : Served) (count : ℕ) → Reached s.book count →
      Reached (serves_all me s es).book (count + length es)
  unfolding serves_all
  all_reached [] s count r = (let same : count ≡ count + 0 = omega arith in subst (Reached s.book) same r)
  all_reached (e ∷ es) s count r =
      let same : count + 1 + length es ≡ count + length (e ∷ es) = omega arith in
      subst (Reached (serves_all me (serves me s e) es).book) same
      (all_reached es (serves me s e) (count + 1) (one_reached s e count r))

  length_take : (n : ℕ) (es : List Envelope) → n ≤ length es → length (take n es) ≡ n
  length_take zero es h = refl
  length_take (suc n) [] h = absurd (omega (arith, h))
  length_take (suc n) (e ∷ es) h = ap suc (length_take n es (omega (arith, h)))

  part_reached : (fail : LinkFail) (cluster : Setting) (old new : Node) → ServesPart fail cluster me old new →
      Reached old.book old.frames → Reached new.book new.frames
  part_reached fail cluster old new p r =
      let es = envelopes_of cluster old in
      let all = all_reached (take p.handled es) (served_of old) old.frames r in
      let few = length_take p.handled es p.some.within in
      let frames : old.frames + length (take p.handled es) ≡ old.frames + p.handled = omega (arith, few) in
      subst (λ (n : Node). Reached n.book n.frames) (sym p.is)
      (subst (λ (b : BookValue). Reached b (old.frames + p.handled)) (sym p.some.book) (subst (Reached _) frames all))

  next_reached : (cluster : Setting) (old new : Node) (before failed : ℕ) → ServesNext cluster me old new before failed →
      Reached old.book old.frames → Reached new.book new.frames
  next_reached cluster old new before failed (Whole is none) r =
      subst (λ (n : Node). Reached n.book n.frames) (sym is)
      (all_reached (envelopes_of cluster old) (served_of old) old.frames r)
  next_reached cluster old new before failed (Cut part more) r = part_reached _ cluster old new part r

  parts_reached : (connections failed : ℕ) (cluster : Setting) (old new : Node) → ServesParts connections failed cluster me old new →
      Reached old.book old.frames → Reached new.book new.frames
  unfolding ServesParts
  parts_reached zero failed cluster old new p r = subst (λ (n : Node). Reached n.book n.frames) (sym p.1) r
  parts_reached (suc before) failed cluster old new p r =
      next_reached cluster p.0 new p.1 failed p.3 (parts_reached before p.1 cluster old p.0 p.2 r)

pub signs_within : PlacesNeverRepeat → SignsNoMoreThanHanded → SignsWithinFrames
signs_within repeats few cluster me pen connections failed old new empty none served =
    let r = parts_reached me pen connections failed cluster old new served ([], empty, sym none) in
    let at = (repeats me (empty_book pen) r.0).spent in
    let most = few me pen r.0 in
    let long = r.2 in
    let is : new.book.pen.spent ≡ (book_after me (empty_book pen) r.0).pen.spent = ap (λ (b : BookValue). b.pen.spent) r.1 in
    omega (arith, at, most, long, is)
