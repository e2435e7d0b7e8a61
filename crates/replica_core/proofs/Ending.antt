-- The votes that an outcome releases, planned and given.
use Rattle.std.proofs.Common.{◌≡◌, ℕ, zero, suc, ◌+◌, ◌<◌, ◌≤◌, Bool, cond, List, [], ◌∷◌, ◌++◌, length, map, Option}
use Rattle.std.proofs.Common.{Some, None, refl, sym, ap, subst, ◌∙◌, arith}
use Rattle.std.specs.Prelude.{slice_get, slice_set, is_some}
use Rattle.std.specs.Option.{option_map_or, option_and_then}
use Rattle.std.proofs.lemmas.Bool.{lt-ltb, le-ltb}
use Rattle.basil_types.specs.declared.outbox.Envelope.{Envelope}
use Rattle.basil_types.specs.declared.party.Party.{Party}
use Rattle.basil_types.specs.declared.party.Decision.{Decision}
use Rattle.basil_types.specs.Words.{SignedWords, words_of}
use Rattle.basil_types.specs.Transaction.{TransactionValue, id}
use Rattle.certificates.specs.Accepted.{Accepted}
use Rattle.frame_views.specs.Values as values
use Rattle.frame_views.specs.Values.{VotedValue}
use Rattle.frame_writing.specs.Unsigned.{EndsSigned, unsigned_vote}
use Rattle.keyring.specs.Signing.{Signing}
use Rattle.node_steps.specs.Envelopes.{EnvelopeValue}
use Rattle.node_steps.specs.Framed.{framed}
use Rattle.node_steps.specs.Pendings.{seal_front, sealed}
use Rattle.node_steps.specs.Pens.{after_one, pen_value}
use Rattle.txn_table.specs.declared.released.Home.{Home}
use Rattle.txn_table.specs.declared.released.Supposed.{Supposed}
use Rattle.txn_table.specs.Entries.{EntryValue, arrived, voted, is_waiting, decision_of, askers_of}
use Rattle.txn_table.specs.Laws.{Ascend, ReleasedAscend}
use Rattle.txn_table.specs.Tables.{id_of, place_of, changed}
use Rattle.replica_core.specs.declared.refusal.Refusal.TheVariants.{Exhausted}
use Rattle.replica_core.specs.declared.seat.Seat.{Seat}
use Rattle.replica_core.specs.declared.work.Release.{Release}
use Rattle.replica_core.specs.FirstStage.{vote_to, vote_value}
use Rattle.replica_core.specs.Fronts.{vote_said}
use Rattle.replica_core.specs.Known.{with_known, changed_at}
use Rattle.replica_core.specs.KnownWorks.{CanReleaseAll, all_released, released_told}
use Rattle.replica_core.specs.Releases.{release_front, IsReleaseOf, AreReleasesOf, AreWithin, released_by}
use Rattle.replica_core.specs.Replicas.{ReplicaSelf, Done}
use Rattle.replica_core.specs.Seats.{self_at}
use Rattle.replica_core.specs.Signing.{exhausted}
use Rattle.replica_core.specs.Telling.{Told, told}
use Rattle.replica_core.specs.Writebacks.{releases, release_entry, release_one, release_all}
use Rattle.replica_core.proofs.Planning.{map_sealed}

-- ---- which votes are released

got_held : (es : List EntryValue) (p : ℕ) (e : EntryValue) → slice_get es p ≡ Some e → p < length es
got_held [] p e h = absurd cc
got_held (d ∷ es) zero e h = omega arith
got_held (d ∷ es) (suc p) e h = let i = got_held es p e h in omega (arith, i)

ascend_within : (s : Supposed) (es : List EntryValue) (k : ℕ) (rs : List (ℕ × Decision)) → Ascend s es k rs → AreWithin es rs
ascend_within s es k [] a = tt
ascend_within s es k (r ∷ rs) a = (got_held es r.0 a.1.entry a.1.at, ascend_within s es (r.0 + 1) rs a.2)

pub released_within : ReleasedAscend → (home : Home) (es : List EntryValue) (o : Option ℕ) (d : Decision) →
    AreWithin es (released_by home es o d)
released_within law home es None d = tt
released_within law home es (Some place) d = let s : Supposed = record { place = place; outcome = d } in
    ascend_within s es 0 _ (law home s es)

pub releases_are : (me : ReplicaSelf) (es : List EntryValue) (o : Option ℕ) (d : Decision) → releases me es o d ≡ released_by me.home es o d
releases_are me es None d = refl
releases_are me es (Some place) d = refl

-- ---- entries that are as they were, from a place on, but for one

abbrev pub Agree : ℕ → List EntryValue → ℕ → List EntryValue → Type 0
Agree place es k now = (q : ℕ) → k ≤ q → (q ≡ place → ⊥) → (e : EntryValue) → slice_get es q ≡ Some e → slice_get now q ≡ Some e

pub set_other : (es : List EntryValue) (p q : ℕ) (x : EntryValue) → (q ≡ p → ⊥) → slice_get (slice_set es p x) q ≡ slice_get es q
set_other [] p q x n = refl
set_other (d ∷ es) zero zero x n = absurd (n refl)
set_other (d ∷ es) zero (suc q) x n = refl
set_other (d ∷ es) (suc p) zero x n = refl
set_other (d ∷ es) (suc p) (suc q) x n = set_other es p q x (λ e. n (ap suc e))

pub changed_other : (f : EntryValue → EntryValue) (es : List EntryValue) (p q : ℕ) → (q ≡ p → ⊥) →
    slice_get (changed f p es) q ≡ slice_get es q
changed_other f es p q n = by (slice_get es p) refl
  where
    by : (o : Option EntryValue) → slice_get es p ≡ o →
        slice_get (option_map_or (λ (e : EntryValue). slice_set es p (f e)) o es) q ≡ slice_get es q
    by None h = refl
    by (Some e) h = set_other es p q (f e) n

agree_next : (place : ℕ) (es now : List EntryValue) (k : ℕ) (r : ℕ) (f : EntryValue → EntryValue) → k ≤ r → Agree place es k now →
    Agree place es (r + 1) (changed f r now)
agree_next place es now k r f h a q l n e g = changed_other f now r q (λ i. omega (arith, l, i)) ∙ a q (omega (arith, h, l)) n e g

-- the change of a known transaction leaves the other entries
agree_known : (es : List EntryValue) (t : TransactionValue) (p : ℕ) (f : EntryValue → EntryValue) (now : List EntryValue) →
    place_of es (id t) ≡ Some p → now ≡ changed_at f (id t) (with_known es t) → Agree p es 0 now
agree_known es t p f now at n q l o e g =
    let same : now ≡ changed f p es =
    n ∙ ap (changed_at f (id t)) (ap (λ (o : Option ℕ). cond (is_some o) es (es ++ arrived t ∷ [])) at)
    ∙ ap (λ (o : Option ℕ). option_map_or (λ place. changed f place es) o es) at in
    ap (λ l. slice_get l q) same ∙ changed_other f es p q o ∙ g

-- ---- they can be given

pub can_all : (seat : Seat) (size : ℕ) (s : Supposed) (es now : List EntryValue) (k : ℕ) (rs : List (ℕ × Decision)) (vs : List Release) →
    Ascend s es k rs → AreReleasesOf seat size es rs vs → Agree s.place es k now → CanReleaseAll size now vs
can_all seat size s es now k [] [] a i g = tt
can_all seat size s es now k [] (v ∷ vs) a i g = absurd i
can_all seat size s es now k (r ∷ rs) [] a i g = absurd i
can_all seat size s es now k (r ∷ rs) (v ∷ vs) a i g =
    let e = a.1.entry in
    let at : slice_get now v.place ≡ Some e = ap (slice_get now) i.0.place ∙ g r.0 a.0 a.1.other e a.1.at in (
      record {
        held = got_held now v.place e at;
        undecided = ap (option_and_then decision_of) at ∙ a.1.undecided;
        waiting = λ x h. let z : Some e ≡ Some x = sym at ∙ h in let y : e ≡ x = cc in
            ap (λ (x : EntryValue). is_waiting x.vote) (sym y) ∙ a.1.waits;
        ready = i.0.ready;
      },
      (λ g'. can_all seat size s es (changed (voted v.decision g' None) v.place now) (r.0 + 1) rs vs a.2 i.1
          (subst (λ (n : ℕ). Agree s.place es (r.0 + 1) (changed (voted v.decision g' None) n now)) (sym i.0.place)
          (agree_next s.place es now k r.0 (voted v.decision g' None) a.0 g))),
    )

pub end_can : ReleasedAscend →
    (seat : Seat) (size : ℕ) (home : Home) (es now : List EntryValue) (t : TransactionValue) (f : EntryValue → EntryValue) (d : Decision)
    (vs : List Release) → AreReleasesOf seat size es (released_by home es (place_of es (id t)) d) vs →
    now ≡ changed_at f (id t) (with_known es t) → CanReleaseAll size now vs
end_can law seat size home es now t f d vs are n = by (place_of es (id t)) refl vs are
  where
    by : (o : Option ℕ) → place_of es (id t) ≡ o → (vs : List Release) → AreReleasesOf seat size es (released_by home es o d) vs →
        CanReleaseAll size now vs
    by None at [] are = tt
    by None at (v ∷ vs) are = absurd are
    by (Some p) at vs are = let s : Supposed = record { place = p; outcome = d } in
        can_all seat size s es now 0 _ vs (law home s es) are (agree_known es t p f now at n)

pub as_many : (seat : Seat) (size : ℕ) (es : List EntryValue) (rs : List (ℕ × Decision)) (vs : List Release) →
    AreReleasesOf seat size es rs vs → length vs ≡ length rs
as_many seat size es [] [] a = refl
as_many seat size es [] (v ∷ vs) a = absurd a
as_many seat size es (r ∷ rs) [] a = absurd a
as_many seat size es (r ∷ rs) (v ∷ vs) a = ap suc (as_many seat size es rs vs a.1)

pub short_of : (spent left n : ℕ) → left < n → exhausted n (pen_value spent left) ≡ Some (Exhausted left)
short_of spent left n h = ap (λ (b : Bool). cond b (Some (Exhausted left)) None) (lt-ltb left n h)

pub enough_of : (spent left n : ℕ) → n ≤ left → exhausted n (pen_value spent left) ≡ None
enough_of spent left n h = ap (λ (b : Bool). cond b (Some (Exhausted left)) None) (le-ltb left n h)

-- ---- what they give

framed_push : (xs ys : List EnvelopeValue) → map framed (xs ++ ys) ≡ map framed xs ++ map framed ys
framed_push [] ys = refl
framed_push (x ∷ xs) ys = ap (λ l. framed x ∷ l) (framed_push xs ys)

said_push : (xs : List SignedWords) (w : SignedWords) → map words_of (xs ++ w ∷ []) ≡ map words_of xs ++ words_of w ∷ []
said_push [] w = refl
said_push (x ∷ xs) w = ap (λ l. words_of x ∷ l) (said_push xs w)

module _ (seat : Seat) (accepts : Accepted) (signing : Signing) (ascends : ReleasedAscend)
    (law : ((m : VotedValue) → EndsSigned (values.Vote m) (unsigned_vote m) m.signature)) where
  sent_askers : (named : List ℕ) (d : Decision) (g : List ℕ) (ps : List Party) →
      map framed (map (λ asker. vote_to asker (vote_value (self_at seat accepts signing) [] named d None g)) ps) ≡ map (seal_front g)
      (map (release_front seat named d) ps)
  sent_askers named d g [] = refl
  sent_askers named d g (p ∷ ps) =
      ap (λ (b : List ℕ). (let e : Envelope = record { to = p; frame = b } in
      e) ∷ map framed (map (λ asker. vote_to asker (vote_value (self_at seat accepts signing) [] named d None g)) ps))
      (law (vote_value (self_at seat accepts signing) [] named d None g))
      ∙ ap (λ l. seal_front g (release_front seat named d p) ∷ l) (sent_askers named d g ps)

  pub one_told : (size : ℕ) (es : List EntryValue) (r : ℕ × Decision) (v : Release) (done : Done) → (i : IsReleaseOf seat size es r v) →
      slice_get done.book.entries r.0 ≡ Some i.entry →
      released_told signing (told done) v ≡ told (release_one (self_at seat accepts signing) r done)
  one_told size es r v done i at =
      let e = i.entry in
      let me : ReplicaSelf = self_at seat accepts signing in
      let spent = done.book.pen.spent in
      let w = vote_said seat (id_of e) r.1 in
      let g = signing.gives spent (words_of w) in
      let made : List ℕ → ℕ → Decision → List Envelope → Told =
      λ x p d sent. record {
        book = record (done.book)
            { entries = changed (voted d (signing.gives spent x) None) p done.book.entries; pen = after_one done.book.pen };
        signed = map words_of done.signed ++ x ∷ [];
        sent = map framed done.sent ++ sent;
      } in
      let fronts : map (sealed g) v.pending.frames.items ≡ map framed
      (map (λ asker. vote_to asker (vote_value me [] (id_of e) r.1 None g)) (askers_of e.vote)) =
      sym (map_sealed g v.pending.frames.items) ∙ ap (map (seal_front g)) i.fronts ∙ sym (sent_askers (id_of e) r.1 g (askers_of e.vote)) in
      ap (λ (x : List ℕ). made x v.place v.decision (map (sealed (signing.gives spent x)) v.pending.frames.items)) i.words
      ∙ ap (λ (p : ℕ). made (words_of w) p v.decision (map (sealed g) v.pending.frames.items)) i.place
      ∙ ap (λ (d : Decision). made (words_of w) r.0 d (map (sealed g) v.pending.frames.items)) i.decision
      ∙ ap (made (words_of w) r.0 r.1) fronts
      ∙ ap (λ (s : List (List ℕ)). let t : Told = record
      (made (words_of w) r.0 r.1
      (map framed (map (λ asker. vote_to asker (vote_value me [] (id_of e) r.1 None g)) (askers_of e.vote)))) { signed = s } in
      t) (sym (said_push done.signed w))
      ∙ ap (λ (s : List Envelope). let t : Told = record (told (release_entry me r.0 r.1 done e)) { sent = s } in
      t) (sym (framed_push done.sent (map (λ asker. vote_to asker (vote_value me [] (id_of e) r.1 None g)) (askers_of e.vote))))
      ∙ sym (ap (λ (o : Option EntryValue). told (option_map_or (release_entry me r.0 r.1 done) o done)) at)

  pub told_all : (size : ℕ) (s : Supposed) (es : List EntryValue) (k : ℕ) (rs : List (ℕ × Decision)) (vs : List Release) (done : Done)
      (t : Told) → Ascend s es k rs → AreReleasesOf seat size es rs vs → Agree s.place es k done.book.entries → t ≡ told done →
      told (release_all (self_at seat accepts signing) rs done) ≡ all_released signing vs t
  told_all size s es k [] [] done t a i g h = sym h
  told_all size s es k [] (v ∷ vs) done t a i g h = absurd i
  told_all size s es k (r ∷ rs) [] done t a i g h = absurd i
  told_all size s es k (r ∷ rs) (v ∷ vs) done t a i g h =
      let me : ReplicaSelf = self_at seat accepts signing in
      let at : slice_get done.book.entries r.0 ≡ Some i.0.entry = g r.0 a.0 a.1.other i.0.entry i.0.at in
      let next : released_told signing t v ≡ told (release_one me r done) = ap (λ t. released_told signing t v) h
      ∙ one_told size es r v done i.0 at in
      let is : release_one me r done ≡ release_entry me r.0 r.1 done i.0.entry = ap
      (λ (o : Option EntryValue). option_map_or (release_entry me r.0 r.1 done) o done) at in
      told_all size s es (r.0 + 1) rs vs (release_one me r done) (released_told signing t v) a.2 i.1
      (subst (λ (d : Done). Agree s.place es (r.0 + 1) d.book.entries) (sym is)
      (agree_next s.place es done.book.entries k r.0
      (voted r.1 (signing.gives done.book.pen.spent (words_of (vote_said seat (id_of i.0.entry) r.1))) None) a.0 g))
      next

  pub end_told : (size : ℕ) (es : List EntryValue) (t : TransactionValue) (f : EntryValue → EntryValue) (d : Decision) (vs : List Release)
      (done : Done) (x : Told) → AreReleasesOf seat size es (released_by seat.home es (place_of es (id t)) d) vs →
      done.book.entries ≡ changed_at f (id t) (with_known es t) → x ≡ told done →
      told (release_all (self_at seat accepts signing) (releases (self_at seat accepts signing) es (place_of es (id t)) d) done) ≡
      all_released signing vs x
  end_told size es t f d vs done x are n h = by (place_of es (id t)) refl vs are
    where
      by : (o : Option ℕ) → place_of es (id t) ≡ o → (vs : List Release) → AreReleasesOf seat size es (released_by seat.home es o d) vs →
          told (release_all (self_at seat accepts signing) (releases (self_at seat accepts signing) es o d) done) ≡ all_released signing
          vs x
      by None at [] are = sym h
      by None at (v ∷ vs) are = absurd are
      by (Some p) at vs are = let s : Supposed = record { place = p; outcome = d } in
          told_all size s es 0 _ vs done x (ascends seat.home s es) are (agree_known es t p f done.book.entries at n) h
