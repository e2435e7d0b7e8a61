-- What a client chooses among valid replies.
use Rattle.std.proofs.Common.{◌≡◌, ℕ, ◌+◌, ◌<◌, Bool, true, false, cond, ◌⊎◌, inl, inr, List}
use Rattle.std.proofs.Common.{[], ◌∷◌, Option, Some, None, refl, ap, sym, ◌∙◌, subst, arith}
use Rattle.std.specs.Prelude.{map, count_by, MatchBool, IfSome}
use Rattle.std.specs.List.{Contains}
use Rattle.std.proofs.lemmas.List.Sums.{sum_by-cons}
use Rattle.std.proofs.lemmas.Bool.{cases_Bool, or_cases, not-false}
use Rattle.basil_types.specs.declared.replayed.Latest.{Latest}
use Rattle.basil_types.specs.declared.version.Version.{Version}
use Rattle.basil_types.specs.Latest.{leaves}
use Rattle.basil_types.specs.Transaction.{TransactionValue, id, version_of}
use Rattle.basil_types.specs.Version.{genesis, same_version, AreToldApart}
use Rattle.basil_types.proofs.MemberLaws.{in_head, in_tail, hit_of, in_map}
use Rattle.basil_types.proofs.ReplayLaws.{left_some}
use Rattle.frame_views.specs.Signed.{committed_told, version_told}
use Rattle.frame_views.specs.Values.{CommittedValue, ReadValue, ReadReplyValue}
use Rattle.certificates.specs.Accepted.{Accepted}
use Rattle.client_reads.specs.declared.choice.Choice.{Choice}
use Rattle.client_reads.specs.declared.versions.ReplyVersions.{ReplyVersions}
use Rattle.client_reads.specs.Choosing.{carries_committed, is_committed, IsCommitted, IsPrepared}
use Rattle.client_reads.specs.Laws.{ChoicesCarried}
use Rattle.client_reads.specs.Replies.{IsSeen, IsSeenCommitted}
use Rattle.client_reads.specs.Versions.{carried_versions}
use Rattle.agreement_laws.specs.Words.{Id}
use Rattle.serial_laws.specs.Bases.{Basis, IsText}
use Rattle.serial_laws.specs.Reads.{IsTaken}
use Rattle.serial_laws.proofs.Forms.{good}
use Rattle.law_joins.specs.Choices.{Carries, AreSeen, CarriesVersion, choice_among, read_part, IsTakenWell, ChoicesAreTaken}

-- a count above 0 has a hit
counted : {A : Type 0} (p : A → Bool) (xs : List A) → 0 < count_by p xs → (x : A) × Contains xs x × (p x ≡ true)
counted p [] h = absurd (omega (arith, h))
counted {A} p (x ∷ xs) h =
    by (p x) refl (subst (λ (n : ℕ). 0 < n) (sum_by-cons (λ y. cond (p y) 1 0) x xs) h) (counted p xs)
  where
    by : (t : Bool) → p x ≡ t → 0 < cond t 1 0 + count_by p xs →
        (0 < count_by p xs → (y : A) × Contains xs y × (p y ≡ true)) → (y : A) × Contains (x ∷ xs) y × (p y ≡ true)
    by true e k f = (x, in_head x xs, e)
    by false e k f = let o = f (omega (arith, k)) in (o.0, in_tail x xs o.0 o.1, o.2)

module _ (A : Accepted) (b : Basis) (shown : Id → Bool) (read : ReadValue) (replies : List ReadReplyValue)
    (same : AreToldApart) (carried : ChoicesCarried) (valid : AreSeen A b shown read replies) where
  abbrev versions : List ReplyVersions
  versions = map carried_versions replies

  abbrev c : Choice
  c = choice_among b replies

  -- what is carried is seen by the read
  seen : (reply : ReadReplyValue) (t : TransactionValue) → Contains replies reply → Carries reply t → IsSeen read t
  seen reply t i (inl h) =
      let v = (valid reply i).0 in
      let P : Option CommittedValue → Type 0 = λ o. IfSome o (IsSeenCommitted A b.numbers read) in
      subst (IsSeen read) h.2 (subst P h.1 v.committed).seen
  seen reply t i (inr h) =
      let v = (valid reply i).0 in
      let P : Option TransactionValue → Type 0 = λ o. IfSome o (IsSeen read) in
      subst P h v.prepared

  not_genesis : (t : TransactionValue) → IsSeen read t → version_of t ≡ genesis → ⊥
  not_genesis t s e = (good t s.form).time (ap (λ (v : Version). v.time) e)

  -- a reply that tells a version other than genesis carries it
  abbrev CommittedAt : ReadReplyValue → Version → Type 0
  CommittedAt reply v = (part : CommittedValue) × (reply.committed ≡ Some part) × (version_of part.transaction ≡ v)

  committed_carried : (reply : ReadReplyValue) (v : Version) → committed_told reply.committed ≡ v → (v ≡ genesis) ⊎ CommittedAt reply v
  committed_carried reply v e = by reply.committed refl e
    where
      by : (o : Option CommittedValue) → reply.committed ≡ o → committed_told o ≡ v → (v ≡ genesis) ⊎ CommittedAt reply v
      by None p k = inl (sym k)
      by (Some part) p k = inr (part, p, k)

  abbrev PreparedAt : ReadReplyValue → Version → Type 0
  PreparedAt reply v = (t : TransactionValue) × (reply.prepared ≡ Some t) × (version_of t ≡ v)

  prepared_carried : (reply : ReadReplyValue) (v : Version) → version_told reply.prepared ≡ v → (v ≡ genesis) ⊎ PreparedAt reply v
  prepared_carried reply v e = by reply.prepared refl e
    where
      by : (o : Option TransactionValue) → reply.prepared ≡ o → version_told o ≡ v → (v ≡ genesis) ⊎ PreparedAt reply v
      by None p k = inl (sym k)
      by (Some t) p k = inr (t, p, k)

  abbrev Found : Version → Type 0
  Found v = (v ≡ genesis) ⊎ ((t : TransactionValue) × CarriesVersion replies v t)

  found_committed : (v : Version) → IsCommitted versions v → Found v
  found_committed v (inl e) = inl e
  found_committed v (inr h) =
      let m = in_map carried_versions replies h.1 (h.0, h.2, h.3) in
      elim (committed_carried m.0 v (ap (λ (z : ReplyVersions). z.committed) m.2 ∙ h.4)) [
        | inl g ↦ inl g
        | inr o ↦ inr ((o.0).transaction, record { reply = m.0; given = m.1; carries = inl (o.0, o.1, refl); version = o.2 })
      ]

  found_prepared : (v : Version) → IsPrepared b.numbers versions v → Found v
  found_prepared v h =
      let k = counted (λ (r : ReplyVersions). same_version r.prepared v) versions (omega (arith, h)) in
      let m = in_map carried_versions replies k.0 k.1 in
      elim (prepared_carried m.0 v (ap (λ (z : ReplyVersions). z.prepared) m.2 ∙ (same (k.0).prepared v).0 k.2)) [
        | inl g ↦ inl g
        | inr o ↦ inr (o.0, record { reply = m.0; given = m.1; carries = inr o.1; version = o.2 })
      ]

  some : Found c.version
  some = by c.dependency (carried b.numbers versions)
    where
      by : (d : Bool) → MatchBool d (IsPrepared b.numbers versions c.version) (IsCommitted versions c.version) → Found c.version
      by true h = found_prepared c.version h
      by false h = found_committed c.version h

  -- where the choice is no dependency, what has its version was shown as committed
  shown_at : (t : TransactionValue) → IsSeen read t → version_of t ≡ c.version → c.dependency ≡ false → shown (id t) ≡ true
  shown_at t s e d =
      let counts = not-false (is_committed versions c.version) d in
      elim (or_cases (same_version c.version genesis) (carries_committed versions c.version) counts) [
        | inl g ↦ absurd (not_genesis t s (e ∙ (same c.version genesis).0 g))
        | inr h ↦
            let k = hit_of (λ (r : ReplyVersions). same_version r.committed c.version) versions h in
            let m = in_map carried_versions replies k.0 k.1 in
            let told = ap (λ (z : ReplyVersions). z.committed) m.2 ∙ (same (k.0).committed c.version).0 k.2 in
            elim (committed_carried m.0 c.version told) [
              | inl g ↦ absurd (not_genesis t s (e ∙ g))
              | inr o ↦
                  let ids : id (o.0).transaction ≡ id t = ap (λ (v : Version). v.id) (o.2 ∙ sym e) in
                  ap shown (sym ids) ∙ (valid m.0 m.1).1.certified o.0 o.1
            ]
      ]

  taken : (t : TransactionValue) → IsText b t → IsSeen read t → version_of t ≡ c.version →
      IsTaken b shown (read_part read c) (leaves t read.key)
  taken t text s e =
      let l = left_some (version_of t) t.writes read.key s.writes in
      let P : Option Latest → Type 0 = λ o. IsTaken b shown (read_part read c) o in
      let cause : (shown (id t) ≡ true) ⊎ (c.dependency ≡ true) =
      elim (cases_Bool c.dependency) [ inl d ↦ inr d | inr d ↦ inl (shown_at t s e d) ] in
      subst P (sym (l.2 None)) (t, text, e, l.2 None, cause)

  pub well : IsTakenWell b shown read replies c
  well = record {
    absent = λ e. e;
    found = λ t h. taken t ((valid h.reply h.given).1.texts t h.carries) (seen h.reply t h.given h.carries) h.version;
    some = some;
  }

pub choices_are_taken : AreToldApart → ChoicesCarried → ChoicesAreTaken
choices_are_taken same carried A b shown read replies valid = well A b shown read replies same carried valid
