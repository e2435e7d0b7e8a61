-- What is kept stays fit to be written.
use Rattle.std.proofs.Common.{◌≡◌, ℕ, ◌<◌, ◌⊎◌, inl, inr, Bool, true, false, cond, Option, Some, None, refl, sym, ap, subst, ◌∙◌}
use Rattle.std.proofs.Common.{arith}
use Rattle.std.specs.Prelude.{◌&&◌, ◌==◌, ◌≢◌, option_map, nat_lt, Result, Ok, Err, OnOk, OnErr}
use Rattle.std.specs.Bool.{beq}
use Rattle.std.specs.Option.{ForSome}
use Rattle.std.proofs.lemmas.Bool.{and_parts, eqb-true}
use Rattle.std.proofs.lemmas.Bool.Decides.{eqb_tells}
use Rattle.basil_types.specs.declared.party.Decision.{Decision}
use Rattle.basil_types.specs.Decision.{is_commit}
use Rattle.frame_values.specs.declared.owned.certificate.Certificate.{Certificate}
use Rattle.frame_values.specs.declared.owned.parts.InvokePart.{InvokePart}
use Rattle.frame_values.specs.declared.owned.parts.LogPart.{LogPart}
use Rattle.frame_values.specs.Owned.{certificate_value}
use Rattle.frame_views.specs.Fitting.{widest, FitsCertificate}
use Rattle.frame_views.specs.Values.{LogReplyValue, CertificateValue}
use Rattle.client_recover.specs.declared.logs.LastLog.{LastLog}
use Rattle.client_recover.specs.declared.logs.Latest.{Latest}
use Rattle.client_recover.specs.declared.logs.Logs.{Logs}
use Rattle.client_recover.specs.declared.pursuit.Last.TheVariants as last
use Rattle.client_recover.specs.Kept.{as_part, as_latest}
use Rattle.client_recover.specs.Replies.{part_at, same_key, earliest_at, latest_at, put_back, is_of, latest_with, SameLogs, NotesFirst}
use Rattle.client_recover.specs.Replies.{ForgetsFirst}
use Rattle.client_recover.specs.Replies.{AreBelow, NotesLatest}
use Rattle.client_recover.specs.Writable.{IsSound, IsEarliest, IsLatest, AreSound, PutsBack, IsSoundLast, FitsOutcome}
use Rattle.client_recover.proofs.FitLaws.{for_one, for_none}

-- ---- a log reply more

first_sound : (old : Logs) (r : LogReplyValue) (first : Bool) → IsSound r → AreSound old → (d : Decision) (view n : ℕ) →
    ForSome (cond (first && is_of r d view n) (Some (as_part r)) (earliest_at old d view n)) (IsEarliest view n)
first_sound old r first good sound d view n = by (first && is_of r d view n) refl
  where
    by : (b : Bool) → (first && is_of r d view n) ≡ b → ForSome (cond b (Some (as_part r)) (earliest_at old d view n)) (IsEarliest view n)
    by true e =
        let key = and_parts first (is_of r d view n) e in
        let outer = and_parts (beq (is_commit r.decision) (is_commit d) && (r.decided == view)) (r.replica == n) key.1 in
        let inner = and_parts (beq (is_commit r.decision) (is_commit d)) (r.decided == view) outer.0 in
        let views : r.decided ≡ view = eqb-true r.decided view inner.1 in
        for_one (IsEarliest view n) (as_part r)
        (record {
          numbered = eqb-true r.replica n outer.1;
          later = omega
              (arith, good.later, views);
          current = good.current;
          signature = good.signature;
        })
    by false e = sound.earliest d view n

sound_first : (old new : Logs) (r : LogReplyValue) (first : Bool) → NotesFirst old new r first → IsSound r → AreSound old → AreSound new
sound_first old new r first notes good sound =
    record {
      earliest = λ d view n p e. first_sound old r first good sound d view n p (sym (notes.earliest d view n) ∙ e);
      latest = λ n p e. sound.latest n p (sym (notes.latest n) ∙ e);
    }

later_sound : (r : LogReplyValue) (n : ℕ) → IsSound r → r.replica ≡ n → (o : Option InvokePart) → ForSome o (IsLatest n) → ForSome
    (latest_with r o) (IsLatest n)
later_sound r n good is None h =
    for_one (IsLatest n) (as_latest r)
    (record { numbered = is; decided = good.decided; later = good.later; current = good.current; signature = good.signature })
later_sound r n good is (Some best) h = by (nat_lt best.current r.current)
  where
    by : (b : Bool) → ForSome (cond b (Some (as_latest r)) (Some best)) (IsLatest n)
    by true = for_one (IsLatest n) (as_latest r)
        (record { numbered = is; decided = good.decided; later = good.later; current = good.current; signature = good.signature })
    by false = h

latest_sound : (old : Logs) (r : LogReplyValue) → IsSound r → AreSound old → (n : ℕ) →
    ForSome (cond (r.replica == n) (latest_with r (latest_at old n)) (latest_at old n)) (IsLatest n)
latest_sound old r good sound n = by (r.replica == n) refl
  where
    by : (b : Bool) → (r.replica == n) ≡ b → ForSome (cond b (latest_with r (latest_at old n)) (latest_at old n)) (IsLatest n)
    by true e = later_sound r n good (eqb-true r.replica n e) (latest_at old n) (sound.latest n)
    by false e = sound.latest n

sound_latest : (old new : Logs) (r : LogReplyValue) (before : Latest) → NotesLatest old new r before → IsSound r → AreSound old →
    AreSound new
sound_latest old new r before notes good sound =
    record {
      earliest = λ d view n p e. sound.earliest d view n p (sym (notes.earliest d view n) ∙ e);
      latest = λ n p e. latest_sound old r good sound n p (sym (notes.latest n) ∙ e);
    }

-- ---- what is alike

-- one way or the other
pub either_way : {A E : Type 0} {P Q T : Type 0} (r : Result A E) → OnOk r P → OnErr r Q → (P → T) → (Q → T) → T
either_way (Ok a) p q f g = f p
either_way (Err e) p q f g = g q

-- the maps are the same
pub sound_maps : (old new : Logs) → new.earliest ≡ old.earliest → new.latest ≡ old.latest → AreSound old → AreSound new
sound_maps old new earliest latest sound =
    record {
      earliest = λ d view n p e. sound.earliest d view n p
          (sym (ap (λ m. part_at m (is_commit d, view) n) earliest) ∙ e);
      latest = λ n p e. sound.latest n p
          (sym (ap (λ m. Rattle.indexmap.specs.IndexMap.get Rattle.std.specs.Prelude.nat_eq m n) latest) ∙ e);
    }

pub sound_unchanged : (old new : Logs) → new.earliest ≡ old.earliest → ((n : ℕ) → latest_at new n ≡ latest_at old n) → AreSound old →
    AreSound new
sound_unchanged old new earliest latest sound =
    record {
      earliest = λ d view n p e. sound.earliest d view n p
          (sym (ap (λ m. part_at m (is_commit d, view) n) earliest) ∙ e);
      latest = λ n p e. sound.latest n p (sym (latest n) ∙ e);
    }

pub sound_same : (old new : Logs) → SameLogs old new → AreSound old → AreSound new
sound_same old new same sound =
    record {
      earliest = λ d view n p e. sound.earliest d view n p (sym (same.earliest d view n) ∙ e);
      latest = λ n p e. sound.latest n p (sym (same.latest n) ∙ e);
    }

-- ---- a log reply is taken in two steps, and then counted

pub sound_more : (old middle new : Logs) (r : LogReplyValue) (first : Bool) (before : Latest) → NotesFirst old middle r first →
    NotesLatest middle new r before →
    (counted : Logs) → counted.earliest ≡ new.earliest → counted.latest ≡ new.latest → IsSound r → AreSound old → AreSound counted
sound_more old middle new r first before notes later counted same_earliest same_latest good sound =
    sound_maps new counted same_earliest same_latest
    (sound_latest middle new r before later good (sound_first old middle r first notes good sound))

-- what it replaced was kept
pub sound_before : (old middle new : Logs) (r : LogReplyValue) (first : Bool) (before : Latest) → NotesFirst old middle r first →
    NotesLatest middle new r before →
    AreSound old → PutsBack r.replica before
sound_before old middle new r first before notes later sound part e =
    sound.latest r.replica part (sym (notes.latest r.replica) ∙ sym later.back ∙ ap (λ b. put_back b (latest_at new r.replica)) e)

-- ---- the last one is taken back

pub sound_forgotten : (old new : Logs) (d : Decision) (view n : ℕ) → ForgetsFirst old new d view n → AreSound old → AreSound new
sound_forgotten old new d view n forgets sound =
    record {
      earliest = λ e v r p is. by e v r (same_key (is_commit d, view, n) (is_commit e, v, r)) p (sym (forgets.earliest e v r) ∙ is);
      latest = λ r p is. sound.latest r p (sym (forgets.latest r) ∙ is);
    }
  where
    by : (e : Decision) (v r : ℕ) (b : Bool) → ForSome (cond b None (earliest_at old e v r)) (IsEarliest v r)
    by e v r true = for_none (IsEarliest v r)
    by e v r false = sound.earliest e v r

pub sound_restored : (old new : Logs) (n : ℕ) (put : Option InvokePart) → new.earliest ≡ old.earliest →
    ((m : ℕ) → latest_at new m ≡ cond (n == m) put (latest_at old m)) → ForSome put (IsLatest n) → AreSound old → AreSound new
sound_restored old new n put earliest latest is sound =
    record {
      earliest = λ d view m p e. sound.earliest d view m p
          (sym (ap (λ ms. part_at ms (is_commit d, view) m) earliest) ∙ e);
      latest = λ m p e. by m (n == m) refl p (sym (latest m) ∙ e);
    }
  where
    by : (m : ℕ) (b : Bool) → (n == m) ≡ b → ForSome (cond b put (latest_at old m)) (IsLatest m)
    by m true e = λ p k. subst (λ (m : ℕ). IsLatest m p) (eqb-true n m e) (is p k)
    by m false e = sound.latest m

-- what the last one replaced
pub sound_last : (l : LastLog) → PutsBack l.replica l.latest → IsSoundLast (last.Log l)
sound_last l puts log e =
    let same : l ≡ log = cc in
    subst (λ (l : LastLog). PutsBack l.replica l.latest) same puts

-- ---- an outcome

-- none fits, and so does one that shows what fits
pub none_fits : (o : Option Certificate) → o ≡ None → FitsOutcome o
none_fits o none x e = absurd cc

pub shown_fits : (o : Option Certificate) (x : Option CertificateValue) → option_map certificate_value o ≡ x → ForSome x
    (FitsCertificate widest) → FitsOutcome o
shown_fits o x shows fits c e = fits (certificate_value c) (sym shows ∙ ap (option_map certificate_value) e)

-- ---- none is of a replica from a number on

and_false : (b : Bool) → (b && false) ≡ false
and_false true = refl
and_false false = refl

pub below_first : (old new : Logs) (r : LogReplyValue) (first : Bool) → NotesFirst old new r first → (n : ℕ) → r.replica < n →
    AreBelow n old → AreBelow n new
below_first old new r first notes n low h d view k far = notes.earliest d view k ∙ by first (eqb_tells r.replica k)
  where
    here : Option LogPart
    here = earliest_at old d view k

    by : (first : Bool) → (((r.replica == k) ≡ true) × (r.replica ≡ k)) ⊎ (((r.replica == k) ≡ false) × (r.replica ≢ k)) →
        cond (first && is_of r d view k) (Some (as_part r)) here ≡ None
    by first (inl e) = absurd (let t = e.1 in omega (arith, t, low, far))
    by true (inr e) =
        ap (λ b. cond b (Some (as_part r)) here)
        (ap (λ b. (beq (is_commit r.decision) (is_commit d) && (r.decided == view)) && b) e.0
        ∙ and_false (beq (is_commit r.decision) (is_commit d) && (r.decided == view)))
        ∙ h d view k far
    by false (inr e) = h d view k far

pub below_latest : (old new : Logs) (r : LogReplyValue) (before : Latest) → NotesLatest old new r before → (n : ℕ) → AreBelow n old →
    AreBelow n new
below_latest old new r before notes n h d view k far = notes.earliest d view k ∙ h d view k far

pub below_forgotten : (old new : Logs) (d : Decision) (view m : ℕ) → ForgetsFirst old new d view m → (n : ℕ) → AreBelow n old →
    AreBelow n new
below_forgotten old new d view m forgets n h e v k far =
    forgets.earliest e v k ∙ by (same_key (is_commit d, view, m) (is_commit e, v, k))
  where
    by : (b : Bool) → cond b None (earliest_at old e v k) ≡ None
    by true = refl
    by false = h e v k far

pub below_same : (old new : Logs) → SameLogs old new → (n : ℕ) → AreBelow n old → AreBelow n new
below_same old new same n h d view k far = same.earliest d view k ∙ h d view k far
