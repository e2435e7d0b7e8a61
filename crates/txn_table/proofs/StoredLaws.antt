-- What is stored passes its test, through each change.
use Rattle.std.proofs.Common.{◌≡◌, ℕ, zero, suc, Bool, true, List, [], ◌∷◌, ◌++◌, Option, Some, None, refl, sym, ap, ◌∙◌}
use Rattle.std.specs.Prelude.{slice_get, slice_set, ◌&&◌}
use Rattle.std.proofs.lemmas.Bool.{and_parts, and_from}
use Rattle.basil_types.specs.declared.party.Party.{Party}
use Rattle.basil_types.specs.Transaction.{TransactionValue}
use Rattle.txn_table.specs.Entries.{VoteValue, Unvoted, Waiting, Voted, EntryValue, arrived, asked, asked_vote, voted, decided}
use Rattle.txn_table.specs.Laws.{StoredStays}
use Rattle.txn_table.specs.Stored.{is_vote_stored, is_outcome_stored, is_stored, are_stored}
use Rattle.txn_table.specs.Tables.{changed}
use Rattle.txn_table.proofs.IdLaws.{changed_some, changed_none}

module _ (signature certificate : List ℕ → Bool) where
  abbrev one : EntryValue → Bool
  one = is_stored signature certificate

  abbrev all : List EntryValue → Bool
  all = are_stored signature certificate

  got : (es : List EntryValue) (p : ℕ) (e : EntryValue) → all es ≡ true → slice_get es p ≡ Some e → one e ≡ true
  got [] p e k h = absurd cc
  got (d ∷ es) zero e k h = let is : d ≡ e = cc in ap one (sym is) ∙ (and_parts (one d) (all es) k).0
  got (d ∷ es) (suc p) e k h = got es p e (and_parts (one d) (all es) k).1 h

  set : (es : List EntryValue) (p : ℕ) (x : EntryValue) → all es ≡ true → one x ≡ true → all (slice_set es p x) ≡ true
  set [] p x k h = k
  set (d ∷ es) zero x k h = and_from (one x) (all es) h (and_parts (one d) (all es) k).1
  set (d ∷ es) (suc p) x k h = let q = and_parts (one d) (all es) k in and_from (one d) (all (slice_set es p x)) q.0 (set es p x q.1 h)

  arrives : (es : List EntryValue) (t : TransactionValue) → all es ≡ true → all (es ++ arrived t ∷ []) ≡ true
  arrives [] t k = refl
  arrives (d ∷ es) t k = let q = and_parts (one d) (all es) k in and_from (one d) (all (es ++ arrived t ∷ [])) q.0 (arrives es t q.1)

  change : (f : EntryValue → EntryValue) (es : List EntryValue) (p : ℕ) → all es ≡ true
      → ((e : EntryValue) → one e ≡ true → one (f e) ≡ true) → all (changed f p es) ≡ true
  change f es p k h = by (slice_get es p) refl
    where
      by : (o : Option EntryValue) → slice_get es p ≡ o → all (changed f p es) ≡ true
      by None g = ap all (changed_none f es p g) ∙ k
      by (Some e) g = ap all (changed_some f es p e g) ∙ set es p (f e) k (h e (got es p e k g))

  asks : (asker : Party) (v : VoteValue) (b : Bool) → (is_vote_stored signature v && b) ≡ true
      → (is_vote_stored signature (asked_vote asker v) && b) ≡ true
  asks asker Unvoted b k = k
  asks asker (Waiting askers) b k = k
  asks asker (Voted vote bytes proof) b k = k

  pub stored_stays : StoredStays signature certificate
  stored_stays = record {
    arrives = arrives;
    asks = λ es p asker k. change (asked asker) es p k (λ e. asks asker e.vote (is_outcome_stored certificate e.outcome));
    votes = λ es p vote bytes proof k s.
        change (voted vote bytes proof) es p k (λ e h. and_from (signature bytes) (is_outcome_stored certificate e.outcome) s
        (and_parts (is_vote_stored signature e.vote) (is_outcome_stored certificate e.outcome) h).1);
    decides = λ es p outcome bytes k s.
        change (decided outcome bytes) es p k (λ e h. and_from (is_vote_stored signature e.vote)
        (certificate bytes) (and_parts (is_vote_stored signature e.vote) (is_outcome_stored certificate e.outcome) h).0 s);
    signed = λ es p e vote bytes proof k h is.
        sym (ap (is_vote_stored signature) is)
        ∙ (and_parts (is_vote_stored signature e.vote) (is_outcome_stored certificate e.outcome) (got es p e k h)).0;
    proven = λ es p e outcome k h is.
        sym (ap (is_outcome_stored certificate) is)
        ∙ (and_parts (is_vote_stored signature e.vote) (is_outcome_stored certificate e.outcome) (got es p e k h)).1;
  }
