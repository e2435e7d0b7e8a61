-- What a store stands for after a change of one entry.
use Rattle.std.proofs.Common.{◌≡◌, ℕ, ◌+◌, Bool, true, false, List, [], ◌∷◌, ◌++◌, Option, None, refl, sym, ap, subst, ◌∙◌, arith}
use Rattle.std.specs.Prelude.{slice_set, is_none, ◌&&◌, ◌||◌}
use Rattle.basil_types.specs.declared.party.Party.{Party}
use Rattle.basil_types.specs.declared.party.Decision.{Decision}
use Rattle.basil_types.specs.declared.party.Decision.TheVariants.{Commit, Abort}
use Rattle.basil_types.specs.Transaction.{TransactionValue}
use Rattle.txn_table.specs.Entries.{EntryValue, VoteValue, Unvoted, Waiting, Voted, arrived, asked}
use Rattle.txn_table.specs.Entries.{asked_vote, voted, decided, decision_of, is_voted, is_waiting}
use Rattle.txn_table.specs.Laws.{KeepsTransactions}
use Rattle.txn_table.specs.Released.{is_committed}
use Rattle.txn_table.specs.Tables.{changed}
use Rattle.txn_table.proofs.IdLaws.{changed_some}
use Rattle.mv_store.specs.declared.store.Store.{Store}
use Rattle.mv_store.specs.Held.{Held, entered, removed}
use Rattle.mv_store.specs.Store.{Stands, HaveSame, Enters, TakesOut}
use Rattle.mv_store.proofs.MemberLaws.{stands_by_elements}
use Rattle.mvtso_check.specs.Book.{stands, has_committed, held_at, held_in, waits_or_commits}
use Rattle.mvtso_check.specs.Standing.{StandsAfter, IsEntry, IsOpen, HeldOnes, StoresFollow}
use Rattle.mvtso_check.proofs.HeldLaws.{taken_out, put_in, stays_in, arrives_out, no_other, held_apart, same_itself_all}

-- ---- which ones stand

abbrev stands_by : VoteValue → Option Decision → Bool
stands_by v d = (waits_or_commits v && is_none d) || is_committed d

asked_stands : (asker : Party) (v : VoteValue) → is_voted v ≡ false → stands_by (asked_vote asker v) None ≡ true
asked_stands asker Unvoted i = refl
asked_stands asker (Waiting askers) i = refl
asked_stands asker (Voted vote signature proof) i = absurd cc

waiting_stands : (v : VoteValue) → is_waiting v ≡ true → stands_by v None ≡ true
waiting_stands Unvoted i = absurd cc
waiting_stands (Waiting askers) i = refl
waiting_stands (Voted vote signature proof) i = absurd cc

and_false : (a b : Bool) → ((a && false) || b) ≡ b
and_false true b = refl
and_false false b = refl

-- ---- a change of one entry

module _ (f : EntryValue
    → EntryValue) (keeps : KeepsTransactions f) (es : List EntryValue) (p : ℕ) (e : EntryValue) (is : IsEntry es p e) where
  entering : (committed : Bool) → stands (f e) ≡ true → has_committed (f e) ≡ committed
      → HaveSame (entered (held_in es) e.transaction p committed) (held_in (changed f p es))
  entering committed s c =
      let z : 0 + p ≡ p = omega arith in
      let one : held_at (0 + p) (f e) ≡ (let h : Held = record { place = p; committed = committed; transaction = e.transaction } in h) =
      ap (λ (q : ℕ). held_at q (f e)) z
      ∙ ap (λ (d : Bool). let h : Held = record { place = p; committed = d; transaction = (f e).transaction } in h) c
      ∙ ap (λ (u : TransactionValue). let h : Held = record { place = p; committed = committed; transaction = u } in h) (keeps e) in
      subst (λ hs. HaveSame (entered (held_in es) e.transaction p committed) hs) (ap held_in (sym (changed_some f es p e is.at)))
      (subst (λ (h : Held). HaveSame (removed (held_in es) e.transaction
      ++ h ∷ []) (held_in (slice_set es p (f e)))) one (put_in 0 es p e (f e) is.distinct is.at s))

  leaving : stands (f e) ≡ false → held_in (changed f p es) ≡ removed (held_in es) e.transaction
  leaving s = ap held_in (changed_some f es p e is.at) ∙ sym (taken_out 0 es p e (f e) is.distinct is.at s)

  staying : stands (f e) ≡ stands e → has_committed (f e) ≡ has_committed e → held_in (changed f p es) ≡ held_in es
  staying s c =
      ap held_in (changed_some f es p e is.at)
      ∙ stays_in 0 es p e (f e) is.at s
      (ap (λ (u : TransactionValue). let h : Held =
      record { place = 0 + p; committed = has_committed (f e); transaction = u } in h) (keeps e)
      ∙ ap (λ (d : Bool). let h : Held = record { place = 0 + p; committed = d; transaction = e.transaction } in h) c)

module _ (es : List EntryValue) (p : ℕ) (e : EntryValue) where
  asks : (asker : Party) → IsEntry es p e → IsOpen e → is_voted e.vote ≡ false
      → HaveSame (entered (held_in es) e.transaction p false) (held_in (changed (asked asker) p es))
  asks asker is o v = entering (asked asker) (λ e. refl) es p e is false (ap (stands_by (asked_vote asker e.vote)) o
      ∙ asked_stands asker e.vote v) (ap is_committed o)

  votes_commit : (signature : List ℕ) (proof : Option ℕ) → IsEntry es p e → IsOpen e
      → HaveSame (entered (held_in es) e.transaction p false) (held_in (changed (voted Commit signature proof) p es))
  votes_commit signature proof is o =
      entering (voted Commit signature proof)
      (λ e. refl) es p e is false (ap (stands_by (Voted Commit signature proof)) o) (ap is_committed o)

  votes_abort : (signature : List ℕ) (proof : Option ℕ) → IsEntry es p e → IsOpen e
      → held_in (changed (voted Abort signature proof) p es) ≡ removed (held_in es) e.transaction
  votes_abort signature proof is o =
      leaving (voted Abort signature proof) (λ e. refl) es p e is (ap (stands_by (Voted Abort signature proof)) o)

  commits : (certificate : List ℕ) → IsEntry es p e
      → HaveSame (entered (held_in es) e.transaction p true) (held_in (changed (decided Commit certificate) p es))
  commits certificate is = entering (decided Commit certificate) (λ e. refl) es p e is true (and_false (waits_or_commits e.vote) true) refl

  aborts : (certificate : List ℕ) → IsEntry es p e → held_in (changed (decided Abort certificate) p es) ≡ removed (held_in es) e.transaction
  aborts certificate is = leaving (decided Abort certificate) (λ e. refl) es p e is (and_false (waits_or_commits e.vote) false)

  waited : (signature : List ℕ) (proof : Option ℕ) → IsEntry es p e → IsOpen e → is_waiting e.vote ≡ true
      → held_in (changed (voted Commit signature proof) p es) ≡ held_in es
  waited signature proof is o w =
      staying (voted Commit signature proof) (λ e. refl) es p e is
      (ap (stands_by (Voted Commit signature proof)) o ∙ sym (ap (stands_by e.vote) o ∙ waiting_stands e.vote w)) refl

  unasked : (signature : List ℕ) (proof : Option ℕ) → IsEntry es p e → IsOpen e → e.vote ≡ Unvoted
      → held_in (changed (voted Abort signature proof) p es) ≡ held_in es
  unasked signature proof is o v =
      staying (voted Abort signature proof) (λ e. refl) es p e is
      (ap (stands_by (Voted Abort signature proof)) o
      ∙ sym (ap (λ (v : VoteValue). stands_by v (decision_of e)) v ∙ ap (stands_by Unvoted) o)) refl

pub held_ones : HeldOnes
held_ones = record {
  apart = λ es g h d i j v. held_apart 0 es g h d i j v;
  alone = λ es p e is. no_other 0 es p e is.distinct is.at;
  arrives = λ es t. arrives_out 0 es t;
  asks = asks;
  votes_commit = votes_commit;
  votes_abort = votes_abort;
  commits = commits;
  aborts = aborts;
  waited = waited;
  unasked = unasked;
}

-- ---- a store follows

module _ (old new : Store) (es now : List EntryValue) (p : ℕ) (e : EntryValue) (is : IsEntry es p e) where
  after_entering : (committed : Bool) → HaveSame (entered (held_in es) e.transaction p committed) (held_in now)
      → Enters old new e.transaction p committed → StandsAfter old es new now
  after_entering committed same enters noted s =
      stands_by_elements new _ (held_in now) noted noted
      (enters (held_in es) noted s (no_other 0 es p e is.distinct is.at)) same (same_itself_all noted)

  after_leaving : held_in now ≡ removed (held_in es) e.transaction → TakesOut old new e.transaction → StandsAfter old es new now
  after_leaving same takes noted s =
      subst (λ hs. Stands new hs noted) (sym same) (takes (held_in es) noted s (no_other 0 es p e is.distinct is.at))

after_staying : (store : Store) (es now : List EntryValue) → held_in now ≡ held_in es → StandsAfter store es store now
after_staying store es now same noted s = subst (λ hs. Stands store hs noted) (sym same) s

pub stores_follow : StoresFollow
stores_follow = record {
  arrives = λ store es t. after_staying store es (es ++ arrived t ∷ []) (arrives_out 0 es t);
  asks = λ old new es p e asker is o v.
      after_entering old new es (changed (asked asker) p es) p e is false (asks es p e asker is o v);
  votes_commit = λ old new es p e signature proof is o.
      after_entering old new es (changed (voted Commit signature proof) p es) p e is false
      (votes_commit es p e signature proof is o);
  votes_abort = λ old new es p e signature proof is o.
      after_leaving old new es (changed (voted Abort signature proof) p es) p e is
      (votes_abort es p e signature proof is o);
  commits = λ old new es p e certificate is.
      after_entering old new es (changed (decided Commit certificate) p es) p e is true
      (commits es p e certificate is);
  aborts = λ old new es p e certificate is.
      after_leaving old new es (changed (decided Abort certificate) p es) p e is
      (aborts es p e certificate is);
  waited = λ store es p e signature proof is o w.
      after_staying store es (changed (voted Commit signature proof) p es) (waited es p e signature proof is o w);
  unasked = λ store es p e signature proof is o v.
      after_staying store es (changed (voted Abort signature proof) p es) (unasked es p e signature proof is o v);
}
