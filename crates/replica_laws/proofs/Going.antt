-- What each accepted answer does to the entries and to the pen.
use Rattle.std.proofs.Common.{◌≡◌, ℕ, ◌-◌, ◌≤◌, Bool, true, false, List, [], ◌++◌, length}
use Rattle.std.proofs.Common.{Option, Some, None, refl, sym, ap, subst, ◌∙◌, inl, inr, arith}
use Rattle.std.specs.Prelude.{Result, Ok, Err, slice_get, if◌then◌else◌, nat_lt, option_map, ⊤}
use Rattle.std.specs.Option.{option_map_or, option_and_then}
use Rattle.std.proofs.lemmas.Bool.{ltb-false}
use Rattle.std.proofs.lemmas.Option.{same_Some}
use Rattle.basil_types.specs.Built.{or_else}
use Rattle.basil_types.specs.declared.party.Decision.{Decision}
use Rattle.basil_types.specs.declared.party.Party.{Party}
use Rattle.basil_types.specs.Transaction.{TransactionValue, id}
use Rattle.basil_types.specs.Words.{SignedWords, LogReplyOf, VoteOf, VoteWords}
use Rattle.node_steps.specs.Pens.{PenValue, after_one}
use Rattle.node_steps.specs.Refusing.{unless, unless_refused}
use Rattle.txn_table.specs.Entries.{EntryValue, OutcomeValue, VoteValue, Unvoted, Waiting, Voted, arrived, asked, voted}
use Rattle.txn_table.specs.Laws.{IdsTellPlaces}
use Rattle.txn_table.specs.Tables.{changed, entry_with, id_of, place_of}
use Rattle.replica_core.specs.declared.refusal.Refusal.{Refusal}
use Rattle.replica_core.specs.FirstStage as first
use Rattle.replica_core.specs.Known.{changed_at, with_known}
use Rattle.replica_core.specs.Replicas.{ReplicaSelf, BookValue, Done, LoggedEntry, quiet}
use Rattle.replica_core.specs.Signing.{exhausted, signature, vote_words}
use Rattle.mvtso_check.specs.declared.verdict.Verdict.{Verdict}
use Rattle.mvtso_check.specs.declared.verdict.Verdict.TheVariants as verdicts
use Rattle.replica_laws.specs.Steps.{Grows, SaysLog, Spends, votes_on}
use Rattle.replica_laws.proofs.Viewing.{Views, no_log, views_same}
use Rattle.replica_laws.proofs.Voting.{Once, Placed, known_at, once_at, once_grows, once_known, placed_at, placed_known}
use Rattle.replica_laws.proofs.Growing.{IsOpen, keeps_asked, keeps_voted, grows_same, grows_then, grows_at}
use Rattle.replica_laws.proofs.Growing.{grows_known, known_or_new}

-- known transactions stay, and as many places were taken as words were signed
pub record Goes (book : BookValue) (done : Done) : Type 0 where
  pub grows : Grows book.entries done.book.entries
  pub spends : Spends book done.book (length done.signed)
  pub once : (ws : List SignedWords) → Once book.entries ws → Once done.book.entries (ws ++ done.signed)
  pub views : (ws : List SignedWords) → Views book.logged ws → Views done.book.logged (ws ++ done.signed)

-- of an accepted answer
abbrev pub Accepted : BookValue → Result Done Refusal → Type 0
Accepted book (Ok done) = Goes book done
Accepted book (Err refusal) = ⊤

pub unless_goes : (book : BookValue) (o : Option Refusal) (done : Done) → (o ≡ None → Goes book done) → Accepted book (unless o done)
unless_goes book None done h = h refl
unless_goes book (Some r) done h = tt

pub refused_goes : (book : BookValue) (o : Option Refusal) (a : Result Done Refusal) → Accepted book a → Accepted book (unless_refused o a)
refused_goes book None a h = h
refused_goes book (Some r) a h = tt

-- ---- the pen

pub can_sign : (n : ℕ) (pen : PenValue) → exhausted n pen ≡ None → n ≤ pen.left
can_sign n pen h = by (nat_lt pen.left n) refl h
  where
    by : (b : Bool) → nat_lt pen.left n ≡ b
        → (if b then Some (Rattle.replica_core.specs.declared.refusal.Refusal.TheVariants.Exhausted pen.left) else None) ≡ None
        → n ≤ pen.left
    by true e h = absurd cc
    by false e h = ltb-false pen.left n e

pub spends_none : (book new : BookValue) → new.pen ≡ book.pen → Spends book new 0
spends_none book new e = record {
  spent = ap (λ (p : PenValue). p.spent) e ∙ omega arith;
  left = (let l : new.pen.left ≡ book.pen.left = ap (λ (p : PenValue). p.left) e in omega (arith, l));
}

pub spends_one : (book new : BookValue) → exhausted 1 book.pen ≡ None → new.pen ≡ after_one book.pen → Spends book new 1
spends_one book new h e =
    let some = can_sign 1 book.pen h in
    record {
      spent = ap (λ (p : PenValue). p.spent) e;
      left = (let l : new.pen.left ≡ book.pen.left - 1 = ap (λ (p : PenValue). p.left) e in omega (arith, l, some));
    }

-- none of the words is a vote
pub calm : (book : BookValue) (done : Done) → Grows book.entries done.book.entries → (Placed book.entries → Placed done.book.entries) →
    ((x : List ℕ) → votes_on x done.signed ≡ 0) → (ws : List SignedWords) → Once book.entries ws →
    Once done.book.entries (ws ++ done.signed)
calm book done g p n ws o = once_grows book.entries done.book.entries ws done.signed g (p o.placed) n o

-- what is logged stays, and none of the words is a log reply
pub unlogged : (book : BookValue) (done : Done) → done.book.logged ≡ book.logged → ((a : LogReplyOf) → SaysLog done.signed a → ⊥) →
    (ws : List SignedWords) → Views book.logged ws → Views done.book.logged (ws ++ done.signed)
unlogged book done e n ws v =
    subst (λ (l : List LoggedEntry). Views l (ws ++ done.signed)) (sym e) (views_same book.logged ws done.signed n v)

pub quiet_goes : (book new : BookValue) → Grows book.entries new.entries → (Placed book.entries → Placed new.entries) →
    new.logged ≡ book.logged → new.pen ≡ book.pen → Goes book (quiet new)
quiet_goes book new g p l e = record {
  grows = g;
  spends = spends_none book new e;
  once = calm book (quiet new) g p (λ x. refl);
  views = unlogged book (quiet new) l (λ a h. h);
}

pub second_none : (x y : Option Refusal) → or_else x y ≡ None → y ≡ None
second_none None y h = h
second_none (Some r) y h = absurd cc

pub first_none : (x y : Option Refusal) → or_else x y ≡ None → x ≡ None
first_none None y h = refl
first_none (Some r) y h = absurd cc

-- ---- first stages

module _ (laws : IdsTellPlaces) (me : ReplicaSelf) (now : ℕ) (from : Party) (book : BookValue) where
  pub wait_goes : (t : TransactionValue) → Goes book (first.wait_done from book t)
  wait_goes t =
      let es = with_known book.entries t in
      quiet_goes book _
      (grows_then book.entries es (changed_at (asked from) (id t) es) (grows_known book.entries t)
      (grows_at (asked from) (id t) es (λ place e h i. keeps_asked from e)))
      (λ p. placed_at laws (asked from) (id t) es (λ e. refl) (placed_known laws book.entries t p)) refl refl

  open_new : (t : TransactionValue) → IsOpen (arrived t)
  open_new t d s p h = absurd cc

  pub vote_goes : (t : TransactionValue) (d : Decision) (proof : Option ℕ) →
      ((e : EntryValue) → entry_with book.entries (id t) ≡ Some e → IsOpen e) → exhausted 1 book.pen ≡ None →
      Goes book (first.vote_done me from book t d proof)
  vote_goes t d proof unvoted left =
      let es = with_known book.entries t in
      let done = first.vote_done me from book t d proof in
      let given = signature me book.pen (vote_words me (id t) d) in
      let at = known_at laws book.entries t in
      let still : (place : ℕ) (e : EntryValue) → place_of es (id t) ≡ Some place → slice_get es place ≡ Some e → IsOpen e =
      λ place e h i. elim (known_or_new laws book.entries t place e h i) [
        | inl there ↦ unvoted e there
        | inr new ↦ subst IsOpen (sym new) (open_new t)
      ] in
      let grows = grows_at (voted d given proof) (id t) es (λ place e h i. keeps_voted d given proof e (still place e h i)) in
      let is : done.book.entries ≡ changed (voted d given proof) at.0 es =
      ap (λ o. option_map_or (λ place. changed (voted d given proof) place es) o es) at.2 in
      let v : VoteOf = record { shard = me.home.shard; replica = me.index; id = id t; decision = d } in
      let named : id t ≡ id_of at.1 = same_Some _ _ (sym (laws.found es (id t) at.0 at.2) ∙ ap (option_map id_of) at.3) in
      record {
        grows = grows_then book.entries es done.book.entries (grows_known book.entries t) grows;
        spends = spends_one book done.book left refl;
        views = unlogged book done refl (no_log (VoteWords v) (λ a e. absurd cc));
        once = λ ws o. subst (λ (l : List EntryValue). Once l (ws ++ done.signed)) (sym is)
            (once_at laws es at.0 at.1 ws v given proof (subst (Grows es) is grows) at.3 (still at.0 at.1 at.2 at.3) named
            (once_known laws book.entries t ws (grows_known book.entries t) o));
      }

  pub votes_go : (t : TransactionValue) (d : Decision) (proof : Option ℕ) →
      ((e : EntryValue) → entry_with book.entries (id t) ≡ Some e → IsOpen e) → Accepted book (first.votes me from book t d proof)
  votes_go t d proof unvoted =
      unless_goes book (exhausted 1 book.pen) (first.vote_done me from book t d proof) (vote_goes t d proof unvoted)

  verdict_goes : (t : TransactionValue) (v : Verdict) →
      ((e : EntryValue) → entry_with book.entries (id t) ≡ Some e → IsOpen e) → Accepted book (first.by_verdict me from book t v)
  verdict_goes t verdicts.Commit unvoted = votes_go t _ None unvoted
  verdict_goes t verdicts.Abort unvoted = votes_go t _ None unvoted
  verdict_goes t (verdicts.AbortBy place) unvoted = votes_go t _ (Some place) unvoted
  verdict_goes t verdicts.Wait unvoted = wait_goes t

  same_goes : (signed : List SignedWords) (done : Done) → done.book ≡ book → done.signed ≡ [] → Goes book done
  same_goes signed done b s = record {
    grows = subst (λ (x : BookValue). Grows book.entries x.entries) (sym b) (grows_same book.entries);
    spends = subst (Spends book done.book) (ap length (sym s)) (spends_none book done.book (ap (λ (x : BookValue). x.pen) b));
    views = unlogged book done (ap (λ (x : BookValue). x.logged) b)
        (λ a h. subst (λ (l : List SignedWords). SaysLog l a) s h);
    once = calm book done (subst (λ (x : BookValue). Grows book.entries x.entries) (sym b) (grows_same book.entries))
        (λ p. subst (λ (x : BookValue). Placed x.entries) (sym b) p) (λ x. ap (votes_on x) s);
  }

  open_unvoted : (e : EntryValue) → e.vote ≡ Unvoted → IsOpen e
  open_unvoted e h d s p i = absurd cc

  vote_by : (t : TransactionValue) (e : EntryValue) (v : VoteValue) → e.vote ≡ v → entry_with book.entries (id t) ≡ Some e →
      id e.transaction ≡ id t → Accepted book (first.by_vote me now from book e.transaction v)
  vote_by t e Unvoted h there named =
      verdict_goes e.transaction (first.verdict_of me now book e.transaction)
      (λ x i. subst IsOpen (same_Some _ _ (sym there ∙ ap (entry_with book.entries) (sym named) ∙ i)) (open_unvoted e h))
  vote_by t e (Waiting askers) h there named = wait_goes e.transaction
  vote_by t e (Voted d s p) h there named = same_goes [] (first.vote_again me from book e.transaction d s p) refl refl

  -- the entry of an id has that id
  pub named_so : (x : List ℕ) (e : EntryValue) → entry_with book.entries x ≡ Some e → id_of e ≡ x
  named_so x e h = by (place_of book.entries x) refl h
    where
      by : (o : Option ℕ) → place_of book.entries x ≡ o → option_and_then (slice_get book.entries) o ≡ Some e → id_of e ≡ x
      by None there h = absurd cc
      by (Some place) there h = same_Some _ _ (sym (ap (option_map id_of) h) ∙ laws.found book.entries x place there)

  pub first_stage_goes : (t : TransactionValue) → Accepted book (first.first_stage me now from book t)
  first_stage_goes t = by (entry_with book.entries (id t)) refl
    where
      by : (o : Option EntryValue) → entry_with book.entries (id t) ≡ o → Accepted book (first.answer_known me now from book t o)
      by None there = verdict_goes t (first.verdict_of me now book t) (λ e h. absurd cc)
      by (Some e) there = vote_by t e e.vote refl there (named_so (id t) e there)

  pub ended_goes : (x : List ℕ) (a : Result Done Refusal) → Accepted book a → Accepted book (first.unless_ended from book x a)
  ended_goes x a h = by (entry_with book.entries x)
    where
      told : (e : EntryValue) (o : Option OutcomeValue) →
          Accepted book (option_map_or (λ outcome. Ok (first.tell_outcome from book e outcome)) o a)
      told e None = h
      told e (Some o) = same_goes [] (first.tell_outcome from book e o) refl refl

      by : (o : Option EntryValue) → Accepted book (option_map_or (first.told_or from book a) o a)
      by None = h
      by (Some e) = told e e.outcome
