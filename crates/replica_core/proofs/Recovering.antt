-- Whether a recovery is told what is logged; the log shard of a transaction without keys.
use Rattle.std.proofs.Common.{◌≡◌, ℕ, Bool, true, false, List, ◌∷◌, [], Option, Some, None, length, refl, ap, arith, ◌&&◌, ◌==◌}
use Rattle.std.specs.Prelude.{is_some, if◌then◌else◌, option_map}
use Rattle.std.proofs.lemmas.Bool.{and_parts, eqb-true}
use Rattle.basil_types.specs.declared.party.Party.{Party}
use Rattle.basil_types.specs.declared.transaction.parts.ReadPart.{ReadPart}
use Rattle.basil_types.specs.declared.transaction.parts.WritePart.{WritePart}
use Rattle.basil_types.specs.Setting.{Setting}
use Rattle.basil_types.specs.Transaction.{TransactionValue, id}
use Rattle.txn_meta.specs.Form.{is_empty}
use Rattle.txn_meta.specs.Places.{log_shard}
use Rattle.replica_core.specs.FirstStage.{first_stage}
use Rattle.replica_core.specs.Kinds.{tells}
use Rattle.replica_core.specs.Known.{known_of, logged_with}
use Rattle.replica_core.specs.Replicas.{BookValue, LoggedEntry, ReplicaSelf}
use Rattle.replica_core.specs.SecondStage.{logs_here, recover_by, reply_of}

module _ (me : ReplicaSelf) (now : ℕ) (from : Party) (book : BookValue) (t : TransactionValue) where
  first_by : (l : Option LoggedEntry) → (is_some l && logs_here me (known_of book.entries t)) ≡ false →
      recover_by me now from book t l ≡ first_stage me now from book t
  first_by None e = refl
  first_by (Some l) e = ap (λ (b : Bool). if b then reply_of me from book t l else first_stage me now from book t) e

  pub goes_first : tells me book t ≡ false →
      recover_by me now from book t (logged_with book.logged (id t)) ≡ first_stage me now from book t
  goes_first e = first_by (logged_with book.logged (id t)) e

  told_by : (o : Option LoggedEntry) → logged_with book.logged (id t) ≡ o → (is_some o && logs_here me (known_of book.entries t)) ≡ true →
      (l : LoggedEntry) × (logged_with book.logged (id t) ≡ Some l) × (recover_by me now from book t o ≡ reply_of me from book t l)
  told_by None h e = absurd cc
  told_by (Some l) h e = (l, h, ap (λ (b : Bool). if b then reply_of me from book t l else first_stage me now from book t) e)

  pub goes_told : tells me book t ≡ true →
      (l : LoggedEntry) × (logged_with book.logged (id t) ≡ Some l) ×
      (recover_by me now from book t (logged_with book.logged (id t)) ≡ reply_of me from book t l)
  goes_told e = told_by (logged_with book.logged (id t)) refl e

-- ---- a transaction without keys

pub mapped_some : {A B : Type 0} (f : A → B) (o : Option A) → is_some (option_map f o) ≡ is_some o
mapped_some f None = refl
mapped_some f (Some a) = refl

pub empty_logs : (c : Setting) (t : TransactionValue) → is_empty t ≡ true → log_shard c t ≡ 0
empty_logs c t e = by t.reads t.writes e
  where
    by : (reads : List ReadPart) (writes : List WritePart) → (length reads == 0 && length writes == 0) ≡ true →
        log_shard c (record t { reads = reads; writes = writes }) ≡ 0
    by [] [] e = refl
    by [] (w ∷ ws) e = let n = eqb-true (length (w ∷ ws)) 0 e in absurd (omega (arith, n))
    by (r ∷ rs) ws e =
        let n = eqb-true (length (r ∷ rs)) 0 (and_parts (length (r ∷ rs) == 0) (length ws == 0) e).0 in absurd (omega (arith, n))
