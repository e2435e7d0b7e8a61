-- What holds in each state of a run with clients.
use Rattle.std.specs.Prelude.{◌≡◌, ℕ, true, false, Some, None}
use Rattle.std.specs.List.{Contains}
use Rattle.basil_types.specs.declared.transaction.parts.ReadPart.{ReadPart}
use Rattle.txn_meta.specs.Form.{form_fault}
use Rattle.agreement_laws.specs.Words.{Id, Commit, Vote}
use Rattle.agreement_laws.specs.Certificates.{CanCommit}
use Rattle.agreement_laws.specs.Runs.{Node, signed_of}
use Rattle.agreement_laws.specs.Invariants as agreement
use Rattle.serial_laws.specs.Bases.{Basis, IsOfCorrectClient, setting_of}
use Rattle.serial_laws.specs.Reads.{IsTaken}
use Rattle.serial_laws.specs.Runs.{State}

-- the votes and outcomes of a correct replica
pub record IsHeedful (b : Basis) (st : State) (s r : ℕ) (p : Node) : Type 0 where
  -- it voted commit on what a client signed, of good form
  pub signed : (x : Id) → Contains p.own (Vote s r x Commit) → st.formed x ≡ true
  pub form : (x : Id) → Contains p.own (Vote s r x Commit) → form_fault (b.text x) ≡ None
  -- a commit outcome had its certificate shown
  pub ended : (x : Id) → (p.book x).outcome ≡ Some Commit → st.committed x ≡ true

pub record Invariant (b : Basis) (st : State) : Type 0 where
  pub agrees : agreement.Invariant (setting_of b) st.inner
  pub heedful : (s r : ℕ) → b.faulty s r ≡ false → IsHeedful b st s r (st.inner.nodes s r)
  -- what was shown as committed can be committed
  pub certified : (x : Id) → st.committed x ≡ true → CanCommit (setting_of b) (signed_of st.inner) x
  -- what a correct client signed it had read
  pub taken : (x : Id) → st.formed x ≡ true → IsOfCorrectClient b (b.text x) →
      (r : ReadPart) → Contains (b.text x).reads r → IsTaken b st.committed r (st.given x r.key)
