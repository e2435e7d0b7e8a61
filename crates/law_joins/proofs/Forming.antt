-- What a client forms by such choices.
use Rattle.std.proofs.Common.{◌≡◌, ℕ, inl, inr, List, Option, sym, ◌∙◌, ap, subst}
use Rattle.std.specs.List.{Contains}
use Rattle.basil_types.specs.declared.replayed.Latest.{Latest}
use Rattle.basil_types.specs.declared.transaction.parts.ReadPart.{ReadPart}
use Rattle.basil_types.specs.declared.version.Version.{Version}
use Rattle.basil_types.specs.Transaction.{TransactionValue}
use Rattle.certificates.specs.Accepted.{Accepted}
use Rattle.client_reads.specs.declared.choice.Choice.{Choice}
use Rattle.serial_laws.specs.Bases.{Basis}
use Rattle.serial_laws.specs.Reads.{IsTaken}
use Rattle.serial_laws.specs.Runs.{State}
use Rattle.law_joins.specs.Choices.{CarriesVersion, choice_among, read_part, read_of, IsReadBy, ChoicesAreTaken, FormsAreLawful}

module _ (choices : ChoicesAreTaken) (A : Accepted) (b : Basis) (st : State) (t : TransactionValue)
    (given : (key : List ℕ) → Option Latest) where
  taken : (r : ReadPart) → IsReadBy A b st.committed t given r → IsTaken b st.committed r (given r.key)
  taken r h =
      let c : Choice = choice_among b h.replies in
      let w = choices A b st.committed (read_of t r) h.replies h.took in
      let e : r.version ≡ c.version = ap (λ (z : ReadPart). z.version) h.chosen in
      let P : ReadPart → Type 0 = λ z. IsTaken b st.committed z (given r.key) in
      let Q : Option Latest → Type 0 = λ o. IsTaken b st.committed (read_part (read_of t r) c) o in
      let V : TransactionValue → Version → Type 0 = λ u v. CarriesVersion h.replies v u in
      subst P (sym h.chosen) (elim w.some [
        | inl g ↦ subst Q (sym (h.absent (e ∙ g))) (w.absent g)
        | inr o ↦ subst Q (sym (h.found o.0 (subst (V o.0) (sym e) o.1))) (w.found o.0 o.1)
      ])

pub forms_are_lawful : ChoicesAreTaken → FormsAreLawful
forms_are_lawful choices A b st t given text reads =
    λ _ r i. taken choices A b st t given r (reads r (subst (λ (z : TransactionValue). Contains z.reads r) text i))
