-- A word that makes a proposal is answered by it.
use Rattle.std.proofs.Common.{◌≡◌, ℕ, List, Option, Some, Result, sym, ap, subst, ◌∙◌}
use Rattle.std.specs.Prelude.{unwrap_or}
use Rattle.basil_types.specs.Transaction.{TransactionValue, id}
use Rattle.fallback_leader.specs.declared.words.KeptWord.{KeptWord}
use Rattle.fallback_leader.specs.Elections.{ProposalValue, collected, proposal_of}
use Rattle.frame_values.specs.declared.owned.parts.ElectPart.{ElectPart}
use Rattle.frame_views.specs.Values.{ElectValue}
use Rattle.keyring.specs.Signing.{Signing}
use Rattle.node_steps.specs.Refusing.{unless}
use Rattle.replica_core.specs.declared.election.LeadWork.{LeadWork}
use Rattle.replica_core.specs.declared.refusal.Refusal.{Refusal}
use Rattle.replica_core.specs.declared.seat.Seat.{Seat}
use Rattle.replica_core.specs.Elections.{collect, collect_by, propose_done, word_of}
use Rattle.replica_core.specs.LeadWorks.{kept_after, perform_lead}
use Rattle.replica_core.specs.Leads.{LeadingValue, kept_next}
use Rattle.replica_core.specs.Replicas.{ReplicaSelf, BookValue}
use Rattle.replica_core.specs.Signing.{exhausted}
use Rattle.replica_core.specs.Telling.{IsPlanned}

pub collects : (me : ReplicaSelf) (seat : Seat) (signing : Signing) (book : BookValue) (t : TransactionValue) (m : ElectValue) (i : List ℕ)
    (word : ElectPart) (next : LeadingValue) (p : ProposalValue) (r : Result LeadWork Refusal)
    → seat.home ≡ me.home → i ≡ id t → word ≡ word_of m → next.next ≡ Some (collected me.home.cluster.f book.kept i m.view word)
    → proposal_of me.home.cluster.f book.kept i m.view word ≡ Some p
    → IsPlanned (perform_lead signing (kept_after seat book t m)) book r (unless (exhausted 1 book.pen) (propose_done me book t m p))
    → IsPlanned (perform_lead signing (kept_next next)) book r (collect me book t m)
collects me seat signing book t m i word next p r home named signed kept proposal h =
    let f = me.home.cluster.f in
    let with_word : collected f book.kept i m.view word ≡ kept_after seat book t m =
    ap (λ x. collected f book.kept x m.view word) named ∙ ap (collected f book.kept (id t) m.view) signed
    ∙ ap (λ hm. collected hm.cluster.f book.kept (id t) m.view (word_of m)) (sym home) in
    let same : kept_next next ≡ kept_after seat book t m = ap (λ (o : Option (List KeptWord)). unwrap_or o next.kept) kept ∙ with_word in
    let made : proposal_of f book.kept (id t) m.view (word_of m) ≡ Some p =
    sym (ap (λ x. proposal_of f book.kept x m.view word) named ∙ ap (proposal_of f book.kept (id t) m.view) signed) ∙ proposal in
    subst (λ (ks : List KeptWord). IsPlanned (perform_lead signing ks) book r (collect me book t m)) (sym same)
    (subst (λ (o : Option ProposalValue). IsPlanned (perform_lead signing (kept_after seat book t m)) book r (collect_by me book t m o))
    (sym made) h)
