-- An invoke of what is known and logged enters the raised view.
use Rattle.std.proofs.Common.{◌≡◌, ℕ, Option, Some, sym, ap, subst, ◌∙◌, Result}
use Rattle.basil_types.specs.declared.party.Party.{Party}
use Rattle.basil_types.specs.Transaction.{TransactionValue}
use Rattle.frame_views.specs.Values.{InvokeValue}
use Rattle.txn_table.specs.Entries.{EntryValue}
use Rattle.replica_core.specs.declared.refusal.Refusal.{Refusal}
use Rattle.replica_core.specs.Invokes.{enter_view, invoke_logged, raised_view}
use Rattle.replica_core.specs.Replicas.{ReplicaSelf, LoggedEntry, BookValue, Done}

pub invoked : (Holds : Result Done Refusal → Type 0) (me : ReplicaSelf) (from : Party) (book : BookValue) (m : InvokeValue)
    (oe : Option EntryValue) (ol : Option LoggedEntry) (e : EntryValue) (l : LoggedEntry) (t : TransactionValue) (view : ℕ)
    → oe ≡ Some e → ol ≡ Some l → t ≡ e.transaction → view ≡ raised_view me m l → Holds (enter_view me from book t l view)
    → Holds (invoke_logged me from book m oe ol)
invoked Holds me from book m oe ol e l t view entry log text raised h =
    subst Holds
    (ap (λ u. enter_view me from book u l view) text ∙ ap (enter_view me from book e.transaction l) raised
    ∙ sym (ap (λ o. invoke_logged me from book m o ol) entry ∙ ap (invoke_logged me from book m (Some e)) log)) h
