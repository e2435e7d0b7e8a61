-- A delivery is refused by no call, and for want of no leaf.
use Rattle.std.proofs.Common.{ℕ, Bool, true, false, cond, List, [], ◌∷◌, ◌++◌, not, Option, Some, None}
use Rattle.std.specs.Prelude.{Result, Ok, Err, ⊤, ◌||◌, ◌-◌, length, option_and_then}
use Rattle.std.specs.Option.{option_map_or}
use Rattle.basil_types.specs.Steps.{◌>>=◌}
use Rattle.basil_types.specs.declared.party.Party.{Party}
use Rattle.basil_types.specs.declared.party.Party.TheVariants.{Replica, Client}
use Rattle.client_core.specs.Answers.{on_frame}
use Rattle.client_core.specs.Clients.{ClientValue}
use Rattle.delivery_laws.specs.Deliveries.{Taking, takes}
use Rattle.journaled_runs.specs.Journaling.{JournaledState, full, full_by, happens_in, with_state}
use Rattle.node_journal.specs.Journals.{journal_bytes}
use Rattle.node_steps.specs.Refusing.{unless_refused, when}
use Rattle.run_journals.specs.Journals.{JournalValue, is_full_for, journal_at}
use Rattle.premise_watch.specs.declared.broken.Broken as premises
use Rattle.replica_core.specs.Answers.{answer}
use Rattle.cluster_run.specs.Events as events
use Rattle.cluster_run.specs.Events.{happens, marked}
use Rattle.cluster_run.specs.Parts.{Mail, are_bytes, client_did, client_handles, client_self, enter}
use Rattle.cluster_run.specs.Parts.{enter_all, hand, handle, handle_by, has_room, posted, read_frame}
use Rattle.cluster_run.specs.Parts.{replica_did, replica_handles, replica_self, see, see_message, unless_broken}
use Rattle.cluster_run.specs.States.{Delivered, Posted, Setup, Standing, State, client_at, is_faulty, posted_at, standing}
use Rattle.cluster_run.specs.declared.fault.WorldFault.{WorldFault}
use Rattle.cluster_run.specs.declared.fault.WorldFault.TheVariants.{Broken, PoolFull, Call, Exhausted}

-- it is taken, or a premise is broken, or the pool is full
abbrev pub IsTaken : {A : Type 0} → Result A WorldFault → Type 0
IsTaken (Ok x) = ⊤
IsTaken (Err (Broken b)) = ⊤
IsTaken (Err (PoolFull messages bytes)) = ⊤
IsTaken (Err (Call f)) = ⊥
IsTaken (Err (Exhausted party)) = ⊥

abbrev IsHanded : Result State WorldFault → Type 0
IsHanded answer = IsTaken answer

goes_on : (a : Result State WorldFault) (f : State → Result State WorldFault) → IsHanded a → ((st : State) → IsHanded (f st)) →
    IsHanded (a >>= f)
goes_on (Ok st) f h k = k st
goes_on (Err (Broken b)) f h k = tt
goes_on (Err (PoolFull messages bytes)) f h k = tt
goes_on (Err (Call fault)) f h k = absurd h
goes_on (Err (Exhausted party)) f h k = absurd h

either : (b : Bool) (x y : Result State WorldFault) → IsHanded x → IsHanded y → IsHanded (cond b x y)
either true x y h k = h
either false x y h k = k

broken : (o : Option premises.Broken) (st : State) → IsHanded (unless_broken o st)
broken None st = tt
broken (Some b) st = tt

unless_full : {A : Type 0} (journals : List JournalValue) (t : Option Taking) (answer : Result A WorldFault) → IsTaken answer →
    IsTaken (unless_refused (full journals t) answer)
unless_full journals None answer h = h
unless_full journals (Some t) answer h = by (journal_at journals t.shard t.index)
  where
    wide : (j : JournalValue) (c : Bool) →
        IsTaken (unless_refused (when c (PoolFull (length j.taken) (journal_bytes j.taken))) answer)
    wide j true = tt
    wide j false = h

    by : (o : Option JournalValue) → IsTaken (unless_refused (option_and_then (full_by t.handed) o) answer)
    by None = h
    by (Some j) = wide j (is_full_for j t.handed)

written_on : (taking : Option Taking) (journals : List JournalValue) (a : Result State WorldFault) → IsTaken a →
    IsTaken (a >>= with_state taking journals)
written_on taking journals (Ok st) h = tt
written_on taking journals (Err (Broken b)) h = tt
written_on taking journals (Err (PoolFull messages bytes)) h = tt
written_on taking journals (Err (Call f)) h = absurd h
written_on taking journals (Err (Exhausted party)) h = absurd h

module _ (s : Setup) where
  seen : (frame : List ℕ) (st : State) → IsHanded (see s frame st)
  seen frame st = elim (read_frame s frame) as (λ x. IsHanded (see_message s x st)) [ Ok m ↦ broken _ _ | Err e ↦ tt ]

  entered_all : (mail : List Mail) (st : State) → IsHanded (enter_all s mail st)
  entered_all [] st = tt
  entered_all (m ∷ mail) st =
      let now : State = record st { pool = st.pool ++ posted m ∷ [] } in
      goes_on (see s m.frame now) (enter_all s mail) (seen m.frame now) (entered_all mail)

  entered : (mail : List Mail) (st : State) → IsHanded (enter s mail st)
  entered mail st = either (has_room s st mail) _ _ (entered_all mail st) tt

  by_replica : (number : ℕ) (from : Party) (frame : List ℕ) (st : State) (o : Option Standing) →
      IsHanded (replica_handles s number from frame o st)
  by_replica number from frame st None = tt
  by_replica number from frame st (Some x) =
      elim (answer (replica_self s x.shard x.index) x.moment from x.book frame) as (λ d. IsHanded (replica_did s number x d st)) [
        | Ok d ↦ entered _ _
        | Err e ↦ tt
      ]

  by_client : (number client : ℕ) (frame : List ℕ) (st : State) (o : Option ClientValue) →
      IsHanded (client_handles s number client frame o st)
  by_client number client frame st None = tt
  by_client number client frame st (Some c) =
      elim (on_frame (client_self s client) c frame) as (λ d. IsHanded (client_did s number client d st)) [
        | Ok d ↦ entered _ _
        | Err e ↦ tt
      ]

  handled_by : (number : ℕ) (from to : Party) (frame : List ℕ) (st : State) → IsHanded (handle_by s number from to frame st)
  handled_by number from (Replica shard index) frame st = by_replica number from frame st (standing st shard index)
  handled_by number from (Client client) frame st = by_client number client frame st (client_at st client)

  handed : (number : ℕ) (from to : Party) (frame : List ℕ) (st : State) → IsHanded (hand s number from to frame st)
  handed number from to frame st =
      goes_on (see s frame st) (handle s number from to frame) (seen frame st)
      (λ st. either (is_faulty s to || not (are_bytes frame)) (Ok st) _ tt (handled_by number from to frame st))

  pub delivered : (message : ℕ) (given : List ℕ) (st : State) → IsHanded (happens s (events.Deliver message given) st)
  delivered message given st = by (posted_at st message)
    where
      by : (o : Option Posted) →
          IsHanded (option_map_or (λ p. hand s message p.from p.to given (marked (message - 1) Delivered p st)) o (Ok st))
      by None = tt
      by (Some p) = handed message p.from p.to given (marked (message - 1) Delivered p st)

  -- ---- and no journal refuses it otherwise

  pub delivered_in : (message : ℕ) (given : List ℕ) (x : JournaledState) → IsTaken (happens_in s (events.Deliver message given) x)
  delivered_in message given x =
      let e = events.Deliver message given in
      let taking = takes s x.state e in
      unless_full x.journals taking (happens s e x.state >>= with_state taking x.journals)
      (written_on taking x.journals (happens s e x.state) (delivered message given x.state))
