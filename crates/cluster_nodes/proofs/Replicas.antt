-- A replica of a run that is handed a frame.
use Rattle.std.proofs.Common.{◌≡◌, ℕ, true, false, List, Ok, Err, sym, ap, subst, ◌∙◌}
use Rattle.std.specs.Prelude.{◌≢◌, Result, nat_le, ◌&&◌}
use Rattle.basil_types.specs.declared.memory.NoMemory.{NoMemory}
use Rattle.basil_types.specs.declared.outbox.Outbox.{Outbox}
use Rattle.basil_types.specs.declared.party.Party.{Party}
use Rattle.basil_types.specs.declared.party.Party.TheVariants as parties
use Rattle.fallback_leader.specs.declared.words.KeptWord.{KeptWord}
use Rattle.keyring.specs.declared.verifier.Verifier as verifiers
use Rattle.keyring.specs.declared.signer.Signer as signers
use Rattle.node_steps.specs.Pens.{pen_value, GivesItsSize}
use Rattle.replica_core.specs.declared.parts.Parts.{Parts}
use Rattle.replica_core.specs.declared.plan.Plan.{Plan}
use Rattle.replica_core.specs.declared.refusal.Refusal.{Refusal}
use Rattle.replica_core.specs.declared.refusal.Refusal.TheVariants as refusals
use Rattle.replica_core.specs.declared.replica.Replica.{Replica}
use Rattle.replica_core.specs.declared.seat.Seat.{Seat}
use Rattle.replica_core.specs.Answers.{answer}
use Rattle.replica_core.specs.Leads.{kept_next}
use Rattle.replica_core.specs.Nodes.{CanCommit, Performs, Shows, ShowsSame, perform_plan}
use Rattle.replica_core.specs.Replicas.{BookValue, Done, ReplicaSelf}
use Rattle.replica_core.specs.Seats.{self_at}
use Rattle.replica_core.specs.Telling.{IsPlanned, Told, begun, told_of}
use Rattle.replica_laws.specs.Steps.{Handed, PlacesNeverRepeat}
use Rattle.cluster_run.specs.Parts.{replica_self}
use Rattle.cluster_run.specs.States.{Setup, Standing}
use Rattle.cluster_nodes.specs.declared.handled.Handled.{Handled}
use Rattle.cluster_nodes.specs.declared.handled.Handled.TheVariants.{Refused, Full, Sent}
use Rattle.message_pool.specs.declared.pool.Room.{Room}
use Rattle.cluster_nodes.specs.declared.standing.StandingReplica.{StandingReplica}
use Rattle.cluster_nodes.specs.Handling.{Takes}
use Rattle.cluster_nodes.specs.Refusing.{Refuses}
use Rattle.cluster_nodes.specs.Sizes.{Counts, PlansTell}
use Rattle.cluster_nodes.specs.Standings.{StandsAs}
use Rattle.cluster_nodes.proofs.Taking.{answered, fits_as_told, gives_after, shown_same}

module _ {V S : Type 0} (v : verifiers.Ghosts V) (g : signers.Ghosts S) (s : Setup) (x : Standing) where
  -- the answer to a frame
  abbrev pub answer_to : Party → List ℕ → Result Done Refusal
  answer_to from frame = answer (replica_self s x.shard x.index) x.moment from x.book frame

  -- what didn't change
  pub record Keeps (old new : StandingReplica V S v g) : Type 0 where
    pub keys : new.replica.keys ≡ old.replica.keys
    pub seat : new.replica.seat ≡ old.replica.seat
    pub fixed : g.fixed new.replica.pen ≡ g.fixed old.replica.pen
    pub moment : new.moment ≡ old.moment

  own_kept : (old new : StandingReplica V S v g) → Keeps old new → StandsAs s old x →
      self_at new.replica.seat (v.accepted new.replica.keys) (g.fixed new.replica.pen) ≡ replica_self s x.shard x.index
  own_kept old new k st =
      ap (λ (a : Seat). self_at a (v.accepted new.replica.keys) (g.fixed new.replica.pen)) k.seat
      ∙ ap (λ (q : V). self_at old.replica.seat (v.accepted q) (g.fixed new.replica.pen)) k.keys
      ∙ ap (self_at old.replica.seat (v.accepted old.replica.keys)) k.fixed
      ∙ st.own

  -- where all that is shown is as it was, it stands as before
  pub still_stands : (old new : StandingReplica V S v g) → Keeps old new → new.replica.pen ≡ old.replica.pen →
      ShowsSame old.replica.parts new.replica.parts → StandsAs s old x → StandsAs s new x
  still_stands old new k pen same st =
      record {
        own = own_kept old new k st;
        moment = k.moment ∙ st.moment;
        book = subst (λ (p : S). Shows new.replica.parts (pen_value (g.spent p) (g.left_of p)) x.book) (sym pen)
            (shown_same old.replica.parts new.replica.parts _ x.book same st.book);
        sized = st.sized;
      }

  -- the plan is of the answer in the run
  pub planned_here : {W : Type 0} (P : Told → W → Told) (node : StandingReplica V S v g) (from : Party) (frame : List ℕ)
      (r : Result W Refusal) → StandsAs s node x →
      IsPlanned P x.book r (answer (self_at node.replica.seat (v.accepted node.replica.keys) (g.fixed node.replica.pen))
      node.moment from x.book frame) →
      IsPlanned P x.book r (answer_to from frame)
  planned_here P node from frame r st p =
      subst (λ (me : ReplicaSelf). IsPlanned P x.book r (answer me x.moment from x.book frame)) st.own
      (subst (λ (now : ℕ). IsPlanned P x.book r (answer (self_at node.replica.seat (v.accepted node.replica.keys)
      (g.fixed node.replica.pen)) now from x.book frame)) st.moment p)

  -- what the pen signs is of the run
  signing_here : (node : StandingReplica V S v g) → StandsAs s node x →
      g.fixed node.replica.pen ≡ s.kit.signing (parties.Replica x.shard x.index)
  signing_here node st = ap (λ (me : ReplicaSelf). me.signing) st.own

  pen_here : (node : StandingReplica V S v g) → StandsAs s node x →
      x.book.pen ≡ pen_value (g.spent node.replica.pen) (g.left_of node.replica.pen)
  pen_here node st = sym (ap (λ (b : BookValue). b.pen) st.book.same)

  -- so a plan that is ready tells what it sends
  pub told_here : PlansTell → (node : StandingReplica V S v g) (kept : List KeptWord) (parts : Parts) (plan : Plan) →
      StandsAs s node x → CanCommit (g.fixed node.replica.pen).size (g.left_of node.replica.pen) parts plan →
      Counts (perform_plan (g.fixed node.replica.pen) kept (begun x.book) plan).sent plan.messages plan.bytes
  told_here tell node kept parts plan st can =
      tell (g.fixed node.replica.pen) kept x.book parts plan
      (subst (λ sg. GivesItsSize sg x.book.pen) (sym (signing_here node st)) st.sized)
      (subst (λ (p : ℕ). CanCommit (g.fixed node.replica.pen).size p parts plan) (sym (ap (λ p. p.left) (pen_here node st))) can)

  -- ---- the three ends

  pub takes_refused : (node : StandingReplica V S v g) (room : Room) (a : Result Done Refusal) (e : Refusal)
      (r : Result (Handled Refusal) NoMemory) → StandsAs s node x → (e ≢ refusals.NoMemory → a ≡ Err e) → Refuses e r →
      Takes s x room a r node
  takes_refused node room a e (Ok (Refused same)) st is refuses = (is refuses.1 ∙ ap Err (sym refuses.0), st)
  takes_refused node room a e (Ok Full) st is refuses = absurd refuses
  takes_refused node room a e (Ok (Sent out)) st is refuses = absurd refuses
  takes_refused node room a e (Err wanting) st is refuses = st

  pub takes_full : (node : StandingReplica V S v g) (room : Room) (a : Result Done Refusal) (t : Told) (messages bytes : ℕ) →
      StandsAs s node x → told_of a ≡ Ok t → Counts t.sent messages bytes →
      (nat_le messages room.messages && nat_le bytes room.bytes) ≡ false → Takes s x room a (Ok Full) node
  takes_full node room a t messages bytes st e counts lacks =
      let d = answered a t e in
      (d.done, d.is, fits_as_told room d.done.sent t.sent messages bytes (ap (λ (t : Told). t.sent) d.tells) counts ∙ lacks, st)

  pub takes_sent : PlacesNeverRepeat → (from : Party) (frame : List ℕ) (old new : StandingReplica V S v g) (room : Room)
      (t : Told) (messages bytes : ℕ) (out : Outbox) → StandsAs s old x → Keeps old new → told_of (answer_to from frame) ≡ Ok t →
      Counts t.sent messages bytes → (nat_le messages room.messages && nat_le bytes room.bytes) ≡ true →
      Performs new.replica.parts (pen_value (g.spent new.replica.pen) (g.left_of new.replica.pen)) out t →
      Takes s x room (answer_to from frame) (Ok (Sent out)) new
  takes_sent places from frame old new room t messages bytes out st k e counts has p =
      let d = answered (answer_to from frame) t e in
      let h : Handed = record { now = x.moment; from = from; frame = frame } in
      let y : Standing = record x { book = d.done.book } in (
        d.done,
        d.is,
        fits_as_told room d.done.sent t.sent messages bytes (ap (λ (t : Told). t.sent) d.tells) counts ∙ has,
        record {
          messages = p.messages ∙ sym (ap (λ (t : Told). t.sent) d.tells);
          signed = p.signed ∙ sym (ap (λ (t : Told). t.signed) d.tells);
        },
        record {
          own = own_kept old new k st;
          moment = k.moment ∙ st.moment;
          book = subst (λ (b : BookValue). Shows new.replica.parts (pen_value (g.spent new.replica.pen) (g.left_of new.replica.pen)) b)
              (sym (ap (λ (t : Told). t.book) d.tells)) p.book;
          sized = gives_after places (replica_self s x.shard x.index) h x.book d.done
              (s.kit.signing (parties.Replica x.shard x.index)) d.is st.sized;
        },
      )

  -- ---- what the calls say

  -- the replica after its plan, by the clauses of that
  pub record Planned (old : StandingReplica V S v g) (mid : Replica V S v g) (from : Party) (frame : List ℕ) (plan : Plan) :
      Type 0 where
    pub answer : IsPlanned (perform_plan (g.fixed old.replica.pen) (kept_next mid.parts.leading)) x.book (Ok plan)
        (answer (self_at old.replica.seat (v.accepted old.replica.keys) (g.fixed old.replica.pen)) old.moment from x.book frame)
    pub ready : CanCommit (g.fixed mid.pen).size (g.left_of mid.pen) mid.parts plan
    pub same : ShowsSame old.replica.parts mid.parts
    pub keys : mid.keys ≡ old.replica.keys
    pub pen : mid.pen ≡ old.replica.pen
    pub seat : mid.seat ≡ old.replica.seat

  ready_here : (old : StandingReplica V S v g) (mid : Replica V S v g) (from : Party) (frame : List ℕ) (plan : Plan) →
      Planned old mid from frame plan →
      CanCommit (g.fixed old.replica.pen).size (g.left_of old.replica.pen) mid.parts plan
  ready_here old mid from frame plan p =
      subst (λ (q : S). CanCommit (g.fixed q).size (g.left_of q) mid.parts plan) p.pen p.ready

  pub full_by : PlansTell → (old new : StandingReplica V S v g) (mid : Replica V S v g) (from : Party) (frame : List ℕ)
      (room : Room) (plan : Plan) → StandsAs s old x → StandsAs s new x → Planned old mid from frame plan →
      (nat_le plan.messages room.messages && nat_le plan.bytes room.bytes) ≡ false →
      Takes s x room (answer_to from frame) (Ok Full) new
  full_by tell old new mid from frame room plan st now p lacks =
      takes_full new room (answer_to from frame) _ plan.messages plan.bytes now
      (planned_here (perform_plan (g.fixed old.replica.pen) (kept_next mid.parts.leading)) old from frame (Ok plan) st p.answer)
      (told_here tell old (kept_next mid.parts.leading) mid.parts plan st (ready_here old mid from frame plan p)) lacks

  pub sent_by : PlansTell → PlacesNeverRepeat → (old new : StandingReplica V S v g) (mid : Replica V S v g) (from : Party)
      (frame : List ℕ) (room : Room) (plan : Plan) (out : Outbox) → StandsAs s old x → Keeps old new →
      Planned old mid from frame plan →
      ((book : BookValue) → Shows mid.parts (pen_value (g.spent mid.pen) (g.left_of mid.pen)) book →
      Performs new.replica.parts (pen_value (g.spent new.replica.pen) (g.left_of new.replica.pen)) out
      (perform_plan (g.fixed mid.pen) (kept_next mid.parts.leading) (begun book) plan)) →
      (nat_le plan.messages room.messages && nat_le plan.bytes room.bytes) ≡ true →
      Takes s x room (answer_to from frame) (Ok (Sent out)) new
  sent_by tell places old new mid from frame room plan out st k p does has =
      let kept = kept_next mid.parts.leading in
      let shown = subst (λ (q : S). Shows mid.parts (pen_value (g.spent q) (g.left_of q)) x.book) (sym p.pen)
      (shown_same old.replica.parts mid.parts _ x.book p.same st.book) in
      takes_sent places from frame old new room _ plan.messages plan.bytes out st k
      (planned_here (perform_plan (g.fixed old.replica.pen) kept) old from frame (Ok plan) st p.answer)
      (told_here tell old kept mid.parts plan st (ready_here old mid from frame plan p)) has
      (subst (λ (q : S). Performs new.replica.parts (pen_value (g.spent new.replica.pen) (g.left_of new.replica.pen)) out
      (perform_plan (g.fixed q) kept (begun x.book) plan)) p.pen (does x.book shown))
