-- The calls of a run, and how it goes on from them.
use Rattle.std.proofs.Common.{◌≡◌, ◌≢◌, ℕ, zero, suc, drop, ◌+◌, ◌<◌, ◌≤◌, Bool, true, false, cond, List, [], ◌∷◌, ◌++◌, length}
use Rattle.std.proofs.Common.{Option, Some, None}
use Rattle.std.proofs.Common.{Result, Ok, Err, is_some, refl, sym, ap, subst, ◌∙◌, append-nil, arith}
use Rattle.std.specs.Prelude.{map, slice_get, not, nat_lt}
use Rattle.basil_types.specs.declared.transaction.parts.WritePart.{WritePart}
use Rattle.basil_types.specs.Links.{LinkState}
use Rattle.client_core.specs.Shown.{own, ShowsClient}
use Rattle.client_core.specs.declared.client.Client.{Client}
use Rattle.client_steps.specs.declared.fault.CallFault.{CallFault}
use Rattle.client_steps.specs.declared.fault.CallFault.TheVariants as calls
use Rattle.basil_types.specs.Transaction.{TransactionValue}
use Rattle.client_core.specs.Calls.{begin_done, by_slot, call_begin, call_invoke, call_prepare, call_recover, call_write}
use Rattle.client_core.specs.Calls.{recovered_at, write_done, write_fault}
use Rattle.client_core.specs.Clients.{ClientDone, ClientSelf, ClientValue, SlotValue, quiet}
use Rattle.client_core.specs.Done.{KeepsSlots, SameOutbox, Sends}
use Rattle.cluster_file.specs.Listing.{Listing}
use Rattle.keyring.specs.declared.verifier.Verifier as verifiers
use Rattle.keyring.specs.declared.signer.Signer as signers
use Rattle.node_link.specs.Asking.{RoseBy}
use Rattle.node_steps.specs.Framed.{framed}
use Rattle.node_steps.specs.Refusing.{unless, when}
use Rattle.client_link.specs.declared.errands.Errands.{Errands}
use Rattle.client_link.specs.declared.op.Op.{Op}
use Rattle.client_link.specs.declared.fault.RunFault.{RunFault}
use Rattle.client_link.specs.declared.fault.RunFault.TheVariants.{Undecided, Call, NoMemory}
use Rattle.client_link.specs.Having.{ComesTo, HasAskedAll, HasCalled, HasCome, HasEnded, HasGone, HasRun, HasTurned}
use Rattle.client_link.specs.Having.{IsTalk, OnEnd, fault_told, slot_given}
use Rattle.client_link.specs.Running.{Calling, FormsBy, Runs, RunsBegun, RunsPlan, RunsRecovery, StopsOr, Turn, closing, ending, held_at}
use Rattle.client_link.specs.Running.{finishing, formed_at, if_logged, invokes, outcome_at, recovers, recovery, sends, starting, takes_up}
use Rattle.client_link.specs.Running.{turns_of}
use Rattle.client_link.specs.declared.aim.Aim.{Aim}
use Rattle.client_link.specs.declared.aim.Aim.TheVariants.{Decision, Form}
use Rattle.frame_views.specs.Values.{SignedValue}
use Rattle.client_link.specs.declared.closing.Stage.{Stage}
use Rattle.client_link.specs.declared.closing.Stage.TheVariants as stages
use Rattle.client_link.specs.Stages.{stage_turn}
use Rattle.client_link.specs.Talking.{Talk}
use Rattle.client_link.proofs.TalkLaws.{talk_same, talk_sent}
use Rattle.client_link.proofs.AskLaws.{rose_none, rose_then}

-- ---- what a slot tells

-- a slot that is held
pub record HeldSlot (v : ClientValue) (slot : ℕ) : Type 0 where
  pub s : SlotValue
  pub at : slice_get v.slots slot ≡ Some s

pub held_slot : (v : ClientValue) (slot : ℕ) → slot < length v.slots → HeldSlot v slot
held_slot v slot h = let found = by v.slots slot h in record { s = found.0; at = found.1 }
  where
    by : (xs : List SlotValue) (k : ℕ) → k < length xs → (s : SlotValue) × (slice_get xs k ≡ Some s)
    by [] k h = absurd (omega (arith, h))
    by (x ∷ xs) zero h = (x, refl)
    by (x ∷ xs) (suc k) h = by xs k (omega (arith, h))

-- ---- a call is answered

module _ {V S : Type 0} {v : verifiers.Ghosts V} {g : signers.Ghosts S} (old new : Client V S v g) (told : Option LinkState)
    (e after : Errands) (t : Talk) (at : IsTalk old told e t) (asked : after.asked ≡ e.asked) (left : after.left ≡ e.left) where
  -- with messages
  pub called_ok : (answer : Result ClientDone CallFault) →
      (d : ClientDone) × (answer ≡ Ok d) × (ShowsClient new d.client × Sends e.out after.out d) →
      HasCalled new told after t answer (Ok tt)
  called_ok answer done =
      (done.0, done.1, talk_sent old new told e after t done.0 at done.2.0 done.2.1.messages asked left)

  -- without
  pub called_still : (answer : Result ClientDone CallFault) (d : ClientDone) → answer ≡ Ok d → ShowsClient new d.client → d.sent ≡ [] →
      after.out.messages.items ≡ e.out.messages.items → HasCalled new told after t answer (Ok tt)
  called_still answer d is shows none same = (
    d,
    is,
    talk_sent old new told e after t d at shows
        (same ∙ sym (append-nil e.out.messages.items)
        ∙ ap (λ sent. e.out.messages.items ++ map framed sent) (sym none)) asked left,
  )

  -- not at all
  pub called_err : (answer : Result ClientDone CallFault) (fault : CallFault) → (fault ≢ calls.NoMemory → answer ≡ Err fault) →
      ShowsClient new t.client → SameOutbox e.out after.out → HasCalled new told after t answer (Err fault)
  called_err answer fault is shows same some = (is some, talk_same old new told e after t at shows same.messages asked left)

-- a write sends nothing
pub write_sends : (v : ClientValue) (slot : ℕ) (w : WritePart) (d : ClientDone) → call_write v slot w ≡ Ok d → d.sent ≡ []
write_sends v slot w d h = by (slice_get v.slots slot) h
  where
    unrefused : (o : Option CallFault) (x : ClientDone) → x.sent ≡ [] → unless o x ≡ Ok d → d.sent ≡ []
    unrefused None x none h = let same : x ≡ d = cc in ap (λ (y : ClientDone). y.sent) (sym same) ∙ none
    unrefused (Some fault) x none h = absurd cc

    by : (o : Option SlotValue) → by_slot v (λ s. unless (write_fault s w) (write_done v slot w s)) o ≡ Ok d → d.sent ≡ []
    by None h = let same : quiet v ≡ d = cc in ap (λ (y : ClientDone). y.sent) (sym same)
    by (Some s) h = unrefused (write_fault s w) (write_done v slot w s) refl h

-- nothing is logged
pub not_wanting : (fault : CallFault) → fault ≡ calls.NothingLogged → fault ≢ calls.NoMemory
not_wanting fault is wanting = let impossible : calls.NothingLogged ≡ calls.NoMemory = sym is ∙ wanting in cc

pub unlogged : (me : ClientSelf) (v : ClientValue) (slot : ℕ) → call_invoke me v slot ≡ Err calls.NothingLogged →
    (invokes me slot).call v ≡ Ok (quiet v)
unlogged me v slot is = ap (if_logged v) is

-- a transaction that is decided, is formed, or isn't
module _ (me : ClientSelf) (slot : ℕ) (v : ClientValue) where
  abbrev decided_or : Bool → Result ClientDone CallFault
  decided_or b = cond b (Ok (quiet v)) (recovery me v (formed_at slot v))

  pub recovers_decided : is_some (outcome_at me slot v) ≡ true → (recovers me slot).call v ≡ Ok (quiet v)
  recovers_decided h = ap decided_or h

  pub recovers_formed : (x : SignedValue) → is_some (outcome_at me slot v) ≡ false → formed_at slot v ≡ Some x →
      (recovers me slot).call v ≡ call_recover me v x.transaction x.signature
  recovers_formed x h formed = ap decided_or h ∙ ap (recovery me v) formed

  pub recovers_unformed : is_some (outcome_at me slot v) ≡ false → formed_at slot v ≡ None → (recovers me slot).call v ≡ Ok (quiet v)
  recovers_unformed h unformed = ap decided_or h ∙ ap (recovery me v) unformed

-- so it was recovered
pub recovered : (me : ClientSelf) (v : ClientValue) (x : SignedValue) (lent : TransactionValue) (bytes : List ℕ)
    {answer : Result ClientDone CallFault} {P : ClientDone → Type 0} → answer ≡ call_recover me v x.transaction x.signature →
    lent ≡ x.transaction → bytes ≡ x.signature →
    (d : ClientDone) × (call_recover me v lent bytes ≡ Ok d) × P d → (d : ClientDone) × (answer ≡ Ok d) × P d
recovered me v x lent bytes is named signed done = (
  done.0,
  is ∙ ap (λ t. call_recover me v t x.signature) (sym named) ∙ ap (call_recover me v lent) (sym signed) ∙ done.1,
  done.2,
)

-- or refused
pub unrecovered : (me : ClientSelf) (v : ClientValue) (x : SignedValue) (lent : TransactionValue) (bytes : List ℕ)
    {fault : CallFault} → lent ≡ x.transaction → bytes ≡ x.signature →
    (fault ≢ calls.NoMemory → call_recover me v lent bytes ≡ Err fault) → fault ≢ calls.NoMemory →
    call_recover me v x.transaction x.signature ≡ Err fault
unrecovered me v x lent bytes named signed is some =
    ap (λ t. call_recover me v t x.signature) (sym named) ∙ ap (call_recover me v lent) (sym signed) ∙ is some

-- ---- and asked for

pub comes : {V S : Type 0} {v : verifiers.Ghosts V} {g : signers.Ghosts S} (old new : Client V S v g) (l : Listing)
    (told after : Option LinkState) (e later : Errands) (t : Talk) (answer : Result ClientDone CallFault) (before now : ℕ) →
    HasCalled old told e t answer (Ok tt) →
    ((u : Talk) → IsTalk old told e u → HasAskedAll new l after later u before now) →
    ComesTo new l after later t answer before now (Ok tt)
comes old new l told after e later t answer before now done h =
    record { done = done.0; is = done.1; asked = h (sends t done.0) done.2 }

pub comes_refused : {V S : Type 0} {v : verifiers.Ghosts V} {g : signers.Ghosts S} (client : Client V S v g) (l : Listing)
    (told : Option LinkState) (e : Errands) (t : Talk) (answer : Result ClientDone CallFault) (before now : ℕ) (fault : CallFault) →
    HasCalled client told e t answer (Err fault) → ComesTo client l told e t answer before now (Err (fault_told fault))
comes_refused client l told e t answer before now (calls.TimeNotAbove last) h = h (λ is. cc)
comes_refused client l told e t answer before now calls.NotOpen h = h (λ is. cc)
comes_refused client l told e t answer before now calls.TooMany h = h (λ is. cc)
comes_refused client l told e t answer before now calls.SizeOut h = h (λ is. cc)
comes_refused client l told e t answer before now (calls.ReadPending key) h = h (λ is. cc)
comes_refused client l told e t answer before now calls.Empty h = h (λ is. cc)
comes_refused client l told e t answer before now calls.Exhausted h = h (λ is. cc)
comes_refused client l told e t answer before now calls.NotPrepared h = h (λ is. cc)
comes_refused client l told e t answer before now calls.NothingLogged h = h (λ is. cc)
comes_refused client l told e t answer before now (calls.BadTransaction form) h = h (λ is. cc)
comes_refused client l told e t answer before now calls.NoMemory h = tt

-- ---- one turn

module _ {V S : Type 0} {v : verifiers.Ghosts V} {g : signers.Ghosts S} (new : Client V S v g) (me : ClientSelf) (l : Listing)
    (slot : ℕ) (turn : Turn) (told : Option LinkState) (e : Errands) (t : Talk) (before now : ℕ) (self : own new ≡ me) where
  -- it goes on
  pub turned : HasCome new l told e t (turn.call t.client) before now →
      ((v : ClientValue) → ShowsClient new v → turn.stops v ≡ false) → HasTurned new l slot (turn ∷ []) told e t before now (Ok tt)
  turned h on =
      let asked = h.asked in
      record {
        mid = asked.new;
        failed = asked.failed;
        at = asked.at;
        goes = λ aim more rest end last runs.
            subst (λ a. Calling (own new) l slot turn a (Runs (own new) l slot aim more) t (asked.failed + rest) end last) (sym h.is)
            (record {
              mid = asked.new;
              now = asked.failed;
              rest = rest;
              asks = asked.asks;
              onward = subst (λ b. StopsOr slot b (Runs (own new) l slot aim more) asked.new rest end last)
                  (sym (on asked.new.client asked.at.client_is)) runs;
              sum = refl;
            });
        risen = asked.risen;
      }

  -- it stops
  pub stopped : HasCome new l told e t (turn.call t.client) before now → (replies : ℕ) →
      ((v : ClientValue) → ShowsClient new v → turn.stops v ≡ true) →
      ((v : ClientValue) → ShowsClient new v → replies ≡ held_at slot v) →
      HasTurned new l slot (turn ∷ []) told e t before now (Err (Undecided replies))
  stopped h replies stops held =
      let asked = h.asked in
      record {
        new = asked.new;
        failed = asked.failed;
        client_is = asked.at.client_is;
        links = asked.at.links;
        ends = λ aim more.
            subst
            (λ a. Calling (own new) l slot turn a (Runs (own new) l slot aim more) t asked.failed (Some (Undecided replies)) asked.new)
            (sym h.is)
            (record {
              mid = asked.new;
              now = asked.failed;
              rest = 0;
              asks = asked.asks;
              onward = subst (λ b. StopsOr slot b (Runs (own new) l slot aim more) asked.new 0 (Some (Undecided replies)) asked.new)
                  (sym (stops asked.new.client asked.at.client_is))
                  (record { ended = ap (λ n. Some (Undecided n)) (held asked.new.client asked.at.client_is); same = refl; none = refl });
              sum = omega arith;
            });
        risen = asked.risen;
      }

  -- it is refused
  pub turn_refused : (fault : CallFault) → (turn.call t.client ≡ Err fault) × IsTalk new told e t → before ≤ now →
      HasTurned new l slot (turn ∷ []) told e t before now (Err (Call fault))
  turn_refused fault h later =
      record {
        new = t;
        failed = 0;
        client_is = h.1.client_is;
        links = h.1.links;
        ends = λ aim more.
            subst (λ a. Calling (own new) l slot turn a (Runs (own new) l slot aim more) t 0 (Some (Call fault)) t) (sym h.0)
            (record { ended = refl; same = refl; none = refl });
        risen = rose_none before now later;
      }

  -- as it came
  pub turned_so : (result : Result (Unit {0}) RunFault) → ComesTo new l told e t (turn.call t.client) before now result →
      ((v : ClientValue) → turn.stops v ≡ false) → before ≤ now → HasTurned new l slot (turn ∷ []) told e t before now result
  turned_so (Ok x) h on later = turned h (λ v shows. on v)
  turned_so (Err (Call fault)) h on later = turn_refused fault h later
  turned_so (Err (Undecided replies)) h on later = absurd h
  turned_so (Err NoMemory) h on later = tt

-- none of the stages stops
pub never_stops : (me : ClientSelf) (slot : ℕ) (stage : Stage) (v : ClientValue) → (stage_turn me slot stage).stops v ≡ false
never_stops me slot stages.Prepare v = refl
never_stops me slot stages.Settle v = refl
never_stops me slot stages.Recover v = refl
never_stops me slot stages.Invoke v = refl

pub turned_err : {V S : Type 0} {v : verifiers.Ghosts V} {g : signers.Ghosts S} (new : Client V S v g) (l : Listing)
    (slot : ℕ) (turn : Turn) (told : Option LinkState) (e : Errands) (t : Talk) (before now : ℕ) (fault : RunFault) →
    ComesTo new l told e t (turn.call t.client) before now (Err fault) → before ≤ now →
    HasTurned new l slot (turn ∷ []) told e t before now (Err fault)
turned_err new l slot turn told e t before now (Call fault) h later =
    turn_refused new (own new) l slot turn told e t before now refl fault h later
turned_err new l slot turn told e t before now (Undecided replies) h later = absurd h
turned_err new l slot turn told e t before now NoMemory h later = tt

-- ---- one turn after another

-- of all turns these are left
pub record Turning {V S : Type 0} {v : verifiers.Ghosts V} {g : signers.Ghosts S} (first now : Client V S v g) (l : Listing)
    (slot : ℕ) (all left : List Turn) (told after : Option LinkState) (e later : Errands) (before count : ℕ) : Type 0 where
  pub self : own now ≡ own first
  pub seat : now.seat ≡ first.seat
  pub slots : KeepsSlots first.held now.held
  pub faults : before ≤ count
  pub at : (t : Talk) → IsTalk first told e t → (mid : Talk) × (failed : ℕ) × IsTalk now after later mid
      × ((aim : Aim) (more : List Turn) (rest : ℕ) (end : Option RunFault) (new : Talk) →
      Runs (own first) l slot aim (left ++ more) mid rest end new → Runs (own first) l slot aim (all ++ more) t (failed + rest) end new)
      × RoseBy failed before count

pub turning_none : {V S : Type 0} {v : verifiers.Ghosts V} {g : signers.Ghosts S} (first : Client V S v g) (l : Listing)
    (slot : ℕ) (all left : List Turn) (told : Option LinkState) (e : Errands) (before : ℕ) → left ≡ all →
    Turning first first l slot all left told told e e before before
turning_none first l slot all left told e before is =
    rw is
    (record {
      self = refl;
      seat = refl;
      slots = omega arith;
      faults = omega arith;
      at = λ t at. (
        t,
        0,
        at,
        λ aim more rest end new runs. subst (λ k. Runs (own first) l slot aim (all ++ more) t k end new) (omega arith) runs,
        rose_none before before (omega arith),
      );
    })

module _ {V S : Type 0} {v : verifiers.Ghosts V} {g : signers.Ghosts S} (first now next : Client V S v g) (l : Listing)
    (slot : ℕ) (all left others : List Turn) (turn : Turn) (told mid after : Option LinkState) (e between later : Errands)
    (before count counted : ℕ) (k : Turning first now l slot all left told mid e between before count)
    (is : left ≡ turn ∷ others) (self : own next ≡ own now) where
  pub turning_more : next.seat ≡ now.seat → KeepsSlots now.held next.held → count ≤ counted →
      ((t : Talk) → IsTalk now mid between t → HasTurned next l slot (turn ∷ []) after later t count counted (Ok tt)) →
      Turning first next l slot all others told after e later before counted
  turning_more seat slots risen h =
      let kept = k.slots in
      let faults = k.faults in
      record {
        self = self ∙ k.self;
        seat = seat ∙ k.seat;
        slots = omega (arith, kept, slots);
        faults = omega (arith, faults, risen);
        at = λ t at.
            let so = k.at t at in
            let failed = so.1 in
            let did = h so.0 so.2 in
            let same : own next ≡ own first = self ∙ k.self in (
              did.mid,
              failed + did.failed,
              did.at,
              λ aim more rest end new runs.
                  let one : Runs (own next) l slot aim ((turn ∷ []) ++ (others ++ more)) so.0 (did.failed + rest) end new =
                  did.goes aim (others ++ more) rest end new
                  (subst (λ me. Runs me l slot aim (others ++ more) did.mid rest end new) (sym same) runs) in
                  let here : Runs (own first) l slot aim (left ++ more) so.0 (did.failed + rest) end new =
                  subst (λ ts. Runs (own first) l slot aim (ts ++ more) so.0 (did.failed + rest) end new) (sym is)
                  (subst (λ me. Runs me l slot aim (turn ∷ (others ++ more)) so.0 (did.failed + rest) end new) same one) in
                  subst (λ n. Runs (own first) l slot aim (all ++ more) t n end new) (omega arith)
                  (so.3 aim more (did.failed + rest) end new here),
              rose_then failed did.failed before count counted so.4 did.risen,
            );
      }

  ended : (t : Talk) (fault : RunFault) → IsTalk first told e t →
      ((u : Talk) → IsTalk now mid between u → HasEnded next l slot (turn ∷ []) after u count counted fault) →
      HasEnded next l slot all after t before counted fault
  ended t fault at h =
      let so = k.at t at in
      let failed = so.1 in
      let did = h so.0 so.2 in
      let same : own next ≡ own first = self ∙ k.self in
      record {
        new = did.new;
        failed = failed + did.failed;
        client_is = did.client_is;
        links = did.links;
        ends = λ aim more.
            subst (λ me. Runs me l slot aim (all ++ more) t (failed + did.failed) (Some fault) did.new) (sym same)
            (so.3 aim more did.failed (Some fault) did.new
            (subst (λ ts. Runs (own first) l slot aim (ts ++ more) so.0 did.failed (Some fault) did.new) (sym is)
            (subst (λ me. Runs me l slot aim (turn ∷ (others ++ more)) so.0 did.failed (Some fault) did.new) same
            (did.ends aim (others ++ more)))));
        risen = rose_then failed did.failed before count counted so.4 did.risen;
      }

  pub turning_ended : (t : Talk) (fault : RunFault) → IsTalk first told e t →
      ((u : Talk) → IsTalk now mid between u → HasTurned next l slot (turn ∷ []) after later u count counted (Err fault)) →
      HasTurned next l slot all after later t before counted (Err fault)
  turning_ended t (Undecided replies) at h = ended t (Undecided replies) at h
  turning_ended t (Call fault) at h = ended t (Call fault) at h
  turning_ended t NoMemory at h = tt

pub turning_all : {V S : Type 0} {v : verifiers.Ghosts V} {g : signers.Ghosts S} (first now : Client V S v g) (l : Listing)
    (slot : ℕ) (all left : List Turn) (told after : Option LinkState) (e later : Errands) (before count : ℕ) (t : Talk) →
    Turning first now l slot all left told after e later before count → left ≡ [] → IsTalk first told e t →
    HasTurned now l slot all after later t before count (Ok tt)
turning_all first now l slot all left told after e later before count t k none at =
    let so = k.at t at in
    record {
      mid = so.0;
      failed = so.1;
      at = so.2;
      goes = λ aim more rest end new runs.
          subst (λ me. Runs me l slot aim (all ++ more) t (so.1 + rest) end new) (sym k.self)
          (so.3 aim more rest end new
          (subst (λ ts. Runs (own first) l slot aim (ts ++ more) so.0 rest end new) (sym none)
          (subst (λ me. Runs me l slot aim more so.0 rest end new) k.self runs)));
      risen = so.4;
    }

-- ---- a run

pub talk_begun : {V S : Type 0} {v : verifiers.Ghosts V} {g : signers.Ghosts S} (client : Client V S v g) (told : Option LinkState)
    (e : Errands) (w : ClientValue) (s : LinkState) → ShowsClient client w → told ≡ Some s → e.out.messages.items ≡ [] → e.asked ≡ 0 →
    e.left ≡ 4096 → IsTalk client told e (starting w s)
talk_begun client told e w s shows links none asked left =
    record {
      client_is = shows;
      links = links;
      within = omega (arith, asked);
      queue = sym none ∙ ap (λ (k : ℕ). drop k e.out.messages.items) (sym asked);
      left = left;
    }

-- the turns end it
module _ {V S : Type 0} {v : verifiers.Ghosts V} {g : signers.Ghosts S} (client : Client V S v g) (me : ClientSelf) (l : Listing)
    (slot : ℕ) (aim : Aim) (turns : List Turn) (told : Option LinkState) (e : Errands) (t : Talk) (before now : ℕ) where
  ended_in : (more : List Turn) (fault : RunFault) → own client ≡ me → HasEnded client l slot turns told t before now fault →
      HasRun client told (Runs me l slot aim (turns ++ more)) t before now (Some fault)
  ended_in more fault self h =
      record {
        new = h.new;
        client_is = h.client_is;
        links = h.links;
        failed = h.failed;
        runs_so = subst (λ m. Runs m l slot aim (turns ++ more) t h.failed (Some fault) h.new) self (h.ends aim more);
        risen = h.risen;
      }

  pub run_ended : (more : List Turn) (fault : RunFault) → own client ≡ me →
      HasTurned client l slot turns told e t before now (Err fault) →
      OnEnd {T = Unit {0}} (Err fault) (HasRun client told (Runs me l slot aim (turns ++ more)) t before now)
  run_ended more (Undecided replies) self h = ended_in more _ self h
  run_ended more (Call fault) self h = ended_in more _ self h
  run_ended more NoMemory self h = tt

  -- none stands behind them
  pub run_ended_last : (fault : RunFault) → own client ≡ me → HasTurned client l slot turns told e t before now (Err fault) →
      OnEnd {T = Unit {0}} (Err fault) (HasRun client told (Runs me l slot aim turns) t before now)
  run_ended_last fault self h =
      subst (λ ts. OnEnd {T = Unit {0}} (Err fault) (HasRun client told (Runs me l slot aim ts) t before now)) (append-nil turns)
      (run_ended [] fault self h)

-- they came through, and there is a decision, or none
pub run_closed : {V S : Type 0} {v : verifiers.Ghosts V} {g : signers.Ghosts S} (client : Client V S v g) (me : ClientSelf) (l : Listing)
    (slot : ℕ) (turns : List Turn) (told : Option LinkState) (e : Errands) (t : Talk) (before now : ℕ) → own client ≡ me →
    (h : HasGone client l slot turns told e t before now) (end : Option RunFault) → end ≡ ending (own client) slot h.mid.client →
    HasRun client told (Runs me l slot Decision turns) t before now end
run_closed client me l slot turns told e t before now self h end is =
    let last : Runs (own client) l slot Decision [] h.mid 0 end h.mid = record { ended = is; same = refl; none = refl } in
    record {
      new = h.mid;
      client_is = h.at.client_is;
      links = h.at.links;
      failed = h.failed + 0;
      runs_so = subst (λ m. Runs m l slot Decision turns t (h.failed + 0) end h.mid) self
          (subst (λ ts. Runs (own client) l slot Decision ts t (h.failed + 0) end h.mid) (append-nil turns)
          (h.goes Decision [] 0 end h.mid last));
      risen = subst (λ n. RoseBy n before now) (omega arith) h.risen;
    }

-- the transaction is formed, or the client refuses that
module _ {V S : Type 0} {v : verifiers.Ghosts V} {g : signers.Ghosts S} (client : Client V S v g) (told : Option LinkState)
    (e : Errands) (me : ClientSelf) (l : Listing) (slot : ℕ) (t : Talk) (count : ℕ) where
  pub run_formed : HasCalled client told e t (call_prepare me t.client slot) (Ok tt) →
      HasRun client told (Runs me l slot Form []) t count count None
  run_formed h =
      record {
        new = sends t h.0;
        client_is = h.2.client_is;
        links = h.2.links;
        failed = 0;
        runs_so = subst (λ a. FormsBy a t 0 None (sends t h.0)) (sym h.1) (record { ended = refl; same = refl; none = refl });
        risen = rose_none count count (omega arith);
      }

  unformed : (fault : CallFault) → (call_prepare me t.client slot ≡ Err fault) × IsTalk client told e t →
      HasRun client told (Runs me l slot Form []) t count count (Some (Call fault))
  unformed fault h =
      record {
        new = t;
        client_is = h.1.client_is;
        links = h.1.links;
        failed = 0;
        runs_so = subst (λ a. FormsBy a t 0 (Some (Call fault)) t) (sym h.0) (record { ended = refl; same = refl; none = refl });
        risen = rose_none count count (omega arith);
      }

  unformed_as : (fault : CallFault) → HasCalled client told e t (call_prepare me t.client slot) (Err fault) →
      OnEnd {T = Unit {0}} (Err (fault_told fault)) (HasRun client told (Runs me l slot Form []) t count count)
  unformed_as (calls.TimeNotAbove last) h = unformed _ (h (λ is. cc))
  unformed_as calls.NotOpen h = unformed _ (h (λ is. cc))
  unformed_as calls.TooMany h = unformed _ (h (λ is. cc))
  unformed_as calls.SizeOut h = unformed _ (h (λ is. cc))
  unformed_as (calls.ReadPending key) h = unformed _ (h (λ is. cc))
  unformed_as calls.Empty h = unformed _ (h (λ is. cc))
  unformed_as calls.Exhausted h = unformed _ (h (λ is. cc))
  unformed_as calls.NotPrepared h = unformed _ (h (λ is. cc))
  unformed_as calls.NothingLogged h = unformed _ (h (λ is. cc))
  unformed_as (calls.BadTransaction form) h = unformed _ (h (λ is. cc))
  unformed_as calls.NoMemory h = tt

  pub run_unformed : (fault : CallFault) (known : RunFault) → known ≡ fault_told fault →
      HasCalled client told e t (call_prepare me t.client slot) (Err fault) →
      OnEnd {T = Unit {0}} (Err known) (HasRun client told (Runs me l slot Form []) t count count)
  run_unformed fault known is h =
      subst (λ f. OnEnd {T = Unit {0}} (Err f) (HasRun client told (Runs me l slot Form []) t count count)) (sym is)
      (unformed_as fault h)

-- behind the turns it runs on
module _ {V S : Type 0} {v : verifiers.Ghosts V} {g : signers.Ghosts S} (mid client : Client V S v g) (me : ClientSelf) (l : Listing)
    (slot : ℕ) (aim : Aim) (turns : List Turn) (of : ClientSelf → List Turn) (told after : Option LinkState) (e : Errands) (t : Talk)
    (before between now : ℕ) (first : HasGone mid l slot turns told e t before between) (self : own mid ≡ me) where
  through : (end : Option RunFault) → HasRun client after (Runs (own mid) l slot aim (of (own mid))) first.mid between now end →
      HasRun client after (Runs me l slot aim (turns ++ of me)) t before now end
  through end h =
      record {
        new = h.new;
        client_is = h.client_is;
        links = h.links;
        failed = first.failed + h.failed;
        runs_so = subst (λ m. Runs m l slot aim (turns ++ of m) t (first.failed + h.failed) end h.new) self
            (first.goes aim (of (own mid)) h.failed end h.new h.runs_so);
        risen = rose_then first.failed h.failed before between now first.risen h.risen;
      }

  pub run_then : (result : Result (Unit {0}) RunFault) →
      OnEnd result (HasRun client after (Runs (own mid) l slot aim (of (own mid))) first.mid between now) →
      OnEnd result (HasRun client after (Runs me l slot aim (turns ++ of me)) t before now)
  run_then (Ok x) h = through None h
  run_then (Err (Undecided replies)) h = through _ h
  run_then (Err (Call fault)) h = through _ h
  run_then (Err NoMemory) h = tt

-- for what it is
pub run_then_for : {V S : Type 0} {v : verifiers.Ghosts V} {g : signers.Ghosts S} (mid client : Client V S v g) (me : ClientSelf)
    (l : Listing) (slot : ℕ) (aim known : Aim) (turns : List Turn) (told after : Option LinkState) (e : Errands) (t : Talk)
    (before between now : ℕ) → (first : HasGone mid l slot turns told e t before between) → own mid ≡ me → aim ≡ known →
    (result : Result (Unit {0}) RunFault) →
    OnEnd result (HasRun client after (Runs (own mid) l slot known (closing (own mid) slot known)) first.mid between now) →
    OnEnd result (HasRun client after (Runs me l slot aim (turns ++ closing me slot aim)) t before now)
run_then_for mid client me l slot aim known turns told after e t before between now first self is result h =
    run_then mid client me l slot aim turns (λ m. closing m slot aim) told after e t before between now first self result
    (subst (λ a. OnEnd result (HasRun client after (Runs (own mid) l slot a (closing (own mid) slot a)) first.mid between now)) (sym is) h)

-- there is a decision, or none
pub ending_decided : (me : ClientSelf) (slot : ℕ) (v : ClientValue) → is_some (outcome_at me slot v) ≡ true → None ≡ ending me slot v
ending_decided me slot v h = sym (ap (λ b. cond b None (Some (Undecided (held_at slot v)))) h)

pub ending_open : (me : ClientSelf) (slot : ℕ) (v : ClientValue) (replies : ℕ) → is_some (outcome_at me slot v) ≡ false →
    replies ≡ held_at slot v → Some (Undecided replies) ≡ ending me slot v
ending_open me slot v replies h held =
    ap (λ n. Some (Undecided n)) held ∙ sym (ap (λ b. cond b None (Some (Undecided (held_at slot v)))) h)

-- ---- a run from its first call

begin_sends : (v : ClientValue) (time : ℕ) (d : ClientDone) → call_begin v time ≡ Ok d → d.sent ≡ []
begin_sends v time d h = unrefused (when (not (nat_lt v.last time)) (calls.TimeNotAbove v.last)) h
  where
    unrefused : (o : Option CallFault) → unless o (begin_done v time) ≡ Ok d → d.sent ≡ []
    unrefused None h = let same : begin_done v time ≡ d = cc in ap (λ (y : ClientDone). y.sent) (sym same)
    unrefused (Some fault) h = absurd cc

module _ {V S : Type 0} {v : verifiers.Ghosts V} {g : signers.Ghosts S} (client : Client V S v g) (me : ClientSelf) (l : Listing)
    (aim : Aim) (time : ℕ) (plan : List Op) (w : ClientValue) (s : LinkState) (told : Option LinkState) (before now : ℕ) where
  begun_end : (slot : ℕ) (d : ClientDone) (end : Option RunFault) → call_begin w time ≡ Ok d → slot ≡ length w.slots →
      HasRun client told (Runs me l slot aim (turns_of me slot plan ++ closing me slot aim)) (starting d.client s) before now end →
      HasRun client told (RunsPlan me l aim time plan) (starting w s) before now end
  begun_end slot d end begun at h =
      let waits : starting d.client s ≡ sends (starting w s) d =
      ap (λ sent. record (starting d.client s) { queue = map framed sent }) (sym (begin_sends w time d begun)) in
      record {
        new = h.new;
        client_is = h.client_is;
        links = h.links;
        failed = h.failed;
        runs_so = subst (λ a. RunsBegun me l aim plan (length w.slots) a (starting w s) h.failed end h.new) (sym begun)
            (subst (λ n. Runs me l n aim (turns_of me n plan ++ closing me n aim) (sends (starting w s) d) h.failed end h.new) at
            (subst (λ t. Runs me l slot aim (turns_of me slot plan ++ closing me slot aim) t h.failed end h.new) waits h.runs_so));
        risen = h.risen;
      }

  module _ (mine : ClientSelf) (same : mine ≡ me) (slot : ℕ) (d : ClientDone) (begun : call_begin w time ≡ Ok d)
      (at : slot ≡ length w.slots)
    where
      abbrev Ran : ClientSelf → Option RunFault → Type 0
      Ran m end =
          HasRun client told (Runs m l slot aim (turns_of m slot plan ++ closing m slot aim)) (starting d.client s) before now end

      -- it came through
      pub run_begun : Ran mine None → HasRun client told (RunsPlan me l aim time plan) (starting w s) before now None
      run_begun h = begun_end slot d None begun at (subst (λ m. Ran m None) same h)

      -- it didn't
      pub run_begun_err : (fault : RunFault) → OnEnd {T = Unit {0}} (Err fault) (Ran mine) →
          OnEnd {T = ℕ} (Err fault) (HasRun client told (RunsPlan me l aim time plan) (starting w s) before now)
      run_begun_err (Undecided replies) h = begun_end slot d _ begun at (subst (λ m. Ran m (Some (Undecided replies))) same h)
      run_begun_err (Call fault) h = begun_end slot d _ begun at (subst (λ m. Ran m (Some (Call fault))) same h)
      run_begun_err NoMemory h = tt

  -- the client refuses to begin
  unbegun_end : (fault : CallFault) → call_begin w time ≡ Err fault → ShowsClient client w → told ≡ Some s → before ≤ now →
      HasRun client told (RunsPlan me l aim time plan) (starting w s) before now (Some (Call fault))
  unbegun_end fault begun shows links later =
      record {
        new = starting w s;
        client_is = shows;
        links = links;
        failed = 0;
        runs_so = subst (λ a. RunsBegun me l aim plan (length w.slots) a (starting w s) 0 (Some (Call fault)) (starting w s)) (sym begun)
            (record { ended = refl; same = refl; none = refl });
        risen = rose_none before now later;
      }

  run_unbegun_as : (fault : CallFault) → (fault ≢ calls.NoMemory → call_begin w time ≡ Err fault) → ShowsClient client w →
      told ≡ Some s → before ≤ now →
      OnEnd {T = ℕ} (Err (fault_told fault)) (HasRun client told (RunsPlan me l aim time plan) (starting w s) before now)
  run_unbegun_as (calls.TimeNotAbove last) h shows links later = unbegun_end _ (h (λ is. cc)) shows links later
  run_unbegun_as calls.NotOpen h shows links later = unbegun_end _ (h (λ is. cc)) shows links later
  run_unbegun_as calls.TooMany h shows links later = unbegun_end _ (h (λ is. cc)) shows links later
  run_unbegun_as calls.SizeOut h shows links later = unbegun_end _ (h (λ is. cc)) shows links later
  run_unbegun_as (calls.ReadPending key) h shows links later = unbegun_end _ (h (λ is. cc)) shows links later
  run_unbegun_as calls.Empty h shows links later = unbegun_end _ (h (λ is. cc)) shows links later
  run_unbegun_as calls.Exhausted h shows links later = unbegun_end _ (h (λ is. cc)) shows links later
  run_unbegun_as calls.NotPrepared h shows links later = unbegun_end _ (h (λ is. cc)) shows links later
  run_unbegun_as calls.NothingLogged h shows links later = unbegun_end _ (h (λ is. cc)) shows links later
  run_unbegun_as (calls.BadTransaction form) h shows links later = unbegun_end _ (h (λ is. cc)) shows links later
  run_unbegun_as calls.NoMemory h shows links later = tt

  pub run_unbegun : (fault : CallFault) (known : RunFault) → known ≡ fault_told fault →
      (fault ≢ calls.NoMemory → call_begin w time ≡ Err fault) →
      ShowsClient client w → told ≡ Some s → before ≤ now →
      OnEnd {T = ℕ} (Err known) (HasRun client told (RunsPlan me l aim time plan) (starting w s) before now)
  run_unbegun fault known is h shows links later =
      subst (λ f. OnEnd {T = ℕ} (Err f) (HasRun client told (RunsPlan me l aim time plan) (starting w s) before now)) (sym is)
      (run_unbegun_as fault h shows links later)

-- ---- a run from a transaction that was formed

-- it was taken up
pub took_up : {V S : Type 0} {v : verifiers.Ghosts V} {g : signers.Ghosts S} (new : Client V S v g) (me : ClientSelf) (l : Listing)
    (x : SignedValue) (told : Option LinkState) (e : Errands) (t : Talk) (before now : ℕ) (result : Result (Unit {0}) RunFault) →
    own new ≡ me → before ≤ now → ComesTo new l told e t (call_recover me t.client x.transaction x.signature) before now result →
    HasTurned new l (recovered_at t.client x.transaction) (takes_up me x ∷ []) told e t before now result
took_up new me l x told e t before now result self later h =
    turned_so new me l (recovered_at t.client x.transaction) (takes_up me x) told e t before now self result h (λ v. refl) later

pub not_taken_up : {V S : Type 0} {v : verifiers.Ghosts V} {g : signers.Ghosts S} (new : Client V S v g) (me : ClientSelf)
    (l : Listing) (x : SignedValue) (told : Option LinkState) (e : Errands) (t : Talk) (count : ℕ) (fault : CallFault)
    (known : RunFault) → own new ≡ me → known ≡ fault_told fault →
    HasCalled new told e t (call_recover me t.client x.transaction x.signature) (Err fault) →
    HasTurned new l (recovered_at t.client x.transaction) (takes_up me x ∷ []) told e t count count (Err known)
not_taken_up new me l x told e t count fault known self is h =
    subst (λ f. HasTurned new l (recovered_at t.client x.transaction) (takes_up me x ∷ []) told e t count count (Err f)) (sym is)
    (took_up new me l x told e t count count (Err (fault_told fault)) self (omega arith)
    (comes_refused new l told e t (call_recover me t.client x.transaction x.signature) count count fault h))

-- as it is said of the whole
module _ {V S : Type 0} {v : verifiers.Ghosts V} {g : signers.Ghosts S} (client : Client V S v g) (me : ClientSelf) (l : Listing)
    (x : SignedValue) (told : Option LinkState) (t : Talk) (before now : ℕ) where
  abbrev Recovered : Option RunFault → Type 0
  Recovered end =
      let at = recovered_at t.client x.transaction in
      HasRun client told (Runs me l at Decision (takes_up me x ∷ finishing me at)) t before now end

  recovery_ran : (end : Option RunFault) → Recovered end → HasRun client told (RunsRecovery me l x) t before now end
  recovery_ran end h =
      record {
        new = h.new;
        client_is = h.client_is;
        links = h.links;
        failed = h.failed;
        runs_so = h.runs_so;
        risen = h.risen;
      }

  recovery_ended : (result : Result (Unit {0}) RunFault) → OnEnd result Recovered →
      OnEnd result (HasRun client told (RunsRecovery me l x) t before now)
  recovery_ended (Ok done) h = recovery_ran None h
  recovery_ended (Err (Undecided replies)) h = recovery_ran _ h
  recovery_ended (Err (Call fault)) h = recovery_ran _ h
  recovery_ended (Err NoMemory) h = tt

  -- the first call ends it
  pub run_untaken : (e : Errands) (fault : RunFault) → own client ≡ me →
      HasTurned client l (recovered_at t.client x.transaction) (takes_up me x ∷ []) told e t before now (Err fault) →
      OnEnd {T = Unit {0}} (Err fault) (HasRun client told (RunsRecovery me l x) t before now)
  run_untaken e fault self h =
      let at = recovered_at t.client x.transaction in
      recovery_ended (Err fault)
      (run_ended client me l at Decision (takes_up me x ∷ []) told e t before now (finishing me at) fault self h)

  -- or the others come behind it
  pub run_finished : (mid : Client V S v g) (slot : ℕ) (first_told : Option LinkState) (e : Errands) (between : ℕ) →
      slot ≡ recovered_at t.client x.transaction → own mid ≡ me →
      (first : HasGone mid l (recovered_at t.client x.transaction) (takes_up me x ∷ []) first_told e t before between) →
      (result : Result (Unit {0}) RunFault) →
      OnEnd result (HasRun client told (Runs (own mid) l slot Decision (finishing (own mid) slot)) first.mid between now) →
      OnEnd result (HasRun client told (RunsRecovery me l x) t before now)
  run_finished mid slot first_told e between is self first result h =
      let at = recovered_at t.client x.transaction in
      recovery_ended result
      (run_then mid client me l at Decision (takes_up me x ∷ []) (λ m. finishing m at) first_told told e t before between now first self
      result
      (subst (λ k. OnEnd result (HasRun client told (Runs (own mid) l k Decision (finishing (own mid) k)) first.mid between now)) is h))

-- the slot was answered
pub end_given : (P : Option RunFault → Type 0) (result : Result ℕ RunFault) → OnEnd (slot_given result) P → OnEnd result P
end_given P (Ok slot) h = h
end_given P (Err (Undecided replies)) h = h
end_given P (Err (Call fault)) h = h
end_given P (Err NoMemory) h = tt
