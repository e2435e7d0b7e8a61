-- A run with journals goes by events, or breaks off in a breach.
use Rattle.std.proofs.Common.{◌≡◌, ℕ, Bool, true, false, List, [], ◌∷◌, Option, Some, None, refl, ap, subst, ◌∙◌}
use Rattle.std.specs.Prelude.{Result, Ok, Err, length, option_and_then, if◌then◌else◌}
use Rattle.std.specs.Option.{option_map_or}
use Rattle.basil_types.specs.Steps.{◌>>=◌}
use Rattle.basil_types.specs.declared.party.Party.TheVariants.{Replica}
use Rattle.cluster_run.specs.Events as events
use Rattle.cluster_run.specs.Events.{EventValue, happens}
use Rattle.cluster_run.specs.Safety.{IsEvent}
use Rattle.cluster_run.specs.States.{Setup, State}
use Rattle.cluster_run.specs.declared.fault.WorldFault.{WorldFault}
use Rattle.cluster_run.specs.declared.fault.WorldFault.TheVariants as world
use Rattle.delivery_laws.specs.Deliveries.{Taking, takes}
use Rattle.journal_disk.specs.declared.disk.Stop.{Stop}
use Rattle.journaled_runs.specs.Journaling.{JournaledState, entered_since, full, full_by, handing}
use Rattle.journaled_runs.specs.Journaling.{happens_in, is_to, lose_all, noted, stopped}
use Rattle.journaled_runs.specs.Journaling.{stops_in, written}
use Rattle.node_journal.specs.Journals.{journal_bytes}
use Rattle.node_steps.specs.Refusing.{unless_refused, when}
use Rattle.premise_watch.specs.declared.broken.Broken.{Broken}
use Rattle.run_journals.specs.Journals.{JournalValue, is_full_for, journal_at, keeps_record}
use Rattle.schedule_replay.proofs.Running.{Goes, between, goes_on, one_breaks, one_goes, stays}

pub is_broken : {A B : Type 0} (x : Result A WorldFault) (f : A → B) (b : Broken) → (x >>= λ st. Ok (f st)) ≡ Err (world.Broken b) →
    x ≡ Err (world.Broken b)
is_broken (Ok st) f b h = absurd cc
is_broken (Err e) f b h = let same : e ≡ world.Broken b = cc in ap (λ (z : WorldFault). Err z) same

-- ---- a refusal by a journal is no breach

no_refusal : {A : Type 0} (o : Option WorldFault) (answer : Result A WorldFault) (x : A) → unless_refused o answer ≡ Ok x → answer ≡ Ok x
no_refusal None answer x h = h
no_refusal (Some w) answer x h = absurd cc

no_breach : {A : Type 0} (journals : List JournalValue) (t : Option Taking) (answer : Result A WorldFault) (b : Broken) →
    unless_refused (full journals t) answer ≡ Err (world.Broken b) → answer ≡ Err (world.Broken b)
no_breach journals None answer b h = h
no_breach journals (Some t) answer b h = by (journal_at journals t.shard t.index) h
  where
    wide : (j : JournalValue) (c : Bool) →
        unless_refused (when c (world.PoolFull (length j.taken) (journal_bytes j.taken))) answer ≡ Err (world.Broken b) →
        answer ≡ Err (world.Broken b)
    wide j true h = absurd cc
    wide j false h = h

    by : (o : Option JournalValue) → unless_refused (option_and_then (full_by t.handed) o) answer ≡ Err (world.Broken b) →
        answer ≡ Err (world.Broken b)
    by None h = h
    by (Some j) h = wide j (is_full_for j t.handed) h

-- ---- an event

module _ (s : Setup) where
  module _ (e : EventValue) (x : JournaledState) where
    abbrev after : State → JournaledState
    after st = record { state = st; journals = written (takes s x.state e) x.journals }

    happened : (y : JournaledState) → happens_in s e x ≡ Ok y → happens s e x.state ≡ Ok y.state
    happened y h =
        let b = between (happens s e x.state) (λ st. Ok (after st)) y
        (no_refusal (full x.journals (takes s x.state e)) (happens s e x.state >>= λ st. Ok (after st)) y h) in
        let same : after b.start ≡ y = cc in
        b.first ∙ ap (λ (z : JournaledState). Ok z.state) same

    pub event_goes : IsEvent e → (y : JournaledState) → happens_in s e x ≡ Ok y → Goes s x.state (Ok y.state)
    event_goes sized y h = one_goes s e x.state y.state sized (happened y h)

    pub event_breaks : (b : Broken) → IsEvent e → happens_in s e x ≡ Err (world.Broken b) → Goes s x.state (Err b)
    event_breaks b sized h =
        one_breaks s e x.state b sized
        (is_broken (happens s e x.state) after b
        (no_breach x.journals (takes s x.state e) (happens s e x.state >>= λ st. Ok (after st)) b h))

  -- ---- messages that are lost

  lost_go : (messages : List ℕ) (x y : JournaledState) → lose_all s messages x ≡ Ok y → Goes s x.state (Ok y.state)
  lost_go [] x y h = let same : x ≡ y = cc in subst (λ (z : JournaledState). Goes s x.state (Ok z.state)) same (stays s x.state)
  lost_go (m ∷ messages) x y h =
      let b = between (happens_in s (events.Lose m) x) (lose_all s messages) y h in
      goes_on s x.state b.start.state (Ok y.state) (event_goes (events.Lose m) x tt b.start b.first) (lost_go messages b.start y b.second)

  lost_break : (messages : List ℕ) (x : JournaledState) (b : Broken) → lose_all s messages x ≡ Err (world.Broken b) →
      Goes s x.state (Err b)
  lost_break [] x b h = absurd cc
  lost_break (m ∷ messages) x b h = by (happens_in s (events.Lose m) x) refl h (λ y. lost_break messages y b)
    where
      by : (a : Result JournaledState WorldFault) → happens_in s (events.Lose m) x ≡ a →
          (a >>= lose_all s messages) ≡ Err (world.Broken b) →
          ((y : JournaledState) → lose_all s messages y ≡ Err (world.Broken b) → Goes s y.state (Err b)) → Goes s x.state (Err b)
      by (Ok y) e h rest = goes_on s x.state y.state (Err b) (event_goes (events.Lose m) x tt y e) (rest y h)
      by (Err f) e h rest =
          let same : f ≡ world.Broken b = cc in event_breaks (events.Lose m) x b tt (e ∙ ap (λ (z : WorldFault). Err z) same)

  -- ---- a stop

  module _ (message shard index : ℕ) (stop : Stop) (given : List ℕ) (x : JournaledState) where
    abbrev e : EventValue
    e = handing x.state message shard index given

    is_event : IsEvent e
    is_event = by (is_to x.state message (Replica shard index))
      where
        by : (b : Bool) → IsEvent (if b then events.Deliver message given else events.Divert message (Replica shard index) given)
        by true = tt
        by false = tt

    module _ (t : Taking) where
      abbrev kept : Result JournaledState WorldFault
      kept = happens_in s e x >>= (λ y. lose_all s (entered_since (length x.state.pool) y.state) (noted t stop y))

      stopped_goes : (y : JournaledState) → stopped s stop e t x ≡ Ok y → Goes s x.state (Ok y.state)
      stopped_goes y h =
          by (keeps_record stop.write stop.bytes)
          (no_refusal (full x.journals (Some t)) (if keeps_record stop.write stop.bytes then kept else Ok (noted t stop x)) y h)
        where
          by : (b : Bool) → (if b then kept else Ok (noted t stop x)) ≡ Ok y → Goes s x.state (Ok y.state)
          by true k =
              let b = between (happens_in s e x) (λ y. lose_all s (entered_since (length x.state.pool) y.state) (noted t stop y)) y k in
              goes_on s x.state b.start.state (Ok y.state) (event_goes e x is_event b.start b.first)
              (lost_go (entered_since (length x.state.pool) b.start.state) (noted t stop b.start) y b.second)
          by false k =
              let same : noted t stop x ≡ y = cc in
              subst (λ (z : JournaledState). Goes s x.state (Ok z.state)) same (stays s x.state)

      stopped_breaks : (b : Broken) → stopped s stop e t x ≡ Err (world.Broken b) → Goes s x.state (Err b)
      stopped_breaks b h =
          by (keeps_record stop.write stop.bytes)
          (no_breach x.journals (Some t) (if keeps_record stop.write stop.bytes then kept else Ok (noted t stop x)) b h)
        where
          at_event : (a : Result JournaledState WorldFault) → happens_in s e x ≡ a →
              (a >>= (λ y. lose_all s (entered_since (length x.state.pool) y.state) (noted t stop y))) ≡ Err (world.Broken b) →
              Goes s x.state (Err b)
          at_event (Ok y) same k =
              goes_on s x.state y.state (Err b) (event_goes e x is_event y same)
              (lost_break (entered_since (length x.state.pool) y.state) (noted t stop y) b k)
          at_event (Err f) same k =
              let is : f ≡ world.Broken b = cc in event_breaks e x b is_event (same ∙ ap (λ (z : WorldFault). Err z) is)

          by : (c : Bool) → (if c then kept else Ok (noted t stop x)) ≡ Err (world.Broken b) → Goes s x.state (Err b)
          by true k = at_event (happens_in s e x) refl k
          by false k = absurd cc

    pub stop_goes : (y : JournaledState) → stops_in s message shard index stop given x ≡ Ok y → Goes s x.state (Ok y.state)
    stop_goes y h = by (takes s x.state e) h
      where
        by : (o : Option Taking) → option_map_or (λ t. stopped s stop e t x) o (happens_in s e x) ≡ Ok y → Goes s x.state (Ok y.state)
        by None h = event_goes e x is_event y h
        by (Some t) h = stopped_goes t y h

    pub stop_breaks : (b : Broken) → stops_in s message shard index stop given x ≡ Err (world.Broken b) → Goes s x.state (Err b)
    stop_breaks b h = by (takes s x.state e) h
      where
        by : (o : Option Taking) → option_map_or (λ t. stopped s stop e t x) o (happens_in s e x) ≡ Err (world.Broken b) →
            Goes s x.state (Err b)
        by None h = event_breaks e x b is_event h
        by (Some t) h = stopped_breaks t b h
