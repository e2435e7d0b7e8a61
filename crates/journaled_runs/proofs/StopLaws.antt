-- What a stop leaves of a run, and of its journals.
use Rattle.std.proofs.Common.{◌≡◌, ◌∙◌, ℕ, ◌+◌, zero, suc, Bool, true, false, cond, List, [], ◌∷◌, ◌++◌, refl, sym, ap, subst}
use Rattle.std.proofs.Common.{arith, length, ◌≤◌}
use Rattle.std.proofs.lemmas.Option.{same_Some}
use Rattle.std.specs.List.{range_with_len}
use Rattle.std.specs.Option.{option_map_or}
use Rattle.std.specs.Prelude.{◌-◌, Option, Some, None, Result, Ok, Err, option_map}
use Rattle.basil_types.specs.Steps.{◌>>=◌}
use Rattle.journal_disk.specs.declared.disk.Stop.{Stop}
use Rattle.journal_records.specs.Stopping.{and_if}
use Rattle.keyring.specs.declared.verifier.Verifier as verifiers
use Rattle.keyring.specs.declared.signer.Signer as signers
use Rattle.node_steps.specs.Refusing.{unless_refused}
use Rattle.run_journals.specs.declared.journals.Journals.{Journals}
use Rattle.run_journals.specs.declared.took.Took.TheVariants.{Taken}
use Rattle.run_journals.specs.Journals.{JournalValue, after_take, is_its, journal_at, keeps_record, put_at, put_journal}
use Rattle.cluster_run.specs.declared.fault.WorldFault.{WorldFault}
use Rattle.cluster_run.specs.declared.fault.WorldFault.TheVariants.{Broken, PoolFull, Call, Exhausted}
use Rattle.cluster_run.specs.Events.{EventValue, Lose, happens, lost, marked}
use Rattle.cluster_run.specs.States.{KitValue, Posted, Setup, State, posted_at}
use Rattle.cluster_world.specs.Comes.{Comes}
use Rattle.cluster_world.specs.declared.engine.Engine.{Engine}
use Rattle.cluster_world.specs.declared.fault.StepFault.{StepFault}
use Rattle.cluster_world.specs.declared.fault.StepFault.TheVariants as fault
use Rattle.cluster_world.specs.Shows.{Shows}
use Rattle.delivery_laws.specs.Deliveries.{Taking, book_in, takes}
use Rattle.delivery_laws.specs.Laws.{BooksFollowDeliveries}
use Rattle.journaled_runs.specs.Handing.{FindsRoom, WritesNothing, journal_of}
use Rattle.journaled_runs.specs.Journaling.{JournaledState, entered_since, full, happens_in, lose_all, noted, stopped, with_stop, written}
use Rattle.journaled_runs.specs.Shown.{AreOwn, ComesTo, Holds, IsOwn, KeepsAll}
use Rattle.journaled_runs.specs.Stopping.{HasStopped, Loses, LosesAll, after_stopping}
use Rattle.journaled_runs.proofs.Owning.{own_on}
use Rattle.journaled_runs.proofs.Places.{found_so, none_of, is_there, found_there, put_found, put_other, put_over}
use Rattle.journaled_runs.proofs.StepLaws.{comes_quiet, in_room}

-- ---- the journals

-- those with the stop of the disk of the replica that takes
abbrev pub with_stop_at : Taking → Stop → List JournalValue → List JournalValue
with_stop_at t stop js = put_at (with_stop stop) (journal_at js t.shard t.index) js

module _ (t : Taking) (stop : Stop) (js : List JournalValue) where
  abbrev left : Bool → JournalValue → JournalValue
  left b j = record j { taken = and_if b j.taken t.handed; stops = j.stops ++ stop ∷ [] }

  -- where the record isn't kept
  pub left_out : keeps_record stop.write stop.bytes ≡ false → after_stopping (Some t) stop js ≡ with_stop_at t stop js
  left_out e = by (journal_at js t.shard t.index)
    where
      by : (o : Option JournalValue) → put_at (left (keeps_record stop.write stop.bytes)) o js ≡ put_at (with_stop stop) o js
      by None = refl
      by (Some j) = ap (λ b. put_journal (left b j) js) e

  -- where it is kept
  pub left_in : keeps_record stop.write stop.bytes ≡ true →
      after_stopping (Some t) stop js ≡ with_stop_at t stop (written (Some t) js)
  left_in e = by (journal_at js t.shard t.index) refl
    where
      by : (o : Option JournalValue) → journal_at js t.shard t.index ≡ o →
          put_at (left (keeps_record stop.write stop.bytes)) o js
          ≡ with_stop_at t stop (put_at (λ j. after_take j t.handed Taken) o js)
      by None q = ap (λ o. put_at (with_stop stop) o js) (sym q)
      by (Some j) q =
          let next = after_take j t.handed Taken in
          ap (λ b. put_journal (left b j) js) e
          ∙ sym (put_over next (with_stop stop next) js refl refl)
          ∙ ap (λ o. put_at (with_stop stop) o (put_journal next js))
          (sym (put_found next js t.shard t.index j (found_so (is_its t.shard t.index) js j q) q))

-- a stop changes no book
pub own_stopped : (s : Setup) (st : State) (stop : Stop) (t : Taking) (js : List JournalValue) → AreOwn s st js →
    AreOwn s st (with_stop_at t stop js)
own_stopped s st stop t js own = by (journal_at js t.shard t.index) refl
  where
    still : (k : JournalValue) → IsOwn s st k → IsOwn s st (with_stop stop k)
    still k one = record { correct = one.correct; book = one.book }

    at : (k : JournalValue) → journal_at js t.shard t.index ≡ Some k → (shard index : ℕ) (j : JournalValue) →
        journal_at (put_journal (with_stop stop k) js) shard index ≡ Some j → (b : Bool) → is_its shard index k ≡ b → IsOwn s st j
    at k q shard index j found true e =
        let here = is_there shard index k e in
        let was = found_there js t.shard t.index k q in
        let k_at : journal_at js shard index ≡ Some k =
        ap (λ (n : ℕ). journal_at js n index) (sym here.shard_is ∙ was.shard_is)
        ∙ ap (λ (n : ℕ). journal_at js t.shard n) (sym here.index_is ∙ was.index_is) ∙ q in
        subst (IsOwn s st)
        (same_Some (with_stop stop k) j (sym (put_found (with_stop stop k) js shard index k e k_at) ∙ found))
        (still k (own t.shard t.index k q))
    at k q shard index j found false e = own shard index j (sym (put_other (with_stop stop k) js shard index e) ∙ found)

    by : (o : Option JournalValue) → journal_at js t.shard t.index ≡ o → AreOwn s st (put_at (with_stop stop) o js)
    by None q = own
    by (Some k) q = λ shard index j found. at k q shard index j found (is_its shard index k) refl

-- where the books are as before
pub own_same : (s : Setup) (st after : State) (js : List JournalValue) →
    ((shard index : ℕ) → book_in after shard index ≡ book_in st shard index) → AreOwn s st js → AreOwn s after js
own_same s st after js same own shard index j found =
    let one = own shard index j found in
    record { correct = one.correct; book = same j.shard j.index ∙ one.book }

-- ---- messages that are lost

abbrev pub at_state : State → List JournalValue → JournaledState
at_state st js = record { state = st; journals = js }

pub lose_more : (s : Setup) (ms ns : List ℕ) (x : JournaledState) → lose_all s (ms ++ ns) x ≡ (lose_all s ms x >>= lose_all s ns)
lose_more s [] ns x = refl
lose_more s (m ∷ ms) ns x = by (happens_in s (Lose m) x) (λ y. lose_more s ms ns y)
  where
    by : (r : Result JournaledState WorldFault) → ((y : JournaledState) → lose_all s (ms ++ ns) y ≡ (lose_all s ms y >>= lose_all s ns)) →
        (r >>= lose_all s (ms ++ ns)) ≡ ((r >>= lose_all s ms) >>= lose_all s ns)
    by (Ok y) later = later y
    by (Err w) later = refl

-- it isn't refused
abbrev lost_so : ℕ → State → Posted → State
lost_so m st p = marked (m - 1) (lost p.fate) p st

pub lose_done : (s : Setup) (m : ℕ) (st : State) (w : WorldFault) → happens s (Lose m) st ≡ Err w → ⊥
lose_done s m st w h = by (posted_at st m) h
  where
    by : (o : Option Posted) → ◌≡◌ {A = Result State WorldFault} (option_map_or (λ (p : Posted). Ok (lost_so m st p)) o (Ok st)) (Err w) → ⊥
    by None q = cc
    by (Some p) q = cc

module _ (law : BooksFollowDeliveries) (s : Setup) where
  same_map : {A : Type 0} (o : Option A) → option_map (λ (a : A). a) o ≡ o
  same_map None = refl
  same_map (Some a) = refl

  -- nothing is lost
  pub loses_none : (st : State) → Loses s [] st st
  loses_none st = record { comes = λ js. refl; books = λ shard index. refl }

  -- one message more
  pub loses_more : (ms : List ℕ) (m : ℕ) (st now after : State) → Loses s ms st now → happens s (Lose m) now ≡ Ok after →
      Loses s (ms ++ m ∷ []) st after
  loses_more ms m st now after before h = record {
    comes = λ js. lose_more s ms (m ∷ []) (at_state st js)
        ∙ ap (λ (r : Result JournaledState WorldFault). r >>= lose_all s (m ∷ [])) (before.comes js)
        ∙ ap (λ (r : Result JournaledState WorldFault). r >>= lose_all s []) (in_room s (at_state now js) (Lose m) refl (Ok after) h);
    books = λ shard index. law s now after (Lose m) h shard index ∙ same_map (book_in now shard index) ∙ before.books shard index;
  }

pub range_more : (a n : ℕ) → range_with_len a (suc n) ≡ range_with_len a n ++ (a + n) ∷ []
range_more a zero = let same : a ≡ a + 0 = omega arith in ap (λ x. x ∷ []) same
range_more a (suc n) =
    let same : a + 1 + n ≡ a + suc n = omega arith in
    ap (λ l. a ∷ l) (range_more (a + 1) n ∙ ap (λ x. range_with_len (a + 1) n ++ x ∷ []) same)

-- the next number
pub next_entered : (before at : ℕ) → before ≤ at →
    range_with_len (before + 1) (at + 1 - before) ≡ range_with_len (before + 1) (at - before) ++ (at + 1) ∷ []
next_entered before at h =
    let one : at + 1 - before ≡ suc (at - before) = omega arith in
    let here : before + 1 + (at - before) ≡ at + 1 = omega arith in
    ap (range_with_len (before + 1)) one ∙ range_more (before + 1) (at - before)
    ∙ ap (λ n. range_with_len (before + 1) (at - before) ++ n ∷ []) here

-- no message before the first
pub none_entered : (before : ℕ) → range_with_len (before + 1) (before - before) ≡ []
none_entered before = let none : before - before ≡ 0 = omega arith in ap (range_with_len (before + 1)) none

-- where a message isn't lost, memory is wanting
pub loses_not : {V S : Type 0} (v : verifiers.Ghosts V) (g : signers.Ghosts S) (s : Setup) (ms : List ℕ) (m : ℕ) (st now : State)
    (core : Engine V S v g) (f : StepFault) → Comes s now (happens s (Lose m) now) core (Err f) → LosesAll s ms st core (Err f)
loses_not v g s ms m st now core (fault.World (Broken b)) c = lose_done s m now (Broken b) c
loses_not v g s ms m st now core (fault.World (PoolFull n k)) c = lose_done s m now (PoolFull n k) c.0
loses_not v g s ms m st now core (fault.World (Call f)) c = lose_done s m now (Call f) c.0
loses_not v g s ms m st now core (fault.World (Exhausted p)) c = lose_done s m now (Exhausted p) c.0
loses_not v g s ms m st now core fault.NoMemory c = tt

-- ---- a stop

-- what a stop comes to of an event, where what is taken is this
abbrev pub stops_at : Setup → Stop → EventValue → JournaledState → Option Taking → Result JournaledState WorldFault
stops_at s stop e x taking = option_map_or (λ t. stopped s stop e t x) taking (happens_in s e x)

-- by whether the record is kept
abbrev kept_by : Setup → Stop → EventValue → JournaledState → Taking → Bool → Result JournaledState WorldFault
kept_by s stop e x t kept =
    cond kept (happens_in s e x >>= (λ y. lose_all s (entered_since (length x.state.pool) y.state) (noted t stop y)))
    (Ok (noted t stop x))

module _ {V S : Type 0} (v : verifiers.Ghosts V) (g : signers.Ghosts S) (s : Setup) (kit : KitValue) (x : JournaledState)
    (e : EventValue) (stop : Stop) (room : full x.journals (takes s x.state e) ≡ None) where
  quiet_of : takes s x.state e ≡ None → WritesNothing s x e
  quiet_of none = ap (journal_of x.journals) none

  -- the journals where nothing was taken
  holds_still : (js : Journals V S v g) → Holds s js (after_stopping (takes s x.state e) stop x.journals) → takes s x.state e ≡ None →
      Holds s js x.journals
  holds_still js holds none = subst (λ t. Holds s js (after_stopping t stop x.journals)) none holds

  -- a disk stopped and the record isn't kept: the event is left out
  pub before_stopped : keeps_record stop.write stop.bytes ≡ false → (core : Engine V S v g) (old new : Journals V S v g) →
      Shows s core x.state → KeepsAll s kit old x → HasStopped s (takes s x.state e) stop x.journals new true →
      ComesTo s kit x (stops_at s stop e x (takes s x.state e)) core new (Ok tt)
  before_stopped lost_it core old new shows keeps has = by (takes s x.state e) room has
    where
      by : (taking : Option Taking) → full x.journals taking ≡ None → HasStopped s taking stop x.journals new true →
          ComesTo s kit x (stops_at s stop e x taking) core new (Ok tt)
      by None free stopped_so = let no : true ≡ false = stopped_so.took_is in absurd cc
      by (Some t) free stopped_so = (
        noted t stop x,
        ap (λ o. unless_refused o (kept_by s stop e x t (keeps_record stop.write stop.bytes))) free
            ∙ ap (kept_by s stop e x t) lost_it,
        shows,
        record {
          kit_is = keeps.kit_is;
          holds = subst (Holds s new) (left_out t stop x.journals lost_it) stopped_so.holds;
          own = own_stopped s x.state stop t x.journals keeps.own;
        },
      )

  -- nothing was taken, and no disk stopped
  pub before_refused : BooksFollowDeliveries → (core : Engine V S v g) (old new : Journals V S v g) → KeepsAll s kit old x →
      HasStopped s (takes s x.state e) stop x.journals new false → (r : Result (Unit {0}) StepFault) →
      Comes s x.state (happens s e x.state) core r → ComesTo s kit x (stops_at s stop e x (takes s x.state e)) core new r
  before_refused law core old new keeps has r c =
      let none = none_of (takes s x.state e) (sym has.took_is) in
      subst (λ a. ComesTo s kit x a core new r) (sym (ap (stops_at s stop e x) none))
      (comes_quiet v g s kit x e core law new (quiet_of none)
      (record { kit_is = keeps.kit_is; holds = holds_still new has.holds none; own = keeps.own }) r c)

  module _ (keeps_it : keeps_record stop.write stop.bytes ≡ true) where
    -- what it comes to where the record is kept
    stops_kept : (t : Taking) → full x.journals (Some t) ≡ None → stops_at s stop e x (Some t) ≡ kept_by s stop e x t true
    stops_kept t free =
        ap (λ o. unless_refused o (kept_by s stop e x t (keeps_record stop.write stop.bytes))) free
        ∙ ap (kept_by s stop e x t) keeps_it

    -- the event doesn't happen
    refused_by : (taking : Option Taking) → full x.journals taking ≡ None → (w : WorldFault) → happens_in s e x ≡ Err w →
        stops_at s stop e x taking ≡ Err w
    refused_by None free w h = h
    refused_by (Some t) free w h =
        stops_kept t free
        ∙ ap (λ (r : Result JournaledState WorldFault).
        r >>= (λ y. lose_all s (entered_since (length x.state.pool) y.state) (noted t stop y))) h

    pub behind_refused : (core : Engine V S v g) (js : Journals V S v g) → KeepsAll s kit js x → (f : StepFault) →
        Comes s x.state (happens s e x.state) core (Err f) →
        ComesTo s kit x (stops_at s stop e x (takes s x.state e)) core js (Err f)
    behind_refused core js keeps (fault.World (Broken b)) c =
        refused_by (takes s x.state e) room (Broken b) (in_room s x e room (Err (Broken b)) c)
    behind_refused core js keeps (fault.World (PoolFull m n)) c =
        (refused_by (takes s x.state e) room (PoolFull m n) (in_room s x e room (Err (PoolFull m n)) c.0), c.1, keeps)
    behind_refused core js keeps (fault.World (Call f)) c =
        (refused_by (takes s x.state e) room (Call f) (in_room s x e room (Err (Call f)) c.0), c.1, keeps)
    behind_refused core js keeps (fault.World (Exhausted p)) c =
        (refused_by (takes s x.state e) room (Exhausted p) (in_room s x e room (Err (Exhausted p)) c.0), c.1, keeps)
    behind_refused core js keeps fault.NoMemory c = tt

    -- it happened, and nothing was taken
    pub behind_quiet : BooksFollowDeliveries → (core : Engine V S v g) (old new : Journals V S v g) → KeepsAll s kit old x →
        HasStopped s (takes s x.state e) stop x.journals new false → Comes s x.state (happens s e x.state) core (Ok tt) →
        ComesTo s kit x (stops_at s stop e x (takes s x.state e)) core new (Ok tt)
    behind_quiet law core old new keeps has c = before_refused law core old new keeps has (Ok tt) c

    -- it happened, the disk stopped, and what entered is lost
    pub behind_stopped : BooksFollowDeliveries → (core core_now : Engine V S v g) (old new : Journals V S v g) → KeepsAll s kit old x →
        HasStopped s (takes s x.state e) stop x.journals new true → (before : ℕ) → before ≡ length x.state.pool →
        (c : Comes s x.state (happens s e x.state) core (Ok tt)) → (r : Result (Unit {0}) StepFault) →
        LosesAll s (entered_since before c.0) c.0 core_now r →
        ComesTo s kit x (stops_at s stop e x (takes s x.state e)) core_now new r
    behind_stopped law core core_now old new keeps has before count c (Err (fault.World w)) loses = absurd loses
    behind_stopped law core core_now old new keeps has before count c (Err fault.NoMemory) loses = tt
    behind_stopped law core core_now old new keeps has before count c (Ok tt) loses =
        by (takes s x.state e) room has (in_room s x e room (Ok c.0) c.1) (own_on law s x.state c.0 e x.journals c.1 keeps.own)
      where
        by : (taking : Option Taking) → full x.journals taking ≡ None → HasStopped s taking stop x.journals new true →
            happens_in s e x ≡ Ok (at_state c.0 (written taking x.journals)) → AreOwn s c.0 (written taking x.journals) →
            ComesTo s kit x (stops_at s stop e x taking) core_now new (Ok tt)
        by None free stopped_so h own = let no : true ≡ false = stopped_so.took_is in absurd cc
        by (Some t) free stopped_so h own =
            let after : State = loses.0 in
            let all = with_stop_at t stop (written (Some t) x.journals) in (
              at_state after all,
              stops_kept t free
                  ∙ ap (λ (r : Result JournaledState WorldFault).
                  r >>= (λ y. lose_all s (entered_since (length x.state.pool) y.state) (noted t stop y))) h
                  ∙ ap (λ n. lose_all s (entered_since n c.0) (at_state c.0 all)) (sym count)
                  ∙ loses.1.comes all,
              loses.2,
              record {
                kit_is = keeps.kit_is;
                holds = subst (Holds s new) (left_in t stop x.journals keeps_it) stopped_so.holds;
                own = own_same s c.0 after all loses.1.books (own_stopped s c.0 stop t (written (Some t) x.journals) own);
              },
            )

module _ {V S : Type 0} (v : verifiers.Ghosts V) (g : signers.Ghosts S) (s : Setup) (kit : KitValue) (x : JournaledState)
    (e : EventValue) (stop : Stop) (core : Engine V S v g) where
  -- the journal is full
  full_of : (js : Journals V S v g) (taking : Option Taking) (f : StepFault) →
      FindsRoom s kit x (full x.journals taking) js (Err f) → Shows s core x.state →
      ComesTo s kit x (stops_at s stop e x taking) core js (Err f)
  full_of js taking (fault.World (Broken b)) c shows = absurd c
  full_of js None (fault.World (PoolFull m n)) c shows = let no = c.0 in absurd cc
  full_of js (Some t) (fault.World (PoolFull m n)) c shows =
      (ap (λ o. unless_refused o (kept_by s stop e x t (keeps_record stop.write stop.bytes))) c.0, shows, c.1)
  full_of js taking (fault.World (Call f)) c shows = absurd c
  full_of js taking (fault.World (Exhausted p)) c shows = absurd c
  full_of js taking fault.NoMemory c shows = tt

  pub stop_full : (js : Journals V S v g) (f : StepFault) → FindsRoom s kit x (full x.journals (takes s x.state e)) js (Err f) →
      Shows s core x.state → ComesTo s kit x (stops_at s stop e x (takes s x.state e)) core js (Err f)
  stop_full js f c shows = full_of js (takes s x.state e) f c shows

  -- nothing is taken
  pub stop_quiet : BooksFollowDeliveries → (js : Journals V S v g) → KeepsAll s kit js x → takes s x.state e ≡ None →
      (r : Result (Unit {0}) StepFault) → Comes s x.state (happens s e x.state) core r →
      ComesTo s kit x (stops_at s stop e x (takes s x.state e)) core js r
  stop_quiet law js keeps none r c =
      subst (λ a. ComesTo s kit x a core js r) (sym (ap (stops_at s stop e x) none))
      (comes_quiet v g s kit x e core law js (ap (journal_of x.journals) none) keeps r c)

-- by another name of the event
pub by_event : {V S : Type 0} (v : verifiers.Ghosts V) (g : signers.Ghosts S) (s : Setup) (kit : KitValue) (x : JournaledState)
    (stop : Stop) (core : Engine V S v g) (js : Journals V S v g) (r : Result (Unit {0}) StepFault) (e f : EventValue) → e ≡ f →
    ComesTo s kit x (stops_at s stop e x (takes s x.state e)) core js r →
    ComesTo s kit x (stops_at s stop f x (takes s x.state f)) core js r
by_event v g s kit x stop core js r e f same c = subst (λ u. ComesTo s kit x (stops_at s stop u x (takes s x.state u)) core js r) same c
