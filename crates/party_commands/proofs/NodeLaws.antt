-- What holds of a node's station, and of what it writes.
use Rattle.std.proofs.Common.{◌≡◌, ◌≤◌, ℕ, List, length, Bool, true, false, Option, Some, None, Result, Ok, Err}
use Rattle.std.proofs.Common.{refl, sym, ap, subst, ◌∙◌, inl, arith}
use Rattle.std.specs.Prelude.{IfSome, IfOk, IfErr, if◌then◌else◌, nat_lt}
use Rattle.std.specs.Result.{IsErrAnd}
use Rattle.std.proofs.lemmas.Grind.{common_steps}
use Rattle.basil_types.specs.Causes.{TookAll}
use Rattle.basil_types.specs.Links.{LinkState}
use Rattle.basil_types.specs.Setting.{Setting}
use Rattle.cluster_file.specs.Listing.{Listing}
use Rattle.cluster_file.specs.Text.{cluster_in}
use Rattle.node_link.specs.Connections.{Between, Within, Node, ServesParts, StopsAt, failed_outside}
use Rattle.node_link.specs.declared.fault.ServeFault.{ServeFault}
use Rattle.node_link.specs.declared.fault.ServeFault.TheVariants as stops
use Rattle.party_seat.specs.Serving.{Begins, HasFinished, HasStopped, IsOutside, Refuses, serves_at, stop_of}
use Rattle.party_seat.specs.Stations.{Station, station_in}
use Rattle.party_seat.specs.declared.fault.NodeFault.{NodeFault}
use Rattle.party_seat.specs.declared.fault.NodeFault.TheVariants.{WrongKey, WrongLeaf, LinkFault, NoMemory}
use Rattle.party_seat.specs.declared.fault.SeatFault.{SeatFault}
use Rattle.party_seat.specs.declared.station.NodeSeat.{NodeSeat}
use Rattle.replica_core.specs.Replicas.{ReplicaSelf}
use Rattle.command_ends.specs.Answers.{Answers, Counts, IsTold}
use Rattle.party_commands.specs.Nodes.{EndsAt, EndsServed, HasWritten, IsNodeTold, IsServed, TellsServed, WroteAt, WroteServed}
use Rattle.party_commands.specs.Nodes.{seated_at, seated_in, served_text, station_of, stop_in, stop_told}
use Rattle.command_ends.specs.Outcome.{Outcome, Written, is_too_long, longest_input, text_of, TooLong}
use Rattle.command_ends.specs.Endings.{outcome_is}
use Rattle.command_input.specs.Inputs.{IsWhole}
use Rattle.command_ends.specs.declared.ending.Ending.{Ending}
use Rattle.command_input.specs.declared.input.InputFail.{InputFail}
use Rattle.command_input.specs.declared.input.InputFail.TheVariants as input
use Rattle.command_input.specs.declared.input.Whole.TheVariants as whole
use Rattle.command_ends.specs.declared.status.Status.{Status}
use Rattle.command_ends.specs.declared.status.Status.TheVariants as ends

-- ---- bytes, where they are told

pub some_any : (left : Option (List ℕ)) (P : List ℕ → Type 0) → ((bytes : List ℕ) → P bytes) → IfSome left P
some_any None P h = tt
some_any (Some bytes) P h = h bytes

pub some_map : (left : Option (List ℕ)) (P Q : List ℕ → Type 0) → ((bytes : List ℕ) → P bytes → Q bytes) → IfSome left P →
    IfSome left Q
some_map None P Q turn h = tt
some_map (Some bytes) P Q turn h = turn bytes h

pub some_both : (left : Option (List ℕ)) (P Q R : List ℕ → Type 0) → ((bytes : List ℕ) → P bytes → Q bytes → R bytes) →
    IfSome left P → IfSome left Q → IfSome left R
some_both None P Q R turn h k = tt
some_both (Some bytes) P Q R turn h k = turn bytes h k

pub err_any : (r : Result Station Outcome) (P : Outcome → Type 0) → ((refusal : Outcome) → P refusal) → IfErr r P
err_any (Ok s) P h = tt
err_any (Err refusal) P h = h refusal

pub ok_map : (r : Result Station Outcome) (P Q : Type 0) → (P → Q) → IfOk r (λ _. P) → IfOk r (λ _. Q)
ok_map (Ok s) P Q turn h = turn h
ok_map (Err refusal) P Q turn h = tt

pub refused_any : (left : Option (List ℕ)) (seat : NodeSeat) (P : Outcome → Type 0) → ((refusal : Outcome) → P refusal) →
    IfSome left (λ bytes. IfErr (station_of seat bytes) P)
refused_any left seat P h = some_any left (λ bytes. IfErr (station_of seat bytes) P) (λ bytes. err_any (station_of seat bytes) P h)

-- ---- a node that didn't begin, or that stopped

pub not_begun : (s : Station) (connections : ℕ) (ticks : Option (List ℕ)) (told : Option LinkState) (n : Node) (count : ℕ)
    (stop : Option ServeFault) → failed_outside stop ≡ 0 → Begins s ticks told n →
    HasStopped s connections n ticks told count count stop
unfolding ServesParts
not_begun s connections ticks told n count stop none b =
    record {
      start = n;
      listened = inl refl;
      new = n;
      failed = 0;
      served = record { done = 0; within = omega arith; last = n; served = (refl, refl); stop = Between refl };
      is = record { moments = b.outside.moments; links = b.outside.links; frames = refl };
      risen = omega (arith, none);
    }

-- what failed was no link
pub no_link : (result : Result Ending InputFail) (fail : InputFail) → IsErrAnd result (λ x. x ≡ fail) → (fail ≡ input.Link → ⊥) →
    failed_outside (stop_in result) ≡ 0
no_link (Ok e) fail is unlinked = refl
no_link (Err input.Failed) fail is unlinked = refl
no_link (Err input.Link) fail is unlinked = absurd (unlinked (sym is))
no_link (Err input.NoMemory) fail is unlinked = refl

-- a fault that tells of fewer failed calls
pub record Weaker (first second : Option ServeFault) : Type 0 where
  pub fewer : failed_outside second ≤ failed_outside first
  pub wanting : first ≡ Some stops.NoMemory → second ≡ Some stops.NoMemory

pub weaker_none : (second : Option ServeFault) → failed_outside second ≡ 0 → Weaker None second
weaker_none second none = record { fewer = omega (arith, none); wanting = λ e. absurd cc }

pub weaker_same : (stop : Option ServeFault) → Weaker stop stop
weaker_same stop = record { fewer = omega arith; wanting = λ e. e }

pub weaker_link : Weaker (Some stops.LinkFault) None
weaker_link = record { fewer = omega arith; wanting = λ e. absurd cc }

module _ (s : Station) (connections : ℕ) (n : Node) (ticks : Option (List ℕ)) (told : Option LinkState) (before now : ℕ) where
  stops_so : (first second : Option ServeFault) → Weaker first second → (cluster : Setting) (me : ReplicaSelf) (old new : Node)
      (more : ℕ) → StopsAt cluster me old new more first → StopsAt cluster me old new more second
  stops_so first second w cluster me old new more (Between is) = Between is
  stops_so first second w cluster me old new more (Within some wanting part) = Within some (w.wanting wanting) part

  pub stopped_so : (first second : Option ServeFault) → Weaker first second →
      HasStopped s connections n ticks told before now first → HasStopped s connections n ticks told before now second
  stopped_so first second w h =
      record {
        start = h.start;
        listened = h.listened;
        new = h.new;
        failed = h.failed;
        served = record {
          done = h.served.done;
          within = h.served.within;
          last = h.served.last;
          served = h.served.served;
          stop = stops_so first second w _ _ h.served.last h.new _ h.served.stop;
        };
        is = h.is;
        risen = omega (arith, h.risen, w.fewer);
      }

  pub stopped_as : (result is : Result Ending InputFail) → result ≡ is → (second : Option ServeFault) → Weaker (stop_in is) second →
      HasStopped s connections n ticks told before now (stop_in result) → HasStopped s connections n ticks told before now second
  stopped_as result is same second w h =
      stopped_so (stop_in is) second w (subst (λ r. HasStopped s connections n ticks told before now (stop_in r)) same h)

  unstopped : (result : Result Ending InputFail) → (result ≡ Err input.Link → ⊥) →
      HasStopped s connections n ticks told before now None → HasStopped s connections n ticks told before now (stop_in result)
  unstopped (Ok e) unlinked h = h
  unstopped (Err input.Failed) unlinked h = h
  unstopped (Err input.Link) unlinked h = absurd (unlinked refl)
  unstopped (Err input.NoMemory) unlinked h = stopped_so None (Some stops.NoMemory) (weaker_none _ refl) h

  -- as the result tells it
  pub stopped_in : (served : Result ℕ NodeFault) (result : Result Ending InputFail) → TellsServed served result →
      (result ≡ Err input.Link → served ≡ Err LinkFault) → HasStopped s connections n ticks told before now (stop_of served) →
      HasStopped s connections n ticks told before now (stop_in result)
  stopped_in (Ok count) result t link h = unstopped result (λ e. let other = link e in cc) h
  stopped_in (Err WrongKey) result t link h = unstopped result (λ e. let other = link e in cc) h
  stopped_in (Err WrongLeaf) result t link h = unstopped result (λ e. let other = link e in cc) h
  stopped_in (Err LinkFault) result t link h = subst (λ r. HasStopped s connections n ticks told before now (stop_in r)) (sym t) h
  stopped_in (Err NoMemory) result t link h = subst (λ r. HasStopped s connections n ticks told before now (stop_in r)) (sym t) h

  -- as the status of an ending does that was written
  pub stopped_told : (status : Status) → (status ≡ ends.LinkFault → ⊥) → HasStopped s connections n ticks told before now None →
      HasStopped s connections n ticks told before now (stop_told status)
  stopped_told ends.LinkFault unlinked h = absurd (unlinked refl)
  stopped_told ends.NoMemory unlinked h = stopped_so None (Some stops.NoMemory) (weaker_none _ refl) h
  stopped_told ends.Done unlinked h = h
  stopped_told ends.BadWords unlinked h = h
  stopped_told (ends.BadInput line reason) unlinked h = h
  stopped_told ends.ReadFault unlinked h = h
  stopped_told ends.WriteFault unlinked h = h
  stopped_told ends.Broken unlinked h = h
  stopped_told (ends.Refused reason) unlinked h = h
  stopped_told (ends.Full messages bytes) unlinked h = h
  stopped_told (ends.Undecided replies) unlinked h = h
  stopped_told ends.TooLong unlinked h = h

-- ---- its seat and its file

pub seated_ok : (answer : Result Station SeatFault) (s : Station) → seated_at answer ≡ Ok s → answer ≡ Ok s
seated_ok (Ok t) s e = cc
seated_ok (Err fault) s e = absurd cc

module _ (seat : NodeSeat) where
  pub idle_in : (read : Result Listing ℕ) (l : Listing) → read ≡ Ok l → (P : Type 0) →
      IfErr (seated_at (station_in l seat)) (λ _. P) → IfErr (seated_in read seat) (λ _. P)
  idle_in read l found P h = subst (λ (r : Result Listing ℕ). IfErr (seated_in r seat) (λ _. P)) (sym found) h

  pub in_file : (read : Result Listing ℕ) (l : Listing) → read ≡ Ok l → (s : Station) → seated_in read seat ≡ Ok s →
      seated_at (station_in l seat) ≡ Ok s
  in_file read l found s e = subst (λ (r : Result Listing ℕ). seated_in r seat ≡ Ok s) found e

  not_longer : (m n : ℕ) → n ≤ m → nat_lt m n ≡ false
  not_longer m n h = grind (arith, common_steps)

  -- a file that was read whole
  whole_is : (all bytes : List ℕ) → IsWhole (whole.Bytes all) bytes → station_of seat bytes ≡ seated_in (cluster_in all) seat
  whole_is all bytes h =
      let short : is_too_long bytes ≡ false = not_longer longest_input (length bytes) h.1 in
      let same : all ≡ bytes = h.0 in
      subst (λ (x : List ℕ). station_of seat bytes ≡ seated_in (cluster_in x) seat) (sym same) (by (is_too_long bytes) short)
    where
      by : (b : Bool) → b ≡ false → (if b then Err TooLong else seated_in (cluster_in bytes) seat) ≡ seated_in (cluster_in bytes) seat
      by false e = refl
      by true e = absurd cc

  pub idle_whole : (all : List ℕ) (left : Option (List ℕ)) (P : Type 0) → IfSome left (λ bytes. IsWhole (whole.Bytes all) bytes) →
      IfErr (seated_in (cluster_in all) seat) (λ _. P) → IfSome left (λ bytes. IfErr (station_of seat bytes) (λ _. P))
  idle_whole all left P read h =
      some_map left (λ bytes. IsWhole (whole.Bytes all) bytes) (λ bytes. IfErr (station_of seat bytes) (λ _. P))
      (λ bytes w. subst (λ (r : Result Station Outcome). IfErr r (λ _. P)) (sym (whole_is all bytes w)) h) read

  pub ok_whole : (all : List ℕ) (left : Option (List ℕ)) (P : Type 0) → IfSome left (λ bytes. IsWhole (whole.Bytes all) bytes) →
      IfOk (seated_in (cluster_in all) seat) (λ _. P) → IfSome left (λ bytes. IfOk (station_of seat bytes) (λ _. P))
  ok_whole all left P read h =
      some_map left (λ bytes. IsWhole (whole.Bytes all) bytes) (λ bytes. IfOk (station_of seat bytes) (λ _. P))
      (λ bytes w. subst (λ (r : Result Station Outcome). IfOk r (λ _. P)) (sym (whole_is all bytes w)) h) read

  pub served_whole : (all : List ℕ) (left : Option (List ℕ)) (s : Station) (B P : Type 0) →
      IfSome left (λ bytes. IsWhole (whole.Bytes all) bytes) → (seated_in (cluster_in all) seat ≡ Ok s → B → P) →
      IfSome left (λ bytes. station_of seat bytes ≡ Ok s → B → P)
  served_whole all left s B P read h =
      some_map left (λ bytes. IsWhole (whole.Bytes all) bytes) (λ bytes. station_of seat bytes ≡ Ok s → B → P)
      (λ bytes w e b. h (sym (whole_is all bytes w) ∙ e) b) read

-- ---- what it comes to

module _ (s : Station) (connections : ℕ) (n : Node) (ticks : Option (List ℕ)) (told : Option LinkState)
    (answer : Result Station SeatFault) (seated : answer ≡ Ok s) where
  pub ends_served : (served : Result ℕ NodeFault) (result : Result Ending InputFail) → TellsServed served result →
      IfErr served (λ fault. Refuses fault answer) → (before now : ℕ) →
      IfOk served (λ count. HasFinished s connections n ticks told count before now) →
      IfOk result (λ e. EndsServed s connections n ticks told before now (outcome_is e))
  ends_served (Ok count) (Ok e) t r before now h = record { frames = count; served = h; written = t }
  ends_served (Ok count) (Err f) t r before now h = tt
  ends_served (Err WrongKey) result t r before now h = absurd cc
  ends_served (Err WrongLeaf) result t r before now h = absurd cc
  ends_served (Err LinkFault) (Ok e) t r before now h = absurd cc
  ends_served (Err LinkFault) (Err f) t r before now h = tt
  ends_served (Err NoMemory) (Ok e) t r before now h = absurd cc
  ends_served (Err NoMemory) (Err f) t r before now h = tt

  pub ends_at : (served : Result ℕ NodeFault) (result : Result Ending InputFail) → TellsServed served result →
      IfErr served (λ fault. Refuses fault answer) →
      IfOk served (λ count. IsOutside ticks told count (serves_at s connections n)) →
      IfOk result (λ e. EndsAt (serves_at s connections n) ticks told (outcome_is e))
  ends_at (Ok count) (Ok e) t r h =
      record {
        is = record { moments = h.moments; links = h.links; frames = refl };
        written = t ∙ ap (λ (f : ℕ). Written (served_text f)) h.frames;
      }
  ends_at (Ok count) (Err f) t r h = tt
  ends_at (Err WrongKey) result t r h = absurd cc
  ends_at (Err WrongLeaf) result t r h = absurd cc
  ends_at (Err LinkFault) (Ok e) t r h = absurd cc
  ends_at (Err LinkFault) (Err f) t r h = tt
  ends_at (Err NoMemory) (Ok e) t r h = absurd cc
  ends_at (Err NoMemory) (Err f) t r h = tt

-- ---- what it writes

module _ (status : Status) (outcome : Outcome) (counts : Counts) (before after : Option (List ℕ)) where
  -- an outcome that was written to the end
  pub done_text : status ≡ ends.Done → Answers status outcome counts before after → TookAll before after (text_of outcome)
  done_text e answers = (subst (λ (x : Status). Answers x outcome counts before after) e answers).text

  pub wrote : status ≡ ends.Done → Answers status outcome counts before after → IsServed outcome → HasWritten before after
  wrote e answers served =
      record {
        frames = served.frames;
        written = subst (λ (o : Outcome). TookAll before after (text_of o)) served.written (done_text e answers);
      }

  pub wrote_served : status ≡ ends.Done → Answers status outcome counts before after → (s : Station) (connections : ℕ) (n : Node)
      (ticks : Option (List ℕ)) (told : Option LinkState) (first last : ℕ) → EndsServed s connections n ticks told first last outcome →
      WroteServed s connections n ticks told first last before after
  wrote_served e answers s connections n ticks told first last served =
      record {
        frames = served.frames;
        served = served.served;
        written = subst (λ (o : Outcome). TookAll before after (text_of o)) served.written (done_text e answers);
      }

  pub wrote_at : status ≡ ends.Done → Answers status outcome counts before after → (new : Node)
      (ticks : Option (List ℕ)) (told : Option LinkState) → EndsAt new ticks told outcome → WroteAt new ticks told before after
  wrote_at e answers new ticks told at =
      record {
        is = at.is;
        written = subst (λ (o : Outcome). TookAll before after (text_of o)) at.written (done_text e answers);
      }

  pub node_told : (r : Result Station Outcome) → IfErr r (λ refusal. outcome ≡ refusal) → IfOk r (λ _. IsServed outcome) →
      IsTold status outcome → IsNodeTold status r
  node_told (Ok s) refused served told = subst (λ (o : Outcome). IsTold status o) served.written told
  node_told (Err refusal) refused served told = subst (λ (o : Outcome). IsTold status o) refused told
