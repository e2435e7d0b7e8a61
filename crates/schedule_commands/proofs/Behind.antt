-- What is read of a schedule, and what it leads to.
use Rattle.std.proofs.Common.{◌≡◌, ℕ, ◌+◌, ◌<◌, ◌≤◌, List, [], ◌∷◌, ◌++◌, length, Bool, true, false, Result, Ok, Err, Option, Some, None}
use Rattle.std.proofs.Common.{refl, sym, ap, subst, ◌∙◌, arith, append_assoc, append-nil}
use Rattle.std.specs.Prelude.{IfOk, IfSome, take, ⊤}
use Rattle.std.specs.Io.KnownBytes.{Consumes, IsAtEnd}
use Rattle.std.specs.Result.{IsErrAnd}
use Rattle.std.proofs.lemmas.Grind.{common_steps}
use Rattle.std.proofs.lemmas.List.{length-append, length_push}
use Rattle.basil_types.specs.Links.{LinkState}
use Rattle.basil_types.specs.Steps.{◌>>=◌}
use Rattle.schedule_replay.proofs.RoadLaws.{two_gifts}
use Rattle.schedule_replay.specs.Outcomes.{outcome_on, replay_on}
use Rattle.schedule_replay.specs.Replays.{ReplayValue}
use Rattle.schedule_replay.specs.Reports.{report}
use Rattle.schedule_replay.specs.Roads.{Carries, Direct, Road, Uses, road_with}
use Rattle.schedule_replay.specs.Schedules.{Ends, Faults, IsAt, IsGoing, Took}
use Rattle.schedule_replay.specs.declared.stages.Schedule.{Schedule}
use Rattle.schedule_replay.specs.Shown.{Stands, is_link_fault, is_of_link}
use Rattle.schedule_replay.specs.Stages.{Stage, Begins, Opens, Runs, ended, on_road, road_of, run_lines, stage_step}
use Rattle.report_lines.specs.declared.fault.ReplayFault.{ReplayFault}
use Rattle.report_lines.specs.declared.fault.ReplayFault.TheVariants.{BadInput, Broken, Full, LinkFault, WriteFault, NoMemory}
use Rattle.schedule_replay.specs.declared.replay.Replay.{Replay}
use Rattle.schedule_replay.specs.Totals.{totals}
use Rattle.line_fields.specs.Limits.{longest_line}
use Rattle.schedule_commands.specs.Behind.{CanDecide, CanEnd, Closes, HasRead, IsBehind, IsDecided, Reads, ReadsOn}
use Rattle.schedule_commands.specs.Roads as links
use Rattle.command_input.specs.Reading.{OfBytes, IsReadThrough, StopsSoon}
use Rattle.command_ends.specs.Outcome.{Outcome, Written}
use Rattle.schedule_commands.specs.Schedules.{loaded, replayed}
use Rattle.command_ends.specs.Endings.{outcome_is}
use Rattle.schedule_commands.specs.TextLines.{ended_lines, has_newline, is_settled, open_line}
use Rattle.command_ends.specs.declared.ending.Ending.{Ending}
use Rattle.command_input.specs.declared.input.InputFail.{InputFail}
use Rattle.schedule_commands.specs.declared.replay.Reading.{Reading}
use Rattle.schedule_commands.proofs.LineEnds.{ended_line, fresh_line, joined, longer_line, same_ended}
use Rattle.schedule_commands.proofs.Settling.{faulty_outcome, long_outcome, no_long, one_line, run_append}
use Rattle.schedule_commands.proofs.Settling.{settled_fault, settled_long, settled_more, unsettled, whole_line}
use Rattle.command_input.proofs.SourceLaws.{AtBytes}
use Rattle.command_input.proofs.Stopping.{NotYet, all_through, enough_through}
use Rattle.schedule_commands.proofs.Settling.{not_settled}

-- ---- a line that ends

module _ (road : Road) where
  -- the line that ends with these bytes leads to this
  pub ran_on : (read last line : List ℕ) (number : ℕ) (stage : Stage) (r : Result Stage ReplayFault) →
      run_lines (ended_lines read) 1 (Begins road) ≡ Ok stage → number ≡ length (ended_lines read) + 1 → line ≡ open_line read ++ last →
      has_newline last ≡ false → stage_step stage line number ≡ r →
      run_lines (ended_lines (read ++ (last ++ 10 ∷ []))) 1 (Begins road) ≡ r
  ran_on read last line number stage r ran n l whole step =
      let same : 1 + length (ended_lines read) ≡ number = omega (arith, n) in
      ap (λ (lines : List (List ℕ)). run_lines lines 1 (Begins road)) (ended_line read last whole)
      ∙ run_append (ended_lines read) ((open_line read ++ last) ∷ []) 1 (Begins road)
      ∙ ap (λ (s : Result Stage ReplayFault). s >>= run_lines ((open_line read ++ last) ∷ []) (1 + length (ended_lines read))) ran
      ∙ ap (λ (x : List ℕ). stage_step stage x (1 + length (ended_lines read)) >>= run_lines [] (1 + length (ended_lines read) + 1)) (sym l)
      ∙ ap (λ (k : ℕ). stage_step stage line k >>= run_lines [] (k + 1)) same
      ∙ ap (λ (s : Result Stage ReplayFault). s >>= run_lines [] (number + 1)) step
      ∙ stays r
    where
      stays : (r : Result Stage ReplayFault) → (r >>= run_lines [] (number + 1)) ≡ r
      stays (Ok stage) = refl
      stays (Err e) = refl

  -- the schedule is behind that line
  pub line_ended : (old new : Reading) (here left : Road) (read last line : List ℕ) (b : IsBehind old road here read) (stage : Stage) →
      line ≡ old.line.items ++ last → has_newline last ≡ false → stage_step b.stage line old.number ≡ Ok stage →
      road_of stage ≡ left → IsAt new.schedule stage → IsGoing new.schedule → new.number ≡ old.number + 1 →
      new.line.items ≡ [] → IsBehind new road left (read ++ (last ++ 10 ∷ []))
  line_ended old new here left read last line b stage l whole step goes shown going number empty = record {
    stage = stage;
    ran =
        ran_on read last line old.number b.stage (Ok stage) b.ran b.number (l ∙ ap (λ (x : List ℕ). x ++ last) b.line) whole step;
    goes = goes;
    shown = shown;
    going = going;
    number =
        let more : length (ended_lines (read ++ (last ++ 10 ∷ []))) ≡ length (ended_lines read) + 1 =
        ap length (ended_line read last whole) ∙ length_push (ended_lines read) (open_line read ++ last) in
        omega (arith, number, b.number, more);
    line = empty ∙ sym (fresh_line read last whole);
    short = let none : length (open_line (read ++ (last ++ 10 ∷ []))) ≡ 0 = ap length (fresh_line read last whole) in omega (arith, none);
  }

  -- the line goes on
  pub line_held : (old new : Reading) (left : Road) (read piece : List ℕ) → IsBehind old road left read → has_newline piece ≡ false →
      new.schedule ≡ old.schedule → new.number ≡ old.number → new.line.items ≡ old.line.items ++ piece →
      length old.line.items + length piece ≤ longest_line → IsBehind new road left (read ++ piece)
  line_held old new left read piece b whole same number items fits = record {
    stage = b.stage;
    ran = ap (λ (lines : List (List ℕ)). run_lines lines 1 (Begins road)) (same_ended read piece whole) ∙ b.ran;
    goes = b.goes;
    shown = subst (λ (s : Schedule). IsAt s b.stage) (sym same) b.shown;
    going = subst IsGoing (sym same) b.going;
    number = number ∙ b.number ∙ sym (ap (λ (lines : List (List ℕ)). length lines + 1) (same_ended read piece whole));
    line = items ∙ ap (λ (x : List ℕ). x ++ piece) b.line ∙ sym (longer_line read piece whole);
    short =
        let sizes : length (open_line (read ++ piece)) ≡ length old.line.items + length piece =
        ap length (longer_line read piece whole) ∙ length-append (open_line read) piece
        ∙ ap (λ (n : ℕ). n + length piece) (sym (ap length b.line)) in
        omega (arith, sizes, fits);
  }

  decides : (read : List ℕ) (f : ReplayFault) → run_lines (ended_lines read) 1 (Begins road) ≡ Err f → IsDecided road read f
  decides read f e = record { settled = settled_fault road read f e; leads = λ more. faulty_outcome road read more f e }

  -- a fault of the last line that ended
  pub faults : (left : Road) (read : List ℕ) (should : Result Stage ReplayFault) →
      run_lines (ended_lines read) 1 (Begins road) ≡ should →
      (f : ReplayFault) → Took (Err f) should left → Reads (Err f) road left read
  faults left read should e (BadInput line reason) h = decides read (BadInput line reason) (e ∙ h)
  faults left read should e (Broken b) h = decides read (Broken b) (e ∙ h)
  faults left read should e (Full messages bytes) h = decides read (Full messages bytes) (e ∙ h)
  faults left read should e LinkFault h = tt
  faults left read should e WriteFault h = h
  faults left read should e NoMemory h = tt

-- ---- the road of a line

own_road : (stage : Stage) (road : Road) → road_of stage ≡ road → on_road road stage ≡ stage
own_road (Begins other) road h = ap Begins (sym h)
own_road (Opens o faulty other) road h = ap (Opens o faulty) (sym h)
own_road (Runs r) road h = ap (λ x. Runs (record r { road = x })) (sym h)

-- at a stage whose road begins with what links gave
pub took_here : (schedule : Schedule) (result : Result Schedule ReplayFault) (should : Stage → Result Stage ReplayFault)
    (stage : Stage) (here left : Road) → road_of stage ≡ here →
    Took result (should (on_road here stage)) left → Took result (should stage) left
took_here schedule result should stage here left goes took =
    subst (λ s. Took result (should s) left) (own_road stage here goes) took

-- what links gave to two calls they gave to both
pub later_on : (carried : Bool) (reading : Reading) (gave more later : List (List ℕ)) (read : List ℕ) →
    HasRead carried reading gave read →
    IsBehind reading (road_with carried ((gave ++ more) ++ later)) (road_with carried (more ++ later)) read
later_on carried reading gave more later read b =
    subst (λ road. IsBehind reading road (road_with carried (more ++ later)) read) (sym (two_gifts carried gave more later))
    (b (more ++ later))

pub nothing_more : (carried : Bool) (gave later : List (List ℕ)) →
    road_with carried ((gave ++ []) ++ later) ≡ road_with carried (gave ++ later)
nothing_more carried gave later = ap (λ xs. road_with carried (xs ++ later)) (append-nil gave)

-- a line that goes on, where links gave nothing more
pub goes_on : (carried : Bool) (old new : Reading) (gave later : List (List ℕ)) (read piece : List ℕ) →
    IsBehind old (road_with carried (gave ++ later)) (road_with carried later) read → has_newline piece ≡ false →
    new.schedule ≡ old.schedule → new.number ≡ old.number → new.line.items ≡ old.line.items ++ piece →
    length old.line.items + length piece ≤ longest_line →
    IsBehind new (road_with carried ((gave ++ []) ++ later)) (road_with carried later) (read ++ piece)
goes_on carried old new gave later read piece b whole same number items fits =
    subst (λ road. IsBehind new road (road_with carried later) (read ++ piece)) (sym (nothing_more carried gave later))
    (line_held (road_with carried (gave ++ later)) old new (road_with carried later) read piece b whole same number items fits)

-- ---- faults

module _ (road left : Road) where
  decided_more : (read more : List ℕ) (f : ReplayFault) → IsDecided road read f → IsDecided road (read ++ more) f
  decided_more read more f d = record {
    settled = settled_more road read more d.settled;
    leads = λ others. ap (outcome_on road) (append_assoc read more others) ∙ d.leads (more ++ others);
  }

  pub reads_more : (f : ReplayFault) (read more : List ℕ) → Reads (Err f) road left read → Reads (Err f) road left (read ++ more)
  reads_more (BadInput line reason) read more d = decided_more read more (BadInput line reason) d
  reads_more (Broken b) read more d = decided_more read more (Broken b) d
  reads_more (Full messages bytes) read more d = decided_more read more (Full messages bytes) d
  reads_more LinkFault read more d = tt
  reads_more WriteFault read more d = d
  reads_more NoMemory read more d = tt

  -- an open line that is too long decides as it would where it ended
  decided_long : (read : List ℕ) (f : ReplayFault) → longest_line < length (open_line read) → IsDecided road (read ++ 10 ∷ []) f →
      IsDecided road read f
  decided_long read f h d = record {
    settled = settled_long road read h;
    leads = λ more.
        long_outcome road read more h ∙ ap (outcome_on road) (sym (append-nil (read ++ 10 ∷ []))) ∙ d.leads [];
  }

  reads_long : (f : ReplayFault) (read : List ℕ) → longest_line < length (open_line read) → Reads (Err f) road left (read ++ 10 ∷ []) →
      Reads (Err f) road left read
  reads_long (BadInput line reason) read h d = decided_long read (BadInput line reason) h d
  reads_long (Broken b) read h d = decided_long read (Broken b) h d
  reads_long (Full messages bytes) read h d = decided_long read (Full messages bytes) h d
  reads_long LinkFault read h d = tt
  reads_long WriteFault read h d = d
  reads_long NoMemory read h d = tt

  -- a line that is too long, read as if it ended
  pub holds_long : (result : Result Reading ReplayFault) (read piece : List ℕ) → has_newline piece ≡ false →
      longest_line < length (open_line read ++ piece) → Reads result road left (read ++ (piece ++ 10 ∷ [])) →
      Reads result road left (read ++ piece)
  holds_long (Ok reading) read piece whole h b =
      absurd
      (no_long road (ended_lines read) (open_line read ++ piece) b.stage h
      (ap (λ (lines : List (List ℕ)). run_lines lines 1 (Begins road)) (sym (ended_line read piece whole)) ∙ b.ran))
  holds_long (Err f) read piece whole h d =
      let long : longest_line < length (open_line (read ++ piece)) =
      subst (λ (line : List ℕ). longest_line < length line) (sym (longer_line read piece whole)) h in
      reads_long f (read ++ piece) long
      (subst (λ (bytes : List ℕ). Reads (Err f) road left bytes) (joined read piece (10 ∷ [])) d)

-- ---- a schedule that is read to its end

replay_fault : (r : Result ReplayValue ReplayFault) (f : ReplayFault) → (r >>= λ x. Ok (report x)) ≡ Err f → r ≡ Err f
replay_fault (Ok x) f e = absurd cc
replay_fault (Err g) f e = let same : g ≡ f = cc in ap (λ (h : ReplayFault). Err h) same

-- a fault of the last line closes the schedule as it ends it
pub closes_so : (result : Result Replay ReplayFault) (should : Result ReplayValue ReplayFault) → Ends result should → Closes result should
closes_so (Ok replay) should e = e
closes_so (Err (BadInput line reason)) should e = e
closes_so (Err (Broken b)) should e = e
closes_so (Err (Full messages bytes)) should e = e
closes_so (Err LinkFault) should e = tt
closes_so (Err WriteFault) should e = e
closes_so (Err NoMemory) should e = e

module _ (road : Road) where
  -- where no line is open
  pub replay_is : (read : List ℕ) (stage : Stage) → run_lines (ended_lines read) 1 (Begins road) ≡ Ok stage → open_line read ≡ [] →
      replay_on road read ≡ ended stage
  replay_is read stage e o =
      ap (λ (lines : List (List ℕ)). run_lines lines 1 (Begins road) >>= ended) (whole_line read o)
      ∙ ap (λ (r : Result Stage ReplayFault). r >>= ended) e

  -- where one is open, it ends with the bytes
  pub replay_ends : (read : List ℕ) → 0 < length (open_line read) → replay_on road (read ++ 10 ∷ []) ≡ replay_on road read
  replay_ends read some =
      ap (λ (lines : List (List ℕ)). run_lines lines 1 (Begins road) >>= ended) (one_line read some)

  faulty_end : (read : List ℕ) (f : ReplayFault) → 0 < length (open_line read) → IsDecided road (read ++ 10 ∷ []) f →
      replay_on road read ≡ Err f
  faulty_end read f some d =
      replay_fault (replay_on road read) f
      (ap (λ (r : Result ReplayValue ReplayFault). r >>= λ x. Ok (report x))
      (sym (ap (replay_on road) (append-nil (read ++ 10 ∷ [])) ∙ replay_ends read some))
      ∙ d.leads [])

  -- where all that was read decides
  pub whole_fault : (text : List ℕ) (f : ReplayFault) → IsDecided road text f → replay_on road text ≡ Err f
  whole_fault text f d =
      replay_fault (replay_on road text) f (ap (outcome_on road) (sym (append-nil text)) ∙ d.leads [])

  pub ends_faulty : (left : Road) (read : List ℕ) (f : ReplayFault) → 0 < length (open_line read) →
      Reads (Err f) road left (read ++ 10 ∷ []) → Closes (Err f) (replay_on road read)
  ends_faulty left read (BadInput line reason) some d = faulty_end read (BadInput line reason) some d
  ends_faulty left read (Broken b) some d = faulty_end read (Broken b) some d
  ends_faulty left read (Full messages bytes) some d = faulty_end read (Full messages bytes) some d
  ends_faulty left read LinkFault some d = tt
  ends_faulty left read WriteFault some d = d
  ends_faulty left read NoMemory some d = tt

-- ---- what is read of a source

-- of a source's bytes some were read, links gave some, and the schedule is behind both
pub record SoFar (carried : Bool) (old now : Option (List ℕ)) (told tells : Option LinkState) (reading : Reading) : Type 0 where
  pub read : List ℕ
  pub consumed : Consumes old now read
  pub behind : Carries carried told tells (λ gave. HasRead carried reading gave read)

-- of these bytes some are read, and these are left
pub record Midway (carried : Bool) (reading : Reading) (gave : List (List ℕ)) (all rest : List ℕ) : Type 0 where
  pub read : List ℕ
  pub is : all ≡ read ++ rest
  pub behind : HasRead carried reading gave read

-- what holds of each road, for a source that tells its bytes
module _ (carried : Bool) (a b : Option LinkState) (old : Option (List ℕ)) where
  by_all : (left : Option (List ℕ)) (So : List ℕ → Road → Type 0) →
      Carries carried a b (λ gave. (later : List (List ℕ)) → IfSome left (λ bytes. So bytes (road_with carried (gave ++ later)))) →
      IfSome left (λ bytes. links.ByRoads carried a b (So bytes))
  by_all None So c = tt
  by_all (Some bytes) So c = c

  -- and of one that doesn't, of the bytes that were read
  of_read : (left : Option (List ℕ)) (read : List ℕ) (So : List ℕ → Road → Type 0) →
      Carries carried a b (λ gave. (later : List (List ℕ)) → AtBytes left read (λ bytes. So bytes (road_with carried (gave ++ later)))) →
      OfBytes left (λ bytes. links.ByRoads carried a b (So bytes))
  of_read None read So c = (read, c)
  of_read (Some bytes) read So c = c

  pub outcomes : (read : List ℕ) (result : Result Ending InputFail) →
      Carries carried a b (λ gave. (later : List (List ℕ)) → AtBytes old read (λ bytes.
      IfOk result (λ e. outcome_is e ≡ replayed (outcome_on (road_with carried (gave ++ later)) bytes)))) →
      OfBytes old (λ bytes. links.ByRoads carried a b (λ road. IfOk result (λ e. outcome_is e ≡ replayed (outcome_on road bytes))))
  outcomes read result c = of_read old read (λ bytes road. IfOk result (λ e. outcome_is e ≡ replayed (outcome_on road bytes))) c

  pub throughs : (result : Result Ending InputFail) (new : Option (List ℕ)) →
      Carries carried a b (λ gave. (later : List (List ℕ)) → IfSome old (λ bytes.
      IfOk result (λ _. IsReadThrough (is_settled (road_with carried (gave ++ later))) bytes new))) →
      IfSome old (λ bytes. links.ByRoads carried a b (λ road. IfOk result (λ _. IsReadThrough (is_settled road) bytes new)))
  throughs result new c = by_all old (λ bytes road. IfOk result (λ _. IsReadThrough (is_settled road) bytes new)) c

  pub soons : (new : Option (List ℕ)) →
      Carries carried a b (λ gave. (later : List (List ℕ)) → IfSome old (λ bytes.
      StopsSoon (is_settled (road_with carried (gave ++ later))) bytes new)) →
      IfSome old (λ bytes. links.ByRoads carried a b (λ road. StopsSoon (is_settled road) bytes new))
  soons new c = by_all old (λ bytes road. StopsSoon (is_settled road) bytes new) c

-- where there is no ending
pub untold : (old : Option (List ℕ)) → IfSome old (λ bytes. ⊤)
untold None = tt
untold (Some bytes) = tt

pub unended : (old : Option (List ℕ)) (read : List ℕ) → AtBytes old read (λ bytes. ⊤)
unended None read = tt
unended (Some bytes) read = tt

-- where a read gave nothing
pub nothing_taken : (read buf : List ℕ) (count : ℕ) → count ≡ 0 → read ≡ read ++ take count buf
nothing_taken read buf count none = sym (ap (λ n. read ++ take n buf) none ∙ append-nil read)

module _ (road left : Road) where
  pub can_end : (f : ReplayFault) (read : List ℕ) → Reads (Err f) road left read → CanEnd f
  can_end (BadInput line reason) read d = tt
  can_end (Broken b) read d = tt
  can_end (Full messages bytes) read d = tt
  can_end LinkFault read d = tt
  can_end WriteFault read d = d
  can_end NoMemory read d = tt

  decided_by : (f : ReplayFault) (read : List ℕ) → Reads (Err f) road left read → CanDecide f → IsDecided road read f
  decided_by (BadInput line reason) read d n = d
  decided_by (Broken b) read d n = d
  decided_by (Full messages bytes) read d n = d
  decided_by LinkFault read d n = absurd n
  decided_by WriteFault read d n = absurd n
  decided_by NoMemory read d n = absurd n

  decided_told : (old new : Option (List ℕ)) (read : List ℕ) (f : ReplayFault) (o : Outcome) → Consumes old new read →
      IsDecided road read f → o ≡ replayed (Err f) → AtBytes old read (λ bytes. o ≡ replayed (outcome_on road bytes))
  decided_told None new read f o c d e =
      e ∙ ap replayed (sym (ap (outcome_on road) (sym (append-nil read)) ∙ d.leads []))
  decided_told (Some bytes) None read f o c d e = absurd c
  decided_told (Some bytes) (Some rest) read f o c d e = e ∙ ap replayed (sym (ap (outcome_on road) c ∙ d.leads rest))

  -- an ending that tells the fault of what was read
  pub fault_told : (result : Result Ending InputFail) (old new : Option (List ℕ)) (read : List ℕ) (f : ReplayFault) →
      Consumes old new read → Reads (Err f) road left read → IfOk result (λ e. outcome_is e ≡ replayed (Err f)) →
      IfOk result (λ _. CanDecide f) → AtBytes old read (λ bytes. IfOk result (λ e. outcome_is e ≡ replayed (outcome_on road bytes)))
  fault_told (Ok e) old new read f c d told decides = decided_told old new read f (outcome_is e) c (decided_by f read d decides) told
  fault_told (Err e) old new read f c d told decides = unended old read

  pub fault_through : (result : Result Ending InputFail) (old new : Option (List ℕ)) (read : List ℕ) (f : ReplayFault) →
      Consumes old new read → Reads (Err f) road left read → IfOk result (λ _. CanDecide f) →
      IfSome old (λ bytes. IfOk result (λ _. IsReadThrough (is_settled road) bytes new))
  fault_through (Ok e) old new read f c d decides =
      enough_through (is_settled road) old new read c (decided_by f read d decides).settled
  fault_through (Err e) old new read f c d decides = untold old

  -- an ending that tells what all that was read leads to
  pub whole_told : (result : Result Ending InputFail) (old new : Option (List ℕ)) (read : List ℕ) → Consumes old new read → IsAtEnd new →
      IfOk result (λ e. outcome_is e ≡ replayed (outcome_on road read)) →
      AtBytes old read (λ bytes. IfOk result (λ e. outcome_is e ≡ replayed (outcome_on road bytes)))
  whole_told result None new read c e told = told
  whole_told result (Some bytes) None read c e told = absurd c
  whole_told result (Some bytes) (Some rest) read c e told =
      let same : read ≡ bytes = sym (c ∙ ap (λ xs. read ++ xs) e ∙ append-nil read) in
      subst (λ bs. IfOk result (λ x. outcome_is x ≡ replayed (outcome_on road bs))) same told

  pub whole_through : (result : Result Ending InputFail) (old new : Option (List ℕ)) (read : List ℕ) → Consumes old new read →
      IsAtEnd new → IfSome old (λ bytes. IfOk result (λ _. IsReadThrough (is_settled road) bytes new))
  whole_through (Ok e) old new read c at_end = all_through (is_settled road) old new read c at_end
  whole_through (Err e) old new read c at_end = untold old

-- ---- a line of a piece

pub line_passed : (all read rest line more : List ℕ) → all ≡ read ++ rest → rest ≡ line ++ 10 ∷ more →
    all ≡ (read ++ (line ++ 10 ∷ [])) ++ more
line_passed all read rest line more e f = grind (arith, common_steps, e, f)

-- a schedule that goes on has read nothing that decides
pub unread : (road left : Road) (reading : Reading) (read : List ℕ) → IsBehind reading road left read → NotYet (is_settled road) read
unread road left reading read b = not_settled road read (unsettled road read b.stage b.ran b.short)

-- ---- pieces of a schedule, and what links gave for them

-- so far these were read, and this is left of them
abbrev pub Passed : (carried : Bool) → (start now : Reading) → (piece rest : List ℕ) → List (List ℕ) → Type 0
Passed carried start now piece rest more =
    (gave : List (List ℕ)) (read : List ℕ) → HasRead carried start gave read → Midway carried now (gave ++ more) (read ++ piece) rest

pub regrouped : (carried : Bool) (gave before more later : List (List ℕ)) →
    road_with carried (((gave ++ before) ++ more) ++ later) ≡ road_with carried ((gave ++ (before ++ more)) ++ later)
regrouped carried gave before more later = ap (λ xs. road_with carried (xs ++ later)) (append_assoc gave before more)

-- nothing was read of the piece yet
pub begun_piece : (carried : Bool) (reading : Reading) (piece : List ℕ) → Passed carried reading reading piece piece []
begun_piece carried reading piece gave read b = record {
  read = read;
  is = refl;
  behind = λ later.
      subst (λ road. IsBehind reading road (road_with carried later) read) (sym (nothing_more carried gave later)) (b later);
}

-- what a line of it comes to
module _ (carried : Bool) (start now : Reading) (piece rest line rests : List ℕ) (before more : List (List ℕ))
    (passed : Passed carried start now piece rest before) (cut : rest ≡ line ++ 10 ∷ rests) (result : Result Reading ReplayFault)
    (reads : ReadsOn carried now (line ++ 10 ∷ []) result more) where
  module _ (gave : List (List ℕ)) (read : List ℕ) (b : HasRead carried start gave read) where
    abbrev here : Midway carried now (gave ++ before) (read ++ piece) rest
    here = passed gave read b

    -- what was read with it
    abbrev past : List ℕ
    past = here.read ++ (line ++ 10 ∷ [])

    parted : read ++ piece ≡ past ++ rests
    parted = line_passed (read ++ piece) here.read rest line rests here.is cut

    came : (later : List (List ℕ)) →
        Reads result (road_with carried ((gave ++ (before ++ more)) ++ later)) (road_with carried later) past
    came later =
        subst (λ road. Reads result road (road_with carried later) past) (regrouped carried gave before more later)
        (reads (gave ++ before) later here.read here.behind)

  -- a refusal
  pub refused_at : (f : ReplayFault) → result ≡ Err f → ReadsOn carried start piece (Err f) (before ++ more)
  refused_at f is gave later read b =
      let whole = road_with carried ((gave ++ (before ++ more)) ++ later) in
      let left = road_with carried later in
      subst (λ bytes. Reads (Err f) whole left bytes) (sym (parted gave read b))
      (reads_more whole left f (past gave read b) rests
      (subst (λ r. Reads r whole left (past gave read b)) is (came gave read b later)))

  -- one line more
  pub passed_on : (next : Reading) → result ≡ Ok next → Passed carried start next piece rests (before ++ more)
  passed_on next is gave read b = record {
    read = past gave read b;
    is = parted gave read b;
    behind = λ later.
        subst
        (λ r. Reads r (road_with carried ((gave ++ (before ++ more)) ++ later)) (road_with carried later) (past gave read b)) is
        (came gave read b later);
  }

-- what the rest of it comes to
pub held_on : (carried : Bool) (start now : Reading) (piece rest : List ℕ) (before more : List (List ℕ))
    (passed : Passed carried start now piece rest before) (result : Result Reading ReplayFault) →
    ReadsOn carried now rest result more → ReadsOn carried start piece result (before ++ more)
held_on carried start now piece rest before more passed result reads gave later read b =
    let m = passed gave read b in
    let left = road_with carried later in
    subst (λ bytes. Reads result (road_with carried ((gave ++ (before ++ more)) ++ later)) left bytes) (sym m.is)
    (subst (λ road. Reads result road left (m.read ++ rest)) (regrouped carried gave before more later)
    (reads (gave ++ before) later m.read m.behind))

-- ---- the end of a schedule

-- what a replay that closes a schedule tells
pub closed_told : (replay : Replay) (should : Result ReplayValue ReplayFault) (text : List ℕ) → Closes (Ok replay) should →
    ((r : ReplayValue) → Stands replay.course.value r → text ≡ report r) →
    Written text ≡ replayed (should >>= λ r. Ok (report r))
closed_told replay should text ends told =
    ap Written (told ends.0 ends.2)
    ∙ sym (ap (λ (x : Result ReplayValue ReplayFault). replayed (x >>= λ r. Ok (report r))) ends.1)

-- links of which no call failed
pub used_well : {L : Type 0} (carried : Bool) (old new : L) (before now : ℕ) (failed : Bool) → failed ≡ false →
    (carried ≡ false → new ≡ old) → now ≡ before → Uses carried old new before now failed
used_well carried old new before now true e unused kept = absurd cc
used_well carried old new before now false e unused kept =
    record { unused = unused; carries = λ h. absurd cc; cause = λ h. absurd cc; kept = λ h. kept }

-- no link fails where a schedule ends
pub ends_unlinked : (result : Result Replay ReplayFault) (should : Result ReplayValue ReplayFault) → Ends result should →
    is_link_fault result ≡ false
ends_unlinked (Ok replay) should e = refl
ends_unlinked (Err (BadInput line reason)) should e = refl
ends_unlinked (Err (Broken b)) should e = refl
ends_unlinked (Err (Full messages bytes)) should e = refl
ends_unlinked (Err LinkFault) should e = absurd e
ends_unlinked (Err WriteFault) should e = refl
ends_unlinked (Err NoMemory) should e = refl

-- where `?` hands on that there is none
pub failed_told : (result : Result Ending InputFail) (x : InputFail) (should : Outcome) → IsErrAnd result (λ y. y ≡ x) →
    IfOk result (λ e. outcome_is e ≡ should)
failed_told (Ok e) x should h = absurd h
failed_told (Err y) x should h = tt

pub can_close : (f : ReplayFault) (should : Result ReplayValue ReplayFault) → Closes (Err f) should → CanEnd f
can_close (BadInput line reason) should d = tt
can_close (Broken b) should d = tt
can_close (Full messages bytes) should d = tt
can_close LinkFault should d = tt
can_close WriteFault should d = d
can_close NoMemory should d = tt

-- what a fault that closes a schedule tells
pub fault_closes : (result : Result Ending InputFail) (f : ReplayFault) (should : Result ReplayValue ReplayFault) → Closes (Err f) should →
    IfOk result (λ e. outcome_is e ≡ replayed (Err f)) → IfOk result (λ _. CanDecide f) →
    IfOk result (λ e. outcome_is e ≡ replayed (should >>= λ r. Ok (report r)))
fault_closes (Err x) f should d told decides = tt
fault_closes (Ok e) f should d told decides = told ∙ by f d decides
  where
    by : (f : ReplayFault) → Closes (Err f) should → CanDecide f → replayed (Err f) ≡ replayed (should >>= λ r. Ok (report r))
    by (BadInput line reason) d decides = sym (ap (λ (x : Result ReplayValue ReplayFault). replayed (x >>= λ r. Ok (report r))) d)
    by (Broken b) d decides = sym (ap (λ (x : Result ReplayValue ReplayFault). replayed (x >>= λ r. Ok (report r))) d)
    by (Full messages bytes) d decides = sym (ap (λ (x : Result ReplayValue ReplayFault). replayed (x >>= λ r. Ok (report r))) d)
    by LinkFault d decides = absurd decides
    by WriteFault d decides = absurd decides
    by NoMemory d decides = absurd decides

-- ---- a schedule that is run whole, where nothing is carried

pub faults_alone : (f : ReplayFault) (text : List ℕ) → (is_of_link f ≡ true → ⊥) → Reads (Err f) Direct Direct text →
    Faults (replay_on Direct text) f
faults_alone (BadInput line reason) text link d = whole_fault Direct text (BadInput line reason) d
faults_alone (Broken b) text link d = whole_fault Direct text (Broken b) d
faults_alone (Full messages bytes) text link d = whole_fault Direct text (Full messages bytes) d
faults_alone LinkFault text link d = absurd (link refl)
faults_alone WriteFault text link d = d
faults_alone NoMemory text link d = tt

pub closes_alone : (result : Result Replay ReplayFault) (should : Result ReplayValue ReplayFault) →
    (is_link_fault result ≡ true → ⊥) → Closes result should → Ends result should
closes_alone (Ok replay) should link e = e
closes_alone (Err (BadInput line reason)) should link e = e
closes_alone (Err (Broken b)) should link e = e
closes_alone (Err (Full messages bytes)) should link e = e
closes_alone (Err LinkFault) should link e = absurd (link refl)
closes_alone (Err WriteFault) should link e = e
closes_alone (Err NoMemory) should link e = e

-- `?` hands the fault of a piece on
pub faults_by : (result : Result Replay ReplayFault) (f : ReplayFault) (should : Result ReplayValue ReplayFault) →
    IsErrAnd result (λ g. g ≡ f) → Faults should f → Ends result should
faults_by (Ok replay) f should e d = absurd e
faults_by (Err g) f should e d = subst (λ h. Faults should h) (sym e) d

pub can_fault : (f : ReplayFault) (should : Result ReplayValue ReplayFault) → Faults should f → CanEnd f
can_fault (BadInput line reason) should d = tt
can_fault (Broken b) should d = tt
can_fault (Full messages bytes) should d = tt
can_fault LinkFault should d = tt
can_fault WriteFault should d = d
can_fault NoMemory should d = tt

-- what a load's run tells
pub totals_told : (replay : Replay) (should : Result ReplayValue ReplayFault) (text : List ℕ) → Ends (Ok replay) should →
    ((r : ReplayValue) → Stands replay.course.value r → text ≡ totals r) → Written text ≡ loaded should
totals_told replay should text ends told = ap Written (told ends.0 ends.2) ∙ sym (ap loaded ends.1)

pub fault_loaded : (e : Ending) (f : ReplayFault) (should : Result ReplayValue ReplayFault) → Faults should f → CanDecide f →
    outcome_is e ≡ replayed (Err f) → outcome_is e ≡ loaded should
fault_loaded e (BadInput line reason) should d decides told = told ∙ sym (ap loaded d)
fault_loaded e (Broken b) should d decides told = told ∙ sym (ap loaded d)
fault_loaded e (Full messages bytes) should d decides told = told ∙ sym (ap loaded d)
fault_loaded e LinkFault should d decides told = absurd decides
fault_loaded e WriteFault should d decides told = absurd decides
fault_loaded e NoMemory should d decides told = absurd decides
