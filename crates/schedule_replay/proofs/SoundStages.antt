-- Each stage of a schedule is sound: its replay is a run, with at most f faulty replicas of each shard.
use Rattle.std.proofs.Common.{◌≡◌, ℕ, ◌+◌, suc, Bool, true, false, List, [], ◌∷◌, ◌++◌}
use Rattle.std.proofs.Common.{Option, Some, None, not, refl, sym, ap, subst, ◌∙◌, arith}
use Rattle.std.specs.Prelude.{Result, Ok, Err, length, option_map}
use Rattle.basil_types.specs.Built.{or_else}
use Rattle.basil_types.specs.Setting.{Setting, IsSetting}
use Rattle.basil_types.specs.Steps.{◌>>=◌}
use Rattle.basil_types.specs.declared.party.Party.{Party}
use Rattle.cluster_run.specs.Breaking.{RunsUpToABreachAreSafe}
use Rattle.cluster_run.specs.Kits.{PlainKitsSign, LmsKitsSign}
use Rattle.cluster_run.specs.Safety.{AreSigned, RunsAreSafe}
use Rattle.cluster_run.specs.States.{KitValue, start}
use Rattle.cluster_run.specs.declared.fault.WorldFault.TheVariants as world
use Rattle.keyring_lms.specs.Replay.{is_party_of, replay_accepts, tree_in_replay}
use Rattle.lms_sign.specs.declared.sets.LmsSet.{LmsSet}
use Rattle.lms_sign.specs.declared.sets.LmsSet.TheVariants as sets
use Rattle.node_steps.specs.Refusing.{when, unless}
use Rattle.premise_watch.specs.Parties.{AreCounted, AreFew, can_join}
use Rattle.premise_watch.specs.declared.broken.Broken.{Broken}
use Rattle.replay_kit.specs.Values.{BatchKitsSign, lms_place, lms_value, plain_place}
use Rattle.schedule_text.specs.Fitting.{Fits, GrammarIsRead}
use Rattle.schedule_text.specs.Reading.{line_at}
use Rattle.line_fields.specs.TextLines.{lines_of}
use Rattle.line_fields.specs.declared.keys_kind.KeysKind.{KeysKind}
use Rattle.line_fields.specs.declared.keys_kind.KeysKind.TheVariants.{Plain, W4H5, W4H10, W8H5, W8H10, Batch}
use Rattle.schedule_text.specs.declared.line.Line.{Line}
use Rattle.schedule_text.specs.declared.line.Line.TheVariants.{Header, Skipped, Faulty}
use Rattle.schedule_text.specs.declared.line.LineFault.{LineFault}
use Rattle.schedule_text.specs.declared.line.LineFault.TheVariants as line_fault
use Rattle.schedule_replay.proofs.Fitting.{read_fits}
use Rattle.schedule_replay.proofs.Joining.{joins_few}
use Rattle.schedule_replay.proofs.Lines.{does_break, line_keeps, line_breaks}
use Rattle.schedule_replay.proofs.Running.{between, run_on, sized_append}
use Rattle.schedule_replay.specs.Events.{line_does}
use Rattle.schedule_replay.specs.Kits.{kit_of}
use Rattle.schedule_replay.specs.Laws.{IsReplayed, ReportsAreSafe, IsRealBreak, BreaksAreReal}
use Rattle.schedule_replay.specs.Lines.{bad_line, line_step}
use Rattle.schedule_replay.specs.Outcomes.{replay_on}
use Rattle.schedule_replay.specs.Replays.{Opening, ReplayValue, first_replay}
use Rattle.schedule_replay.specs.Reports.{report}
use Rattle.schedule_replay.specs.Roads.{Road}
use Rattle.line_fields.specs.declared.reason.Reason.{Reason}
use Rattle.line_fields.specs.declared.reason.Reason.TheVariants.{OutOfRange, CannotBeFaulty}
use Rattle.schedule_replay.specs.Stages.{Stage, Begins, Opens, Runs, opened, first_line, bad_first}
use Rattle.schedule_replay.specs.Stages.{faulty_reason, opening_line, read_line, stage_step, run_lines, ended}
use Rattle.report_lines.specs.declared.fault.ReplayFault.{ReplayFault}
use Rattle.report_lines.specs.declared.fault.ReplayFault.TheVariants as fault

-- what the laws below tell
pub record Laws : Type 0 where
  pub grammar : GrammarIsRead
  pub few : (c : Setting) (parties : List Party) → AreCounted c.f parties → AreFew c parties
  pub plain : PlainKitsSign
  pub lms : LmsKitsSign
  pub batch : BatchKitsSign

record IsOpening (o : Opening) (faulty : List Party) : Type 0 where
  pub setting : IsSetting o.cluster
  pub counted : AreCounted o.cluster.f faulty
  pub signed : AreSigned o.kit

abbrev IsStage : Stage → Type 0
IsStage (Begins road) = Unit {0}
IsStage (Opens o faulty road) = IsOpening o faulty
IsStage (Runs r) = IsReplayed r

-- a line at a stage ends the run in a breach
record BreaksAt (stage : Stage) (line : List ℕ) (number : ℕ) (b : Broken) : Type 0 where
  pub replay : ReplayValue
  pub reached : ended stage ≡ Ok replay
  pub ran : IsReplayed replay
  pub value : Line
  pub read : line_at line number ≡ Ok value
  pub broke : line_does replay value ≡ Err (world.Broken b)

-- one of the lines from this number on does
record BreaksIn (lines : List (List ℕ)) (number : ℕ) (stage : Stage) (b : Broken) : Type 0 where
  pub before : List (List ℕ)
  pub line : List ℕ
  pub after : List (List ℕ)
  pub parts : lines ≡ before ++ line ∷ after
  pub mid : Stage
  pub led : run_lines before number stage ≡ Ok mid
  pub breaks : BreaksAt mid line (number + length before) b

module _ (laws : Laws) where
  -- ---- openings

  begins_replayed : (o : Opening) (faulty : List Party) (road : Road) → IsOpening o faulty → IsReplayed (first_replay o faulty road)
  begins_replayed o faulty road i = record {
    sound = record {
      setup = record { setting = i.setting; few = laws.few o.cluster faulty i.counted };
      signed = i.signed;
    };
    events = [];
    sized = tt;
    ends = refl;
  }

  lms_signs : (c : Setting) (set : LmsSet) → AreSigned (lms_value c set)
  lms_signs c set = laws.lms (replay_accepts c set) (tree_in_replay set) (λ _. 0) (λ _. lms_place set)

  kit_signs : (c : Setting) (keys : KeysKind) → AreSigned (kit_of c keys)
  kit_signs c Plain = laws.plain (λ _. plain_place)
  kit_signs c W4H5 = lms_signs c sets.W4H5
  kit_signs c W4H10 = lms_signs c sets.W4H10
  kit_signs c W8H5 = lms_signs c sets.W8H5
  kit_signs c W8H10 = lms_signs c sets.W8H10
  kit_signs c Batch = laws.batch

  nobody : (f : ℕ) → AreCounted f []
  nobody f shard = omega arith

  opens : (road : Road) (c : Setting) (clock : ℕ) (journal : Bool) (kit : KitValue) → IsSetting c → AreSigned kit →
      IsStage (opened road c clock journal kit)
  opens road c clock journal kit i signs = record { setting = i; counted = nobody c.f; signed = signs }

  first_keeps : (road : Road) (number : ℕ) (line : Line) (stage : Stage) → Fits line →
      first_line road number line ≡ Ok stage → IsStage stage
  first_keeps road number (Header c clock keys journal) stage f h =
      let same : opened road c clock journal (kit_of c keys) ≡ stage = cc in
      subst IsStage same (opens road c clock journal (kit_of c keys) f.0 (kit_signs c keys))
  first_keeps road number Skipped stage f h = let same : Begins road ≡ stage = cc in subst IsStage same tt
  first_keeps road number line stage f h = absurd cc

  -- ---- faulty parties

  may_join : (c : Setting) (faulty : List Party) (party : Party) → faulty_reason c faulty party ≡ None →
      can_join c.f faulty party ≡ true
  may_join c faulty party h = by (not (is_party_of c party)) (can_join c.f faulty party) h
    where
      by : (a b : Bool) → or_else {A = Reason} (when a OutOfRange) (when (not b) CannotBeFaulty) ≡ None → b ≡ true
      by true b h = absurd cc
      by false true h = refl
      by false false h = absurd cc

  joins : (o : Opening) (faulty : List Party) (road : Road) (number : ℕ) (party : Party) (stage : Stage) → IsOpening o faulty →
      unless (option_map (fault.BadInput number) (faulty_reason o.cluster faulty party)) (Opens o (faulty ++ party ∷ []) road) ≡ Ok stage →
      IsStage stage
  joins o faulty road number party stage i h = by (faulty_reason o.cluster faulty party) refl h
    where
      by : (reason : Option Reason) → faulty_reason o.cluster faulty party ≡ reason →
          unless (option_map (fault.BadInput number) reason) (Opens o (faulty ++ party ∷ []) road) ≡ Ok stage → IsStage stage
      by None e h =
          let same : Opens o (faulty ++ party ∷ []) road ≡ stage = cc in
          subst IsStage same
          (record {
            setting = i.setting;
            counted = joins_few o.cluster.f faulty party (may_join o.cluster faulty party e) i.counted;
            signed = i.signed;
          })
      by (Some reason) e h = absurd cc

  -- ---- lines

  runs_on : (r : ReplayValue) (line : Line) (number : ℕ) (stage : Stage) → Fits line → IsReplayed r →
      (line_step r line number >>= λ r. Ok (Runs r)) ≡ Ok stage → IsStage stage
  runs_on r line number stage f i h =
      let b = between (line_step r line number) (λ r. Ok (Runs r)) stage h in
      let same : Runs b.start ≡ stage = cc in
      subst IsStage same (line_keeps r line number b.start f i b.first)

  opening_keeps : (o : Opening) (faulty : List Party) (road : Road) (number : ℕ) (line : Line) (stage : Stage) →
      Fits line → IsOpening o faulty →
      opening_line o faulty road number line ≡ Ok stage → IsStage stage
  opening_keeps o faulty road number (Faulty party) stage f i h = joins o faulty road number party stage i h
  opening_keeps o faulty road number Skipped stage f i h = let same : Opens o faulty road ≡ stage = cc in subst IsStage same i
  opening_keeps o faulty road number line stage f i h =
      runs_on (first_replay o faulty road) line number stage f (begins_replayed o faulty road i) h

  read_keeps : (stage : Stage) (line : List ℕ) (number : ℕ) (value : Result Line LineFault) (after : Stage) →
      ((x : Line) → value ≡ Ok x → Fits x) → IsStage stage → read_line stage line number value ≡ Ok after → IsStage after
  read_keeps (Begins road) line number (Ok value) after f i h = first_keeps road number value after (f value refl) h
  read_keeps (Begins road) line number (Err e) after f i h = absurd cc
  read_keeps (Opens o faulty road) line number (Ok value) after f i h = opening_keeps o faulty road number value after (f value refl) i h
  read_keeps (Opens o faulty road) line number (Err e) after f i h = absurd cc
  read_keeps (Runs r) line number (Ok value) after f i h = runs_on r value number after (f value refl) i h
  read_keeps (Runs r) line number (Err e) after f i h = absurd cc

  step_keeps : (stage : Stage) (line : List ℕ) (number : ℕ) (after : Stage) → IsStage stage → stage_step stage line number ≡ Ok after →
      IsStage after
  step_keeps stage line number after i h =
      read_keeps stage line number (line_at line number) after (λ x e. read_fits laws.grammar line number x e) i h

  lines_keep : (lines : List (List ℕ)) (number : ℕ) (stage after : Stage) → IsStage stage → run_lines lines number stage ≡ Ok after →
      IsStage after
  lines_keep [] number stage after i h = let same : stage ≡ after = cc in subst IsStage same i
  lines_keep (line ∷ lines) number stage after i h =
      let b = between (stage_step stage line number) (run_lines lines (number + 1)) after h in
      lines_keep lines (number + 1) b.start after (step_keeps stage line number b.start i b.first) b.second

  ends_replayed : (stage : Stage) (r : ReplayValue) → IsStage stage → ended stage ≡ Ok r → IsReplayed r
  ends_replayed (Begins road) r i h = absurd cc
  ends_replayed (Opens o faulty road) r i h =
      let same : first_replay o faulty road ≡ r = cc in subst IsReplayed same (begins_replayed o faulty road i)
  ends_replayed (Runs x) r i h = let same : x ≡ r = cc in subst IsReplayed same i

  is_replayed : (road : Road) (bytes : List ℕ) (r : ReplayValue) → replay_on road bytes ≡ Ok r → IsReplayed r
  is_replayed road bytes r h =
      let b = between (run_lines (lines_of bytes) 1 (Begins road)) ended r h in
      ends_replayed b.start r (lines_keep (lines_of bytes) 1 (Begins road) b.start tt b.first) b.second

  pub reports_are_safe : RunsAreSafe → ReportsAreSafe
  reports_are_safe safe road bytes text h =
      let b = between (replay_on road bytes) (λ r. Ok (report r)) text h in
      let i = is_replayed road bytes b.start b.first in
      let same : report b.start ≡ text = cc in
      record {
        replay = b.start;
        replayed = b.first;
        told = sym same;
        ran = i;
        safe = safe b.start.setup i.sound.setup i.sound.signed i.events b.start.state i.sized i.ends;
      }

  -- ---- breaches

  first_breaks : {A : Type 0} (road : Road) (number : ℕ) (line : Line) (b : Broken) → first_line road number line ≡ Err (fault.Broken b) → A
  first_breaks road number (Header c clock keys journal) b h = absurd cc
  first_breaks road number Skipped b h = absurd cc
  first_breaks road number line b h = absurd cc

  bad_first_breaks : {A : Type 0} (line : List ℕ) (number : ℕ) (e : LineFault) (b : Broken) → bad_first line number e ≡ fault.Broken b → A
  bad_first_breaks line number (line_fault.BadLine n reason) b h = absurd cc
  bad_first_breaks line number line_fault.NoMemory b h = absurd cc

  bad_line_breaks : {A : Type 0} (line : List ℕ) (number : ℕ) (e : LineFault) (b : Broken) → bad_line line number e ≡ fault.Broken b → A
  bad_line_breaks line number (line_fault.BadLine n reason) b h = absurd cc
  bad_line_breaks line number line_fault.NoMemory b h = absurd cc

  joins_break : {A : Type 0} (number : ℕ) (reason : Option Reason) (stage : Stage) (b : Broken) →
      unless (option_map (fault.BadInput number) reason) stage ≡ Err (fault.Broken b) → A
  joins_break number None stage b h = absurd cc
  joins_break number (Some reason) stage b h = absurd cc

  runs_break : (r : ReplayValue) (line : Line) (number : ℕ) (b : Broken) →
      (line_step r line number >>= λ r. Ok (Runs r)) ≡ Err (fault.Broken b) → line_does r line ≡ Err (world.Broken b)
  runs_break r line number b h = by (line_step r line number) refl h
    where
      by : (x : Result ReplayValue ReplayFault) → line_step r line number ≡ x → (x >>= λ r. Ok (Runs r)) ≡ Err (fault.Broken b) →
          line_does r line ≡ Err (world.Broken b)
      by (Ok after) e h = absurd cc
      by (Err x) e h =
          let same : x ≡ fault.Broken b = cc in line_breaks r line number b (e ∙ ap (λ (z : ReplayFault). Err z) same)

  opening_breaks : (o : Opening) (faulty : List Party) (road : Road) (number : ℕ) (line : Line) (b : Broken) →
      opening_line o faulty road number line ≡ Err (fault.Broken b) → line_does (first_replay o faulty road) line ≡ Err (world.Broken b)
  opening_breaks o faulty road number (Faulty party) b h =
      joins_break number (faulty_reason o.cluster faulty party) (Opens o (faulty ++ party ∷ []) road) b h
  opening_breaks o faulty road number Skipped b h = absurd cc
  opening_breaks o faulty road number line b h = runs_break (first_replay o faulty road) line number b h

  read_breaks : (stage : Stage) (line : List ℕ) (number : ℕ) (value : Result Line LineFault) (b : Broken) → line_at line number ≡ value →
      IsStage stage → read_line stage line number value ≡ Err (fault.Broken b) → BreaksAt stage line number b
  read_breaks (Begins road) line number (Ok value) b e i h = first_breaks road number value b h
  read_breaks (Begins road) line number (Err x) b e i h =
      bad_first_breaks line number x b (let same : bad_first line number x ≡ fault.Broken b = cc in same)
  read_breaks (Opens o faulty road) line number (Ok value) b e i h = record {
    replay = first_replay o faulty road;
    reached = refl;
    ran = begins_replayed o faulty road i;
    value = value;
    read = e;
    broke = opening_breaks o faulty road number value b h;
  }
  read_breaks (Opens o faulty road) line number (Err x) b e i h =
      bad_line_breaks line number x b (let same : bad_line line number x ≡ fault.Broken b = cc in same)
  read_breaks (Runs r) line number (Ok value) b e i h =
      record { replay = r; reached = refl; ran = i; value = value; read = e; broke = runs_break r value number b h }
  read_breaks (Runs r) line number (Err x) b e i h =
      bad_line_breaks line number x b (let same : bad_line line number x ≡ fault.Broken b = cc in same)

  -- a line before the breach
  behind_line : (line : List ℕ) (lines : List (List ℕ)) (number : ℕ) (stage after : Stage) (b : Broken) →
      stage_step stage line number ≡ Ok after → BreaksIn lines (number + 1) after b → BreaksIn (line ∷ lines) number stage b
  behind_line line lines number stage after b e i = record {
    before = line ∷ i.before;
    line = i.line;
    after = i.after;
    parts = ap (λ (ls : List (List ℕ)). line ∷ ls) i.parts;
    mid = i.mid;
    led = ap (λ (x : Result Stage ReplayFault). x >>= run_lines i.before (number + 1)) e ∙ i.led;
    breaks =
        let same : (number + 1) + length i.before ≡ number + suc (length i.before) = omega arith in
        subst (λ (n : ℕ). BreaksAt i.mid i.line n b) same i.breaks;
  }

  -- the breach at the first of the lines
  at_first : (line : List ℕ) (lines : List (List ℕ)) (number : ℕ) (stage : Stage) (b : Broken) → BreaksAt stage line number b →
      BreaksIn (line ∷ lines) number stage b
  at_first line lines number stage b i = record {
    before = [];
    line = line;
    after = lines;
    parts = refl;
    mid = stage;
    led = refl;
    breaks = let same : number ≡ number + 0 = omega arith in subst (λ (n : ℕ). BreaksAt stage line n b) same i;
  }

  lines_break : (lines : List (List ℕ)) (number : ℕ) (stage : Stage) (b : Broken) → IsStage stage →
      run_lines lines number stage ≡ Err (fault.Broken b) → BreaksIn lines number stage b
  lines_break [] number stage b i h = absurd cc
  lines_break (line ∷ lines) number stage b i h =
      by (stage_step stage line number) refl h (λ t k e. lines_break lines (number + 1) t b k e)
    where
      by : (x : Result Stage ReplayFault) → stage_step stage line number ≡ x →
          (x >>= run_lines lines (number + 1)) ≡ Err (fault.Broken b) →
          ((t : Stage) → IsStage t → run_lines lines (number + 1) t ≡ Err (fault.Broken b) → BreaksIn lines (number + 1) t b) →
          BreaksIn (line ∷ lines) number stage b
      by (Ok t) e h rest = behind_line line lines number stage t b e (rest t (step_keeps stage line number t i e) h)
      by (Err x) e h rest =
          let same : x ≡ fault.Broken b = cc in
          at_first line lines number stage b
          (read_breaks stage line number (line_at line number) b refl i (e ∙ ap (λ (z : ReplayFault). Err z) same))

  ended_breaks : {A : Type 0} (stage : Stage) (b : Broken) → ended stage ≡ Err (fault.Broken b) → A
  ended_breaks (Begins road) b h = absurd cc
  ended_breaks (Opens o faulty road) b h = absurd cc
  ended_breaks (Runs r) b h = absurd cc

  module _ (law : RunsUpToABreachAreSafe) where
    real : (road : Road) (bytes : List ℕ) (b : Broken) → BreaksIn (lines_of bytes) 1 (Begins road) b → IsRealBreak road bytes b
    real road bytes b i =
        let x = i.breaks in
        let r = x.replay in
        let goes = does_break r x.value b (read_fits laws.grammar i.line (1 + length i.before) x.value x.read) x.broke in
        record {
          before = i.before;
          line = i.line;
          after = i.after;
          parts = i.parts;
          replay = r;
          reached = ap (λ (s : Result Stage ReplayFault). s >>= ended) i.led ∙ x.reached;
          ran = x.ran;
          value = x.value;
          read = x.read;
          broke = x.broke;
          events = goes.events;
          until =
              law r.setup x.ran.sound.setup x.ran.sound.signed (x.ran.events ++ goes.events) b
              (sized_append x.ran.events goes.events x.ran.sized goes.sized)
              (run_on r.setup x.ran.events goes.events (start r.setup) r.state (Err b) x.ran.ends goes.ends);
        }

    pub breaks_are_real : BreaksAreReal
    breaks_are_real road bytes b h = by (run_lines (lines_of bytes) 1 (Begins road)) refl h
      where
        at_end : (x : Result ReplayValue ReplayFault) → (x >>= λ r. Ok (report r)) ≡ Err (fault.Broken b) → x ≡ Err (fault.Broken b)
        at_end (Ok r) h = absurd cc
        at_end (Err e) h = let same : e ≡ fault.Broken b = cc in ap (λ (z : ReplayFault). Err z) same

        by : (x : Result Stage ReplayFault) → run_lines (lines_of bytes) 1 (Begins road) ≡ x →
            ((x >>= ended) >>= λ r. Ok (report r)) ≡ Err (fault.Broken b) → IsRealBreak road bytes b
        by (Ok stage) e h = ended_breaks stage b (at_end (ended stage) h)
        by (Err f) e h =
            let same : f ≡ fault.Broken b = cc in
            real road bytes b (lines_break (lines_of bytes) 1 (Begins road) b tt (e ∙ ap (λ (z : ReplayFault). Err z) same))
