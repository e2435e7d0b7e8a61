-- What the parts of a schedule's code come to.
use Rattle.std.proofs.Common.{◌≡◌, ℕ, ◌+◌, ◌≤◌, ◌<◌, Bool, true, false, List, [], ◌∷◌}
use Rattle.std.proofs.Common.{◌++◌, Option, Some, None, refl, sym, ap, subst, ◌∙◌, arith}
use Rattle.std.specs.Prelude.{◌≢◌, ◌*◌, ◌&&◌, ◌||◌, nat_le, nat_lt, Result, Ok, Err, option_map, OnOk, if◌then◌else◌}
use Rattle.std.specs.Result.{IsErrAnd}
use Rattle.std.proofs.lemmas.Grind.{common_steps}
use Rattle.std.proofs.lemmas.List.Folds.{list_any-append}
use Rattle.basil_types.specs.Setting.{Setting}
use Rattle.basil_types.specs.Steps.{◌>>=◌}
use Rattle.basil_types.specs.declared.party.Party.{Party}
use Rattle.basil_types.specs.declared.party.Party.TheVariants.{Replica, Client}
use Rattle.cluster_run.proofs.Running.{party_same}
use Rattle.cluster_world.specs.Shows.{AreMembers, IsMember}
use Rattle.keyring_lms.specs.Replay.{is_party_of}
use Rattle.node_steps.specs.Refusing.{unless}
use Rattle.premise_watch.specs.Parties.{can_join, is_among, joined}
use Rattle.replay_kit.specs.Kinds.{kind_of}
use Rattle.replay_kit.specs.Values.{replay_value}
use Rattle.schedule_text.specs.Fitting.{GrammarIsRead}
use Rattle.line_fields.specs.Limits.{most_lines}
use Rattle.schedule_text.specs.Reading.{line_at}
use Rattle.line_fields.specs.declared.keys_kind.KeysKind.{KeysKind}
use Rattle.schedule_text.specs.declared.line.Line.{Line}
use Rattle.schedule_text.specs.declared.line.Line.TheVariants.{Faulty, Skipped}
use Rattle.schedule_text.specs.declared.line.LineFault.{LineFault}
use Rattle.schedule_text.specs.declared.line.LineFault.TheVariants as line_fault
use Rattle.txn_table.specs.Entries.{same_party}
use Rattle.schedule_replay.specs.Kits.{kit_of}
use Rattle.schedule_replay.specs.Lines.{line_step}
use Rattle.schedule_replay.specs.Replays.{Opening, ReplayValue, along, first_replay}
use Rattle.schedule_replay.specs.Roads.{Road}
use Rattle.schedule_replay.specs.Schedules.{Ends, IsAt, Joins, Took}
use Rattle.schedule_replay.specs.Shown.{Did, Stands, opening_of}
use Rattle.line_fields.specs.declared.reason.Reason.{Reason}
use Rattle.schedule_replay.specs.Stages.{AreParties, Stage, Begins, Opens, Runs, ended, first_line, on_road}
use Rattle.schedule_replay.specs.Stages.{opened, faulty_reason, opening_line, read_line, stage_step}
use Rattle.schedule_replay.specs.declared.course.Course.{Course}
use Rattle.report_lines.specs.declared.fault.ReplayFault.{ReplayFault}
use Rattle.report_lines.specs.declared.fault.ReplayFault.TheVariants.{BadInput, Broken, Full, LinkFault, WriteFault, NoMemory}
use Rattle.schedule_replay.specs.declared.replay.Opening as code
use Rattle.schedule_replay.specs.declared.replay.Replay.{Replay}
use Rattle.schedule_replay.specs.declared.stages.Opened.{Opened}
use Rattle.schedule_replay.specs.declared.stages.Schedule.{Schedule}
use Rattle.schedule_replay.specs.declared.stages.Schedule.TheVariants as schedules

-- ---- who is of a cluster

both : (a b : Bool) → (a && b) ≡ true → (a ≡ true) × (b ≡ true)
both true true h = (refl, refl)
both true false h = absurd cc
both false b h = absurd cc

below : (m n : ℕ) → nat_lt m n ≡ true → m < n
below m n h = grind (arith, common_steps)

within : (m n : ℕ) → nat_le m n ≡ true → m ≤ n
within m n h = grind (arith, common_steps)

is_member : (c : Setting) (party : Party) → is_party_of c party ≡ true → IsMember c party
is_member c (Replica shard index) h =
    let b = both (nat_lt shard c.shards) (nat_lt index (5 * c.f + 1)) h in (below shard c.shards b.0, below index (5 * c.f + 1) b.1)
is_member c (Client number) h =
    let b = both (nat_le 1 number) (nat_le number 16) h in record { someone = within 1 number b.0; few = within number 16 b.1 }

either : {P : Type 0} (a b : Bool) → (a || b) ≡ true → (a ≡ true → P) → (b ≡ true → P) → P
either true b h left right = left refl
either false true h left right = right refl
either false false h left right = absurd cc

one_of : (q p : Party) → is_among (p ∷ []) q ≡ true → q ≡ p
one_of q p h = either (same_party q p) false h (λ e. party_same q p e) (λ e. absurd cc)

pub are_members : (c : Setting) (faulty : List Party) → AreParties c faulty → AreMembers c faulty
are_members c faulty parties p h = is_member c p (parties p h)

one_more : (c : Setting) (faulty : List Party) (party : Party) → AreParties c faulty → is_party_of c party ≡ true →
    AreParties c (faulty ++ party ∷ [])
one_more c faulty party parties there q h =
    either (is_among faulty q) (is_among (party ∷ []) q) (sym (list_any-append (same_party q) faulty (party ∷ [])) ∙ h) (λ e. parties q e)
    (λ e. ap (is_party_of c) (one_of q party e) ∙ there)

pub joined_parties : (c : Setting) (faulty : List Party) (party : Party) → AreParties c faulty → is_party_of c party ≡ true →
    AreParties c (joined c.f faulty party)
joined_parties c faulty party parties there = by (can_join c.f faulty party)
  where
    by : (b : Bool) → AreParties c (if b then faulty ++ party ∷ [] else faulty)
    by true = one_more c faulty party parties there
    by false = parties

-- ---- the header

pub with_kit : (road : Road) (o : code.Opening) (keys : KeysKind) → kind_of keys ≡ o.keys →
    opened road o.cluster o.clock o.journal (kit_of o.cluster keys) ≡ Opens (opening_of o) [] road
with_kit road o keys k = ap (λ kind. opened road o.cluster o.clock o.journal (replay_value o.cluster kind)) k

-- ---- a faulty party

party_line : (o : Opening) (faulty : List Party) (road : Road) (number : ℕ) (line : Line) (party : Party)
    (reason : Option Reason) → line ≡ Faulty party →
    faulty_reason o.cluster faulty party ≡ reason →
    opening_line o faulty road number line ≡ unless (option_map (BadInput number) reason) (Opens o (faulty ++ party ∷ []) road)
party_line o faulty road number line party reason is h =
    ap (opening_line o faulty road number) is ∙ ap (λ r. unless (option_map (BadInput number) r) (Opens o (faulty ++ party ∷ []) road)) h

pub join_done : (old new : Opened) (road : Road) (number : ℕ) (line : Line) (party : Party) (done : Unit {0}) → line ≡ Faulty party →
    Joins old new number party (Ok done) →
    Took (Ok (schedules.Opens new)) (opening_line (opening_of old.opening) old.faulty.value road number line) road
join_done old new road number line party done is j = (
  Opens (opening_of old.opening) (old.faulty.value ++ party ∷ []) road,
  party_line (opening_of old.opening) old.faulty.value road number line party None is j.0,
  record { shown = (ap opening_of (sym j.2), sym j.1); going = tt; goes = refl },
)

pub not_joined : (old new : Opened) (road : Road) (number : ℕ) (line : Line) (party : Party) (f : ReplayFault) → line ≡ Faulty party →
    Joins old new number party (Err f) →
    Took (Err f) (opening_line (opening_of old.opening) old.faulty.value road number line) road
not_joined old new road number line party f is j =
    let o = opening_of old.opening in
    subst (λ x. Took (Err x) (opening_line o old.faulty.value road number line) road) (sym j.2)
    (party_line o old.faulty.value road number line party (Some j.0) is j.1)

pub skipped : (old : Opened) (road : Road) (number : ℕ) (line : Line) → line ≡ Skipped →
    Took (Ok (schedules.Opens old)) (opening_line (opening_of old.opening) old.faulty.value road number line) road
skipped old road number line is =
    let o = opening_of old.opening in (
      Opens o old.faulty.value road,
      ap (opening_line o old.faulty.value road number) is,
      record { shown = (refl, refl); going = tt; goes = refl },
    )

pub other_line : (o : Opening) (faulty : List Party) (road : Road) (number : ℕ) (line : Line) → (line ≡ Skipped → ⊥) →
    ((party : Party) → line ≡ Faulty party → ⊥) →
    opening_line o faulty road number line ≡ (line_step (first_replay o faulty road) line number >>= λ r. Ok (Runs r))
other_line o faulty road number (Faulty party) skipped named = absurd (named party refl)
other_line o faulty road number Skipped skipped named = absurd (skipped refl)
other_line o faulty road number line skipped named = refl

-- ---- a line of a run

pub run_fault : (messages : List ℕ) (r : ReplayValue) (course : Course) (should : Result ReplayValue ReplayFault) (road : Road)
    (e : ReplayFault) → Did messages should r course (Err e) road → Took (Err e) (should >>= λ r. Ok (Runs r)) road
run_fault messages r course should road (BadInput line reason) d = ap (λ x. x >>= λ r. Ok (Runs r)) d.0
run_fault messages r course should road (Broken b) d = ap (λ x. x >>= λ r. Ok (Runs r)) d
run_fault messages r course should road (Full count bytes) d = ap (λ x. x >>= λ r. Ok (Runs r)) d.0
run_fault messages r course should road LinkFault d = tt
run_fault messages r course should road WriteFault d = d
run_fault messages r course should road NoMemory d = tt

-- `?` hands the fault on
pub took_fault : (result : Result Schedule ReplayFault) (e : ReplayFault) (should : Result Stage ReplayFault) (road : Road) →
    IsErrAnd result (λ x. x ≡ e) → Took (Err e) should road → Took result should road
took_fault (Ok x) e should road h f = absurd h
took_fault (Err x) e should road h f = subst (λ y. Took (Err y) should road) (sym h) f

pub run_goes : (r : ReplayValue) (replay : Replay) (should : Result ReplayValue ReplayFault) (road : Road) (done : Unit {0}) →
    Did [] should r replay.course.value (Ok done) road → replay.ended ≡ false →
    Took (Ok (schedules.Runs replay)) (should >>= λ r. Ok (Runs r)) road
run_goes r replay should road done d going =
    (Runs d.0, ap (λ x. x >>= λ r. Ok (Runs r)) d.1, record { shown = d.2; going = going; goes = d.3 })

-- ---- a line at a stage

pub at_begins : (stage : Stage) (result : Result Schedule ReplayFault) (line : Line) (number : ℕ) (here there : Road) →
    IsAt schedules.Begins stage → Took result (first_line here number line) there →
    Took result (read_line (on_road here stage) [] number (Ok line)) there
at_begins (Begins road) result line number here there at t = t
at_begins (Opens o faulty road) result line number here there at t = absurd at
at_begins (Runs r) result line number here there at t = absurd at

pub at_opens : (stage : Stage) (old : Opened) (result : Result Schedule ReplayFault) (line : Line) (number : ℕ) (here there : Road) →
    IsAt (schedules.Opens old) stage →
    Took result (opening_line (opening_of old.opening) old.faulty.value here number line) there →
    Took result (read_line (on_road here stage) [] number (Ok line)) there
at_opens (Begins road) old result line number here there at t = absurd at
at_opens (Opens o faulty road) old result line number here there at t =
    subst (λ x. Took result (opening_line x faulty here number line) there) (sym at.0)
    (subst (λ x. Took result (opening_line (opening_of old.opening) x here number line) there) (sym at.1) t)
at_opens (Runs r) old result line number here there at t = absurd at

pub at_runs : (stage : Stage) (old : Replay) (result : Result Schedule ReplayFault) (line : Line) (number : ℕ) (here there : Road) →
    IsAt (schedules.Runs old) stage →
    ((r : ReplayValue) → Stands old.course.value r → Took result (line_step (along here r) line number >>= λ r. Ok (Runs r)) there) →
    Took result (read_line (on_road here stage) [] number (Ok line)) there
at_runs (Begins road) old result line number here there at t = absurd at
at_runs (Opens o faulty road) old result line number here there at t = absurd at
at_runs (Runs r) old result line number here there at t = t r at

-- ---- a line that says nothing

pub at_road : (schedule : Schedule) (stage : Stage) (road : Road) → IsAt schedule stage → IsAt schedule (on_road road stage)
at_road schedules.Begins (Begins other) road at = at
at_road schedules.Begins (Opens o faulty other) road at = absurd at
at_road schedules.Begins (Runs r) road at = absurd at
at_road (schedules.Opens o) (Begins other) road at = absurd at
at_road (schedules.Opens o) (Opens opening faulty other) road at = at
at_road (schedules.Opens o) (Runs r) road at = absurd at
at_road (schedules.Runs replay) (Begins other) road at = absurd at
at_road (schedules.Runs replay) (Opens opening faulty other) road at = absurd at
at_road (schedules.Runs replay) (Runs r) road at =
    record { cluster = at.cluster; names = at.names; shows = at.shows; journals = at.journals }

abbrev refuses : ReplayFault → Result Stage ReplayFault
refuses f = Err f

refused_by : (should : Result Stage ReplayFault) (road : Road) (n : ℕ) (reason : Reason) (f : ReplayFault) →
    should ≡ Err (BadInput n reason) →
    refuses (BadInput n reason) ≡ refuses f → Took (Err f) should road
refused_by should road n reason f is h =
    let same : BadInput n reason ≡ f = cc in subst (λ x. Took (Err x) should road) same is

wants : (should : Result Stage ReplayFault) (road : Road) (f : ReplayFault) → refuses NoMemory ≡ refuses f → Took (Err f) should road
wants should road f h = let same : NoMemory ≡ f = cc in subst (λ x. Took (Err x) should road) same tt

pub bad_took : (stage : Stage) (line : List ℕ) (number : ℕ) (e : LineFault) (f : ReplayFault) (road : Road) →
    read_line stage line number (Err e) ≡ Err f → Took (Err f) (read_line stage line number (Err e)) road
bad_took (Begins other) line number (line_fault.BadLine n reason) f road h = refused_by _ road _ _ f refl h
bad_took (Begins other) line number line_fault.NoMemory f road h = wants _ road f h
bad_took (Opens o faulty other) line number (line_fault.BadLine n reason) f road h = refused_by _ road _ _ f refl h
bad_took (Opens o faulty other) line number line_fault.NoMemory f road h = wants _ road f h
bad_took (Runs r) line number (line_fault.BadLine n reason) f road h = refused_by _ road _ _ f refl h
bad_took (Runs r) line number line_fault.NoMemory f road h = wants _ road f h

wanted : (stage : Stage) (line : List ℕ) (number : ℕ) (f : ReplayFault) (road : Road) (should : Result Stage ReplayFault) →
    read_line stage line number (Err line_fault.NoMemory) ≡ Err f → Took (Err f) should road
wanted (Begins other) line number f road should h = wants should road f h
wanted (Opens o faulty other) line number f road should h = wants should road f h
wanted (Runs r) line number f road should h = wants should road f h

pub refused_took : (stage : Stage) (line : List ℕ) (number : ℕ) (e : LineFault) (f : ReplayFault) (road : Road) →
    (e ≢ line_fault.NoMemory → line_at line number ≡ Err e) → read_line stage line number (Err e) ≡ Err f →
    Took (Err f) (stage_step stage line number) road
refused_took stage line number (line_fault.BadLine n reason) f road said h =
    subst (λ x. Took (Err f) (read_line stage line number x) road) (sym (said (λ i. absurd cc)))
    (bad_took stage line number (line_fault.BadLine n reason) f road h)
refused_took stage line number line_fault.NoMemory f road said h =
    wanted stage line number f road (stage_step stage line number) h

-- what its value does
pub value_took : (stage : Stage) (line : List ℕ) (number : ℕ) (value : Line) (result : Result Schedule ReplayFault) (road : Road) →
    line_at line number ≡ Ok value → Took result (read_line stage [] number (Ok value)) road →
    Took result (stage_step stage line number) road
value_took stage line number value result road said t =
    subst (λ x. Took result (read_line stage line number x) road) (sym said) (by stage t)
  where
    by : (stage : Stage) → Took result (read_line stage [] number (Ok value)) road →
        Took result (read_line stage line number (Ok value)) road
    by (Begins other) t = t
    by (Opens o faulty other) t = t
    by (Runs r) t = t

-- ---- the end

pub ends_opened : (stage : Stage) (old : Opened) (replay : Replay) → IsAt (schedules.Opens old) stage →
    ((road : Road) → Stands replay.course.value (first_replay (opening_of old.opening) old.faulty.value road)) →
    Ends (Ok replay) (ended stage)
ends_opened (Begins road) old replay at stands = absurd at
ends_opened (Opens o faulty road) old replay at stands = (
  first_replay o faulty road,
  refl,
  subst (λ x. Stands replay.course.value (first_replay x faulty road)) (sym at.0)
      (subst (λ x. Stands replay.course.value (first_replay (opening_of old.opening) x road)) (sym at.1) (stands road)),
)
ends_opened (Runs r) old replay at stands = absurd at

-- ---- a line's number

pub is_numbered : GrammarIsRead → (line : List ℕ) (number : ℕ) (value : Line) → line_at line number ≡ Ok value → number ≤ most_lines
is_numbered law line number value said = ((law line number value).0 said).2

pub on_ok : {A E P : Type 0} (result : Result A E) → P → OnOk result P
on_ok (Ok x) p = p
on_ok (Err e) p = tt
