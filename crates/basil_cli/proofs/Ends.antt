-- What holds of the end of each schedule.
use Rattle.std.proofs.Common.{◌≡◌, ◌⊎◌, ℕ, List, [], ◌++◌, Bool, false, Option, Some, Result, Ok, Err, inl, inr, refl, ap, subst}
use Rattle.basil_types.specs.Causes.{TookPrefix}
use Rattle.basil_types.specs.Links.{LinkState}
use Rattle.basil_types.specs.Steps.{◌>>=◌}
use Rattle.schedule_replay.proofs.RoadLaws.{carries_as}
use Rattle.schedule_replay.specs.Laws.{BreaksAreReal, ReportsAreSafe}
use Rattle.premise_watch.specs.declared.broken.Broken.{Broken}
use Rattle.schedule_replay.specs.Outcomes.{outcome_on, replay_of}
use Rattle.schedule_replay.specs.Replays.{ReplayValue}
use Rattle.schedule_replay.specs.Reports.{report}
use Rattle.schedule_replay.specs.Roads.{Direct, Road, road_with}
use Rattle.report_lines.specs.declared.fault.ReplayFault.{ReplayFault}
use Rattle.report_lines.specs.declared.fault.ReplayFault.TheVariants as fault
use Rattle.command_ends.specs.Answers.{Answers, Counts, Tells, TookFault, TookSome}
use Rattle.basil_cli.specs.ScheduleEnds.{IsBrokenEnd, LoadedInPart, LoadedSafely, WroteSafely, WroteSome}
use Rattle.command_input.specs.Commands.{reads}
use Rattle.command_input.proofs.SourceLaws.{of_map}
use Rattle.schedule_commands.specs.Roads.{ByRoads}
use Rattle.basil_cli.specs.Linked.{ByArguments}
use Rattle.command_input.specs.Reading.{OfBytes}
use Rattle.command_ends.specs.Outcome.{text_of}
use Rattle.schedule_commands.specs.Schedules.{load_text, loaded, replayed}
use Rattle.basil_cli.specs.Output.{output_of}
use Rattle.command_input.specs.declared.command.Command.{Command}
use Rattle.command_input.specs.declared.command.Command.TheVariants.{Replay, Load}
use Rattle.command_input.specs.declared.command.LoadSize.{LoadSize}
use Rattle.command_ends.specs.declared.status.Status.{Status}
use Rattle.command_ends.specs.declared.status.Status.TheVariants as ends

-- ---- reports

module _ (road : Road) (bytes : List ℕ) (old new : Option (List ℕ)) where
  told_safe : ReportsAreSafe → Tells ends.Done (replayed (outcome_on road bytes)) old new → WroteSafely road bytes old new
  told_safe law t = by (outcome_on road bytes) refl t
    where
      by : (o : Result (List ℕ) ReplayFault) → outcome_on road bytes ≡ o → Tells ends.Done (replayed o) old new →
          WroteSafely road bytes old new
      by (Ok text) e t = record { text = text; safe = law road bytes text e; written = t.text }
      by (Err (fault.BadInput line reason)) e t = absurd (let told = t.told in cc)
      by (Err (fault.Broken b)) e t = absurd (let told = t.told in cc)
      by (Err (fault.Full messages size)) e t = absurd (let told = t.told in cc)
      by (Err other) e t = absurd (let told = t.told in cc)

  told_some : ReportsAreSafe → (counts : Counts) → TookSome (replayed (outcome_on road bytes)) counts old new →
      WroteSome (outcome_on road bytes) road bytes old new ⊎ TookFault counts old new
  told_some law counts t =
      elim t [
        | inl prefix ↦ inl (by (outcome_on road bytes) refl prefix)
        | inr fault ↦ inr fault
      ]
    where
      by : (o : Result (List ℕ) ReplayFault) → outcome_on road bytes ≡ o → TookPrefix old new (text_of (replayed o)) →
          WroteSome o road bytes old new
      by (Ok text) e t = (law road bytes text e, t)
      by (Err f) e t = tt

  told_broken : BreaksAreReal → Tells ends.Broken (replayed (outcome_on road bytes)) old new → IsBrokenEnd road bytes old new
  told_broken law t = by (outcome_on road bytes) refl t
    where
      by : (o : Result (List ℕ) ReplayFault) → outcome_on road bytes ≡ o → Tells ends.Broken (replayed o) old new →
          IsBrokenEnd road bytes old new
      by (Ok text) e t = absurd (let told = t.told in cc)
      by (Err (fault.BadInput line reason)) e t = absurd (let told = t.told in cc)
      by (Err (fault.Broken b)) e t = record { broken = b; leads = e; text = t.text; real = law road bytes b e }
      by (Err (fault.Full messages size)) e t = absurd (let told = t.told in cc)
      by (Err other) e t = absurd (let told = t.told in cc)

-- ---- what a command answers to the arguments of `replay` and `loopback`

module _ (status : Status) (o : Option Command) (command : Command) (counts : Counts) (old new : Option (List ℕ))
    (told tells : Option LinkState) (left : Option (List ℕ)) (said : o ≡ Some command)
    (answers : OfBytes left
    (λ bytes. ByArguments (Some command) told tells (λ coming. Answers status (output_of command coming bytes) counts old new))) where
  -- what follows from the answer to a schedule follows by every road
  as_replay : (carried : Bool) (other : Status) (So : Road → List ℕ → Type 0) → o ≡ Some (Replay carried) → status ≡ other →
      ((road : Road) (bytes : List ℕ) → Answers other (replayed (outcome_on road bytes)) counts old new → So road bytes) →
      OfBytes left (λ bytes. ByRoads carried told tells (λ road. So road bytes))
  as_replay carried other So e f turn =
      let same : command ≡ Replay carried = cc in
      of_map left
      (λ bytes. ByArguments (Some command) told tells (λ coming. Answers status (output_of command coming bytes) counts old new))
      (λ bytes. ByRoads carried told tells (λ road. So road bytes))
      (λ bytes a.
      carries_as carried
      (subst (λ (x : Command). ByArguments (Some x) told tells (λ coming. Answers status (output_of x coming bytes) counts old new)) same a)
      (λ gave so later.
      let road = road_with carried (gave ++ later) in
      turn road bytes (subst (λ (x : Status). Answers x (replayed (outcome_on road bytes)) counts old new) f (so later))))
      answers

  pub safe_ends : ReportsAreSafe → (carried : Bool) → o ≡ Some (Replay carried) → status ≡ ends.Done →
      OfBytes left (λ bytes. ByRoads carried told tells (λ road. WroteSafely road bytes old new))
  safe_ends law carried e f =
      as_replay carried ends.Done (λ road bytes. WroteSafely road bytes old new) e f
      (λ road bytes t. told_safe road bytes old new law t)

  pub safe_in_part : ReportsAreSafe → (carried : Bool) → o ≡ Some (Replay carried) → status ≡ ends.WriteFault →
      OfBytes left (λ bytes. ByRoads carried told tells (λ road.
      WroteSome (outcome_on road bytes) road bytes old new ⊎ TookFault counts old new))
  safe_in_part law carried e f =
      as_replay carried ends.WriteFault (λ road bytes. WroteSome (outcome_on road bytes) road bytes old new ⊎ TookFault counts old new)
      e f (λ road bytes t. told_some road bytes old new law counts t)

  pub broken_ends : BreaksAreReal → (carried : Bool) → o ≡ Some (Replay carried) → status ≡ ends.Broken →
      OfBytes left (λ bytes. ByRoads carried told tells (λ road. IsBrokenEnd road bytes old new))
  broken_ends law carried e f =
      as_replay carried ends.Broken (λ road bytes. IsBrokenEnd road bytes old new) e f
      (λ road bytes t. told_broken road bytes old new law t)

-- ---- what a command answers to the arguments of `load`

module _ (status : Status) (o : Option Command) (command : Command) (counts : Counts) (old new : Option (List ℕ)) (said : o ≡ Some command)
    (answers : reads command ≡ false → Answers status (output_of command [] []) counts old new) where
  as_load : (size : LoadSize) (other : Status) → o ≡ Some (Load size) → status ≡ other →
      Answers other (loaded (replay_of (load_text size))) counts old new
  as_load size other e f =
      let same : command ≡ Load size = cc in
      subst (λ (x : Status). Answers x (loaded (replay_of (load_text size))) counts old new) f
      (subst (λ (x : Command). reads x ≡ false → Answers status (output_of x [] []) counts old new) same answers refl)

  pub load_ends : ReportsAreSafe → (size : LoadSize) → o ≡ Some (Load size) → status ≡ ends.Done → LoadedSafely size old new
  load_ends law size e f = by (replay_of (load_text size)) refl (as_load size ends.Done e f)
    where
      by : (r : Result ReplayValue ReplayFault) → replay_of (load_text size) ≡ r → Tells ends.Done (loaded r) old new →
          LoadedSafely size old new
      by (Ok replay) e t = record {
        replay = replay;
        safe = law Direct (load_text size) (report replay) (ap (λ (x : Result ReplayValue ReplayFault). x >>= λ r. Ok (report r)) e);
        replayed = e;
        written = t.text;
      }
      by (Err (fault.BadInput line reason)) e t = absurd (let told = t.told in cc)
      by (Err (fault.Broken b)) e t = absurd (let told = t.told in cc)
      by (Err (fault.Full messages size)) e t = absurd (let told = t.told in cc)
      by (Err other) e t = absurd (let told = t.told in cc)

  pub load_in_part : ReportsAreSafe → (size : LoadSize) → o ≡ Some (Load size) → status ≡ ends.WriteFault →
      LoadedInPart (replay_of (load_text size)) size old new ⊎ TookFault counts old new
  load_in_part law size e f = by (as_load size ends.WriteFault e f)
    where
      some : (r : Result ReplayValue ReplayFault) → replay_of (load_text size) ≡ r → TookPrefix old new (text_of (loaded r)) →
          LoadedInPart r size old new
      some (Ok replay) e t = (
        law Direct (load_text size) (report replay) (ap (λ (x : Result ReplayValue ReplayFault). x >>= λ r. Ok (report r)) e),
        t,
      )
      some (Err refused) e t = tt

      by : TookSome (loaded (replay_of (load_text size))) counts old new →
          LoadedInPart (replay_of (load_text size)) size old new ⊎ TookFault counts old new
      by (inl prefix) = inl (some (replay_of (load_text size)) refl prefix)
      by (inr fault) = inr fault

  pub load_breaks : BreaksAreReal → (size : LoadSize) → o ≡ Some (Load size) → status ≡ ends.Broken →
      IsBrokenEnd Direct (load_text size) old new
  load_breaks law size e f = by (replay_of (load_text size)) refl (as_load size ends.Broken e f)
    where
      leads : (b : Broken) → replay_of (load_text size) ≡ Err (fault.Broken b) →
          outcome_on Direct (load_text size) ≡ Err (fault.Broken b)
      leads b e = ap (λ (x : Result ReplayValue ReplayFault). x >>= λ r. Ok (report r)) e

      by : (r : Result ReplayValue ReplayFault) → replay_of (load_text size) ≡ r → Tells ends.Broken (loaded r) old new →
          IsBrokenEnd Direct (load_text size) old new
      by (Ok replay) e t = absurd (let told = t.told in cc)
      by (Err (fault.BadInput line reason)) e t = absurd (let told = t.told in cc)
      by (Err (fault.Broken b)) e t = record {
        broken = b;
        leads = leads b e;
        text = t.text;
        real = law Direct (load_text size) b (leads b e);
      }
      by (Err (fault.Full messages size)) e t = absurd (let told = t.told in cc)
      by (Err other) e t = absurd (let told = t.told in cc)
