use Rattle.std.proofs.Common.{◌≡◌, ◌<◌, List, ℕ, [], ◌∷◌, ◌++◌, length, refl, sym, subst, ◌∙◌, arith}
use Rattle.std.specs.Prelude.{Result}
use Rattle.std.proofs.lemmas.Grind.{common_steps}
use Rattle.schedule_replay.proofs.RoadLaws.{carries_as, carries_none}
use Rattle.schedule_replay.specs.Outcomes.{replay_on}
use Rattle.schedule_replay.specs.Replays.{ReplayValue}
use Rattle.schedule_replay.specs.Roads.{road_with}
use Rattle.schedule_replay.specs.Schedules.{Ends}
use Rattle.schedule_replay.specs.Shown.{is_link_fault}
use Rattle.report_lines.specs.declared.fault.ReplayFault.{ReplayFault}
use Rattle.schedule_commands.specs.Behind.{Closes}
use Rattle.schedule_commands.specs.TextLines.{open_line}
use Rattle.schedule_commands.proofs.Behind.{closes_so, ends_faulty, ends_unlinked, nothing_more, replay_ends, replay_is, used_well}
use Rattle.schedule_commands.proofs.LineEnds.{fresh_line}
use Rattle.schedule_commands.proofs.replay.Reading.end.Goals as goal

pub end-requires : goal.end-requires
end-requires g c = (c.requires.2 []).going

pub returns-then-is_empty-clause-ends : goal.returns-then-is_empty-clause-ends
returns-then-is_empty-clause-ends g c =
    carries_none c.args.carried refl
    (λ gave later read b.
    let whole = road_with c.args.carried (gave ++ later) in
    let k = b later in
    let empty : c.args.self.line.items ≡ [] = grind (arith, common_steps) in
    let none : open_line read ≡ [] = sym k.line ∙ empty in
    let same = sym (replay_is whole read k.stage k.ran none) in
    subst (λ road. Closes c.end.result (replay_on road read)) (sym (nothing_more c.args.carried gave later))
    (closes_so c.end.result (replay_on whole read)
    (subst (λ (r : Result ReplayValue ReplayFault). Ends c.end.result r) same (c.end.ensures.ends k.stage k.shown))))

pub returns-then-is_empty-clause-links : goal.returns-then-is_empty-clause-links
returns-then-is_empty-clause-links g c =
    let k = c.requires.2 [] in
    used_well c.args.carried c.args.links.now c.args.links.now (g.L.Links.faults c.args.links.now) (g.L.Links.faults c.args.links.now)
    (is_link_fault c.end.result) (ends_unlinked c.end.result _ (c.end.ensures.ends k.stage k.shown)) (λ h. refl) refl

pub returns-in-Ok-clause-links : goal.returns-in-Ok-clause-links
returns-in-Ok-clause-links g c =
    let k = c.in-Ok.ensures.reads.should c.requires.0 [] c.requires.1 c.requires.2 in
    used_well c.args.carried c.args.links.now c.end_line.new.links (g.L.Links.faults c.args.links.now)
    (g.L.Links.faults c.end_line.new.links) (is_link_fault c.end-in-Ok.result)
    (ends_unlinked c.end-in-Ok.result _ (c.end-in-Ok.ensures.ends k.stage k.shown)) c.in-Ok.ensures.links.unused
    (c.in-Ok.ensures.links.kept refl)

pub end-requires-in-Ok : goal.end-requires-in-Ok
end-requires-in-Ok g c = (c.in-Ok.ensures.reads.should c.requires.0 [] c.requires.1 c.requires.2).going

pub returns-in-Ok-clause-ends : goal.returns-in-Ok-clause-ends
returns-in-Ok-clause-ends g c =
    let filled : 0 < length c.args.self.line.items = grind (arith, common_steps) in
    carries_as c.args.carried c.in-Ok.ensures.reads
    (λ more reads gave later read b.
    let whole = road_with c.args.carried ((gave ++ more) ++ later) in
    let k = reads gave later read b in
    let some : 0 < length (open_line read) = subst (λ (x : List ℕ). 0 < length x) (b later).line filled in
    let same = sym (replay_is whole (read ++ 10 ∷ []) k.stage k.ran (fresh_line read [] refl)) ∙ replay_ends whole read some in
    closes_so c.end-in-Ok.result (replay_on whole read)
    (subst (λ (r : Result ReplayValue ReplayFault). Ends c.end-in-Ok.result r) same (c.end-in-Ok.ensures.ends k.stage k.shown)))

pub returns-in-Err-clause-ends : goal.returns-in-Err-clause-ends
returns-in-Err-clause-ends g c =
    let filled : 0 < length c.args.self.line.items = grind (arith, common_steps) in
    carries_as c.args.carried c.in-Err.ensures.reads
    (λ more reads gave later read b.
    let some : 0 < length (open_line read) = subst (λ (x : List ℕ). 0 < length x) (b later).line filled in
    ends_faulty (road_with c.args.carried ((gave ++ more) ++ later)) (road_with c.args.carried later) read c.in-Err.fault some
    (reads gave later read b))
