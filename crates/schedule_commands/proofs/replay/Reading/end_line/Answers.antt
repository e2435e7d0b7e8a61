use Rattle.std.proofs.Common.{rules, ◌≡◌, List, ℕ, [], ◌∷◌, ◌++◌, Err, Ok, refl, ap, ◌∙◌}
use Rattle.schedule_replay.proofs.RoadLaws.{carries_as, carries_none}
use Rattle.schedule_replay.specs.Roads.{road_with}
use Rattle.schedule_replay.specs.Stages.{stage_step}
use Rattle.schedule_commands.proofs.Behind.{faults, later_on, line_ended, ran_on, took_here}
use Rattle.schedule_commands.proofs.replay.Reading.end_line.Goals as goal

pub line-requires : goal.line-requires
line-requires g c = (c.requires.on.2 []).going

pub returns-then-is_err-clause-reads : goal.returns-then-is_err-clause-reads
returns-then-is_err-clause-reads g c = carries_none c.args.carried refl (λ gave later read b. tt)

pub returns-in-Ok-clause-reads : goal.returns-in-Ok-clause-reads
returns-in-Ok-clause-reads g c =
    let items : c.extend_from_slice.new.self.items ≡ c.args.self.line.items ++ c.args.last.now = search rules in
    carries_as c.args.carried c.in-Ok.ensures.took
    (λ more took gave later read b.
    let here = road_with c.args.carried (more ++ later) in
    let left = road_with c.args.carried later in
    let k = later_on c.args.carried c.args.self gave more later read b in
    let t = took_here c.args.self.schedule (Ok c.in-Ok.schedule) (λ stage. stage_step stage c.deref.result.now c.args.self.number) k.stage
    here left k.goes (took k.stage later k.shown) in
    line_ended (road_with c.args.carried ((gave ++ more) ++ later)) c.args.self _ here left read c.args.last.now c.deref.result.now k t.0
    (c.deref.ensures.value ∙ items) c.requires.whole t.1 t.2.goes t.2.shown t.2.going refl c.clear.ensures.items)

pub returns-in-Err-clause-reads : goal.returns-in-Err-clause-reads
returns-in-Err-clause-reads g c =
    let items : c.extend_from_slice.new.self.items ≡ c.args.self.line.items ++ c.args.last.now = search rules in
    carries_as c.args.carried c.in-Err.ensures.took
    (λ more took gave later read b.
    let whole = road_with c.args.carried ((gave ++ more) ++ later) in
    let here = road_with c.args.carried (more ++ later) in
    let left = road_with c.args.carried later in
    let k = later_on c.args.carried c.args.self gave more later read b in
    let step = stage_step k.stage c.deref.result.now c.args.self.number in
    faults whole left (read ++ (c.args.last.now ++ 10 ∷ [])) step
    (ran_on whole read c.args.last.now c.deref.result.now c.args.self.number k.stage step k.ran k.number
    (c.deref.ensures.value ∙ items ∙ ap (λ (x : List ℕ). x ++ c.args.last.now) k.line) c.requires.whole refl)
    c.in-Err.fault
    (took_here c.args.self.schedule (Err c.in-Err.fault) (λ stage. stage_step stage c.deref.result.now c.args.self.number) k.stage here left
    k.goes (took k.stage later k.shown)))
