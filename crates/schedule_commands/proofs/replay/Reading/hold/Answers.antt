use Rattle.std.proofs.Common.{rules, [], ◌≡◌, ◌+◌, ◌<◌, ◌≤◌, ◌++◌, length, refl, ap, arith}
use Rattle.std.proofs.lemmas.List.{length-append}
use Rattle.schedule_replay.proofs.RoadLaws.{carries_as, carries_none}
use Rattle.schedule_replay.specs.Roads.{road_with}
use Rattle.line_fields.specs.Limits.{longest_line}
use Rattle.schedule_commands.specs.TextLines.{open_line}
use Rattle.schedule_commands.proofs.Behind.{goes_on, holds_long}
use Rattle.schedule_commands.proofs.replay.Reading.hold.Goals as goal

pub overflow_sub-len : goal.overflow_sub-len
overflow_sub-len g c = let k = c.requires.on.2 [] in omega (arith, c.len.ensures, ap length k.line, k.short)

pub returns-then-bytes-len-clause-reads : goal.returns-then-bytes-len-clause-reads
returns-then-bytes-len-clause-reads g c =
    carries_as c.args.carried c.end_line.ensures.reads
    (λ more reads gave later read b.
    let kept : length c.args.self.line.items ≡ length (open_line read) = ap length (b later).line in
    let long : longest_line < length (open_line read ++ c.args.bytes.now) =
    omega (arith, kept, length-append (open_line read) c.args.bytes.now) in
    holds_long (road_with c.args.carried ((gave ++ more) ++ later)) (road_with c.args.carried later) c.end_line.result read c.args.bytes.now
    c.requires.whole long (reads gave later read b))

pub returns-in-Ok-clause-reads : goal.returns-in-Ok-clause-reads
returns-in-Ok-clause-reads g c =
    let items : c.extend_from_slice.new.self.items ≡ c.args.self.line.items ++ c.args.bytes.now = search rules in
    carries_none c.args.carried refl
    (λ gave later read b.
    let kept : length c.args.self.line.items ≡ length (open_line read) = ap length (b later).line in
    let fits : length c.args.self.line.items + length c.args.bytes.now ≤ longest_line = omega (arith, kept, (b later).short) in
    goes_on c.args.carried c.args.self _ gave later read c.args.bytes.now (b later) c.requires.whole refl refl items fits)

pub returns-in-Err-clause-reads : goal.returns-in-Err-clause-reads
returns-in-Err-clause-reads g c = carries_none c.args.carried refl (λ gave later read b. tt)
