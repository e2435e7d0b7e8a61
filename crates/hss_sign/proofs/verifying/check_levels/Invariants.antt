use Rattle.std.proofs.Common.{◌≡◌, ◌-◌}
use Rattle.hss_sign.specs.Verifying.{refusal_from}
use Rattle.hss_sign.proofs.verifying.check_levels.Given as goal

abbrev pub invariant-loop-level : goal.invariant-loop-level
invariant-loop-level l =
    refusal_from l.below 0 l.fn.first l.message l.signature ≡ refusal_from (l.below - l.level) l.level l.key l.message l.rest
