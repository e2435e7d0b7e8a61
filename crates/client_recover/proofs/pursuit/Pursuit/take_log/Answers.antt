use Rattle.std.proofs.Common.{refl, sym, ◌∙◌}
use Rattle.client_recover.proofs.TakeLaws.{same_itself, skips_ended}
use Rattle.client_recover.proofs.pursuit.Pursuit.take_log.Goals as goal

pub returns-then-is_decided-clause-taken : goal.returns-then-is_decided-clause-taken
returns-then-is_decided-clause-taken c =
    skips_ended c.args.self.now _ _ (record { transaction = refl; signature = refl; cluster = refl }) refl
    (same_itself c.args.self.now.logs) refl refl (sym c.is_decided.ensures ∙ c.if-is_decided.true)
