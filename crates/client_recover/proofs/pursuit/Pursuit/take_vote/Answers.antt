use Rattle.std.proofs.Common.{refl, sym, ◌∙◌, arith}
use Rattle.frame_views.specs.Shown.{voted_of}
use Rattle.client_recover.proofs.TakeLaws.{same_itself, skips_ended, skips_vote}
use Rattle.client_recover.proofs.pursuit.Pursuit.take_vote.Goals as goal

pub has_voted-requires : goal.has_voted-requires
has_voted-requires c = omega (arith, c.requires.replica, c.n.ensures.in_range.faulty)

pub returns-then-is_decided-clause-taken : goal.returns-then-is_decided-clause-taken
returns-then-is_decided-clause-taken c =
    skips_ended c.args.self.now _ _ (record { transaction = refl; signature = refl; cluster = refl }) refl
    (same_itself c.args.self.now.logs) refl refl (sym c.is_decided.ensures ∙ c.if-is_decided.true)

pub returns-then-has_voted-clause-taken : goal.returns-then-has_voted-clause-taken
returns-then-has_voted-clause-taken c =
    let v = voted_of c.args.vote.now in
    skips_vote c.args.self.now _ v (record { transaction = refl; signature = refl; cluster = refl }) refl
    (same_itself c.args.self.now.logs) refl refl (sym c.is_decided.ensures ∙ c.if-is_decided.false)
    (sym c.has_voted.ensures ∙ c.if-has_voted.true)
