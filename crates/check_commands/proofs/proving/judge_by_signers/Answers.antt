use Rattle.std.proofs.Common.{◌∙◌}
use Rattle.std.proofs.lemmas.Result.{IfOk-weaker}
use Rattle.basil_types.specs.Shown.{transaction_of}
use Rattle.frame_views.specs.Shown.{certificate_of}
use Rattle.check_commands.proofs.NeedLaws.{needs_signers}
use Rattle.check_commands.proofs.proving.judge_by_signers.Goals as goal

pub returns : goal.returns
returns c =
    let listed = c.deref.ensures.value ∙ c.in_ok-parties.ensures in
    let same =
    needs_signers _ c.args.cluster.now c.args.set (transaction_of c.args.t) (certificate_of c.args.c.now) _ listed c.in_ok-keys.ensures in
    IfOk-weaker c.judge_by.result _ _ (λ _ told. told ∙ same) c.judge_by.ensures
