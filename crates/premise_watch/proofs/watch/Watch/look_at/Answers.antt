use Rattle.std.specs.Prelude.{option_map}
use Rattle.basil_types.specs.Shown.{transaction_of}
use Rattle.premise_watch.specs.Marks.{maybe_text}
use Rattle.premise_watch.specs.Parts.{maybe_signature}
use Rattle.premise_watch.proofs.LookLaws.{passes_both, breaks_first, breaks_second, err_told, if_err, on_ok}
use Rattle.premise_watch.proofs.watch.Watch.look_at.Goals as goal

pub returns-in_err-look_at_text-clause-breach : goal.returns-in_err-look_at_text-clause-breach
returns-in_err-look_at_text-clause-breach g c =
    err_told _ c.from_residual.result _ c.from_residual.ensures.1
    (breaks_first (g.V.Verifier.accepted c.args.keys.now) c.args.faulty.now
    (maybe_text (option_map transaction_of c.args.transaction)) (maybe_signature c.args.signature) c.args.self.now _
    (c.in_err-look_at_text.ensures.breach (g.V.Verifier.accepted c.args.keys.now) c.args.faulty.now))

pub returns-clause-passed : goal.returns-clause-passed
returns-clause-passed g c =
    on_ok _ _ c.look_at_signature.result
    (passes_both (g.V.Verifier.accepted c.args.keys.now) c.args.faulty.now (maybe_text (option_map transaction_of c.args.transaction))
    (maybe_signature c.args.signature) c.args.self.now c.look_at_text.new.self c.look_at_text.new.self
    (c.in_ok-look_at_text.ensures.passed (g.V.Verifier.accepted c.args.keys.now) c.args.faulty.now)) c.look_at_signature.ensures.passed

pub returns-clause-breach : goal.returns-clause-breach
returns-clause-breach g c =
    if_err _ _ c.look_at_signature.result
    (λ fault. breaks_second (g.V.Verifier.accepted c.args.keys.now) c.args.faulty.now (maybe_text
    (option_map transaction_of c.args.transaction)) (maybe_signature c.args.signature) c.args.self.now c.look_at_text.new.self fault
    (c.in_ok-look_at_text.ensures.passed (g.V.Verifier.accepted c.args.keys.now) c.args.faulty.now)) c.look_at_signature.ensures.breach
