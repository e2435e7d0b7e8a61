use Rattle.std.proofs.Common.{◌++◌}
use Rattle.std.specs.Prelude.{option_map}
use Rattle.basil_types.specs.Shown.{transaction_of}
use Rattle.frame_views.specs.Walks.{signed_left}
use Rattle.premise_watch.specs.Marks.{as_marks, maybe_text}
use Rattle.premise_watch.specs.Parts.{maybe_signature}
use Rattle.premise_watch.proofs.LookLaws.{broke_first, broke_second, broke_third, broke_last, passed_all, err_told, if_err, on_ok}
use Rattle.premise_watch.proofs.watch.Watch.look.Goals as goal

pub returns-in_err-look_at-clause-breach : goal.returns-in_err-look_at-clause-breach
returns-in_err-look_at-clause-breach g c =
    err_told _ c.from_residual.result _ c.from_residual.ensures.1
    (broke_first (g.V.Verifier.accepted c.args.keys.now) c.args.faulty.now
    (maybe_text (option_map transaction_of c.args.parts.first) ++ maybe_signature c.args.parts.own)
    (maybe_text (option_map transaction_of c.args.parts.rival)) (as_marks (signed_left c.args.parts.signed))
    (maybe_text (option_map transaction_of c.args.parts.prepared) ++ maybe_signature c.args.parts.last)
    c.args.self.now c.args.self.now c.args.self.now _ c.in_err-look_at.ensures.breach)

pub returns-in_err-look_at_text-clause-breach : goal.returns-in_err-look_at_text-clause-breach
returns-in_err-look_at_text-clause-breach g c =
    err_told _ c.from_residual-in_err-look_at_text.result _ c.from_residual-in_err-look_at_text.ensures.1
    (broke_second (g.V.Verifier.accepted c.args.keys.now) c.args.faulty.now
    (maybe_text (option_map transaction_of c.args.parts.first) ++ maybe_signature c.args.parts.own)
    (maybe_text (option_map transaction_of c.args.parts.rival)) (as_marks (signed_left c.args.parts.signed))
    (maybe_text (option_map transaction_of c.args.parts.prepared) ++ maybe_signature c.args.parts.last)
    c.args.self.now c.look_at.new.self c.args.self.now _ c.in_ok-look_at.ensures.passed
    (c.in_err-look_at_text.ensures.breach (g.V.Verifier.accepted c.args.keys.now) c.args.faulty.now))

pub returns-in_err-refuse_forgeries-clause-breach : goal.returns-in_err-refuse_forgeries-clause-breach
returns-in_err-refuse_forgeries-clause-breach g c =
    err_told _ c.from_residual-in_err-refuse_forgeries.result _ c.from_residual-in_err-refuse_forgeries.ensures.1
    (broke_third (g.V.Verifier.accepted c.args.keys.now) c.args.faulty.now
    (maybe_text (option_map transaction_of c.args.parts.first) ++ maybe_signature c.args.parts.own)
    (maybe_text (option_map transaction_of c.args.parts.rival)) (as_marks (signed_left c.args.parts.signed))
    (maybe_text (option_map transaction_of c.args.parts.prepared) ++ maybe_signature c.args.parts.last)
    c.args.self.now c.look_at.new.self c.look_at_text.new.self _ c.in_ok-look_at.ensures.passed (c.in_ok-look_at_text.ensures.passed
    (g.V.Verifier.accepted c.args.keys.now) c.args.faulty.now) c.in_err-refuse_forgeries.ensures.breach)

pub returns-clause-passed : goal.returns-clause-passed
returns-clause-passed g c =
    on_ok _ _ c.look_at-2.result
    (passed_all (g.V.Verifier.accepted c.args.keys.now) c.args.faulty.now
    (maybe_text (option_map transaction_of c.args.parts.first) ++ maybe_signature c.args.parts.own)
    (maybe_text (option_map transaction_of c.args.parts.rival)) (as_marks (signed_left c.args.parts.signed))
    (maybe_text (option_map transaction_of c.args.parts.prepared) ++ maybe_signature c.args.parts.last)
    c.args.self.now c.look_at.new.self c.look_at_text.new.self c.look_at-2.new.self c.in_ok-look_at.ensures.passed
    (c.in_ok-look_at_text.ensures.passed (g.V.Verifier.accepted c.args.keys.now) c.args.faulty.now)
    c.in_ok-refuse_forgeries.ensures.passed) c.look_at-2.ensures.passed

pub returns-clause-breach : goal.returns-clause-breach
returns-clause-breach g c =
    if_err _ _ c.look_at-2.result
    (λ fault. broke_last (g.V.Verifier.accepted c.args.keys.now) c.args.faulty.now
    (maybe_text (option_map transaction_of c.args.parts.first) ++ maybe_signature c.args.parts.own)
    (maybe_text (option_map transaction_of c.args.parts.rival)) (as_marks (signed_left c.args.parts.signed))
    (maybe_text (option_map transaction_of c.args.parts.prepared) ++ maybe_signature c.args.parts.last)
    c.args.self.now c.look_at.new.self c.look_at_text.new.self fault c.in_ok-look_at.ensures.passed (c.in_ok-look_at_text.ensures.passed
    (g.V.Verifier.accepted c.args.keys.now) c.args.faulty.now) c.in_ok-refuse_forgeries.ensures.passed) c.look_at-2.ensures.breach
