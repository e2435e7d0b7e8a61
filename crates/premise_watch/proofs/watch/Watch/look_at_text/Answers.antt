use Rattle.std.proofs.Common.{List, refl, sym, subst}
use Rattle.std.specs.Prelude.{IfErr, OnOk, option_map}
use Rattle.basil_types.specs.Shown.{transaction_of}
use Rattle.basil_types.specs.declared.party.Party.{Party}
use Rattle.certificates.specs.Accepted.{Accepted}
use Rattle.premise_watch.specs.Looks.{Passes, Breaks}
use Rattle.premise_watch.specs.Marks.{maybe_text}
use Rattle.premise_watch.proofs.LookLaws.{text_passed, text_broke, if_err, on_both}
use Rattle.premise_watch.proofs.watch.Watch.look_at_text.Goals as goal

pub returns-in-Some-clause-passed : goal.returns-in-Some-clause-passed
returns-in-Some-clause-passed c =
    subst
    (λ o. OnOk c.take.result ((A : Accepted) (faulty : List Party)
    → Passes A faulty c.args.self.now (maybe_text (option_map transaction_of o)) (record c.args.self.now { texts = c.take.new.self })))
    (sym c.in-Some.is)
    (on_both _ _ _ c.take.result (text_passed c.args.self.now (record c.args.self.now { texts = c.take.new.self })
    (transaction_of c.in-Some.transaction) refl) c.take.ensures.texts c.take.ensures.apart)

pub returns-in-Some-clause-breach : goal.returns-in-Some-clause-breach
returns-in-Some-clause-breach c =
    subst
    (λ o. IfErr c.take.result (λ fault. (A : Accepted) (faulty : List Party)
    → Breaks A faulty c.args.self.now (maybe_text (option_map transaction_of o)) fault)) (sym c.in-Some.is)
    (if_err _ _ c.take.result (text_broke c.args.self.now (transaction_of c.in-Some.transaction)) c.take.ensures.breach)
