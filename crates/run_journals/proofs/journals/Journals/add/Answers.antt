use Rattle.std.proofs.Common.{◌++◌, ◌∷◌, [], subst, sym}
use Rattle.run_journals.specs.Kept.{IsOne}
use Rattle.run_journals.specs.Pairs.{Pairs}
use Rattle.run_journals.proofs.PairLaws.{pairs-push}
use Rattle.run_journals.proofs.journals.Journals.add.Goals as goal

pub returns-clause-added : goal.returns-clause-added
returns-clause-added g c who begun values value h one =
    subst (λ l. Pairs (IsOne who begun) l (values ++ value ∷ [])) (sym c.in_ok-push.ensures.items)
    (pairs-push (IsOne who begun) c.args.self.now.journals.items values c.args.journal value h one)
