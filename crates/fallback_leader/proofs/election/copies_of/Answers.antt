use Rattle.std.proofs.Common.{◌≡◌, ap, subst, ◌∙◌}
use Rattle.std.specs.Prelude.{IfOk}
use Rattle.fallback_leader.specs.Elections.{by_replica}
use Rattle.fallback_leader.specs.Index.{words_at}
use Rattle.fallback_leader.proofs.IndexLaws.{words_are}
use Rattle.fallback_leader.proofs.election.copies_of.Goals as goal

pub returns : goal.returns
returns c =
    subst (λ ws. IfOk c.copies_at.result (λ copies. copies.entries ≡ by_replica ws))
    (ap (words_at c.args.kept.now) c.places.ensures ∙ words_are c.args.kept.now c.args.index.now c.args.id.now c.args.view c.requires)
    c.copies_at.ensures
