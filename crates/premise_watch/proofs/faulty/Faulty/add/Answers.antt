use Rattle.std.proofs.Common.{sym, subst, ◌∙◌, arith}
use Rattle.premise_watch.specs.Parties.{AreCounted}
use Rattle.premise_watch.proofs.RoomLaws.{seventh, counted_with}
use Rattle.premise_watch.proofs.faulty.Faulty.add.Goals as goal

pub push-requires : goal.push-requires
push-requires c =
    let few = sym c.is_too_many.ensures.answer ∙ c.if-is_too_many.false in
    record {
      numbered = c.is_too_many.ensures.numbered;
      absent = sym c.has.ensures ∙ c.if-has.false;
      few = seventh c.args.cluster.now.f c.args.self.now c.args.party c.is_too_many.ensures.few few;
    }

pub returns-clause-few : goal.returns-clause-few
returns-clause-few c h =
    let few = sym c.is_too_many.ensures.answer ∙ c.if-is_too_many.false in
    subst (AreCounted c.args.cluster.now.f) (sym c.push.ensures)
    (counted_with c.args.cluster.now.f c.args.cluster.now.f (omega arith) c.args.self.now c.args.party few h)
