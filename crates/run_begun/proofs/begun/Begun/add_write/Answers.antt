use Rattle.run_begun.proofs.PartLaws.{with_write}
use Rattle.run_begun.proofs.begun.Begun.add_write.Goals as goal

pub invariant_of-self-inside : goal.invariant_of-self-inside
invariant_of-self-inside c =
    let b = c.self.inside in
    let has =
    with_write c.put_in.result c.args.write b.reads.items b.writes.items c.put_in.new.items.items c.put_in.ensures.put
    c.put_in.ensures.as_before c.requires (record { sized = b.sized; ascend = b.ascend }) in
    (b.someone, (has.sized, (has.ascend, tt)))
