use Rattle.std.proofs.Common.{ap, subst, sym, ◌∙◌}
use Rattle.journal_disk.specs.Disk.{DiskState, MayLeave}
use Rattle.journal_disk.proofs.HeldLaws.{may_be_left}
use Rattle.journal_disk.proofs.memory.held.Held.bytes.Goals as goal

pub returns-clause-left : goal.returns-clause-left
returns-clause-left c =
    let now = c.args.self.now in
    subst (MayLeave now.past)
    (sym (c.as_slice.ensures.value ∙ c.self.invariant.0 ∙ ap (λ (s : DiskState). s.contents) c.self.view_is))
    (may_be_left c.self.inside.revived c.self.inside.done.items now c.self.view_is)
