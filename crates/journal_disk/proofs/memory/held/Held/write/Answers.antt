use Rattle.std.proofs.Common.{◌≡◌, ◌+◌, ◌++◌, [], ◌∷◌, List, ℕ, length, ap, subst, sym, ◌∙◌}
use Rattle.journal_disk.specs.declared.memory.held.Done.{Done}
use Rattle.journal_disk.specs.declared.memory.held.Done.TheVariants.{Write}
use Rattle.journal_disk.specs.Disk.{DiskState}
use Rattle.journal_disk.specs.Contents.{padded, put_over, writes}
use Rattle.journal_disk.specs.Held.{IsWithin, disk_of}
use Rattle.journal_disk.proofs.HeldLaws.{done_more, within_more}
use Rattle.journal_disk.proofs.memory.held.Held.write.Goals as goal

pub invariant_of-self-2 : goal.invariant_of-self-2
invariant_of-self-2 c =
    let r = c.self.inside.revived in
    let old = c.self.inside.done.items in
    let d : Done = Write c.args.at c.args.bytes in
    let done : c.push_reserved.new.self.items ≡ old ++ d ∷ [] =
    c.push_reserved.ensures.items ∙ ap (λ (xs : List Done). xs ++ d ∷ []) c.reserve.ensures.items in (
      c.in_ok-write_over.ensures.written
          ∙ ap (λ (ys : List ℕ). put_over c.args.at ys (padded (c.args.at + length ys) c.self.inside.bytes.items)) c.as_slice.ensures
          ∙ ap (λ (xs : List ℕ). put_over c.args.at c.args.bytes (padded (c.args.at + length c.args.bytes) xs)) c.self.invariant.0
          ∙ sym (ap (λ (s : DiskState). s.contents) (ap (disk_of r) done ∙ done_more r old d c.self.invariant.1)),
      subst (IsWithin r) (sym done) (within_more r old d c.self.invariant.1),
    )

pub returns-clause-written : goal.returns-clause-written
returns-clause-written c =
    let r = c.self.inside.revived in
    let old = c.self.inside.done.items in
    let d : Done = Write c.args.at c.args.bytes in
    ap (disk_of r) (c.push_reserved.ensures.items ∙ ap (λ (xs : List Done). xs ++ d ∷ []) c.reserve.ensures.items)
    ∙ done_more r old d c.self.invariant.1
    ∙ ap (writes c.args.at c.args.bytes) c.self.view_is
