use Rattle.std.proofs.Common.{rules, subst, ◌≡◌, ap, ◌∙◌, sym, arith, length, ℕ}
use Rattle.journal_disk.specs.Disk.{DiskState, MayLeave}
use Rattle.journal_disk.specs.Contents.{begins}
use Rattle.journal_disk.specs.Held.{disk_of}
use Rattle.std.specs.Prelude.{Some}
use Rattle.journal_disk.proofs.HeldLaws.{begun_anew, may_be_left}
use Rattle.journal_disk.proofs.memory.held.Held.revive.Goals as goal

pub invariant_of-self : goal.invariant_of-self
invariant_of-self c =
    let done = c.self.inside.done.items in
    let many : length done ≡ c.len.result = search rules in (
      c.self.invariant.0
          ∙ sym (ap (λ (s : DiskState). s.contents) (begun_anew c.self.inside.revived done))
          ∙ ap (λ n. (disk_of (Some n) done).contents) many,
      omega arith,
    )

pub returns-clause-exact : goal.returns-clause-exact
returns-clause-exact c =
    let done = c.self.inside.done.items in
    let many : c.len.result ≡ length done = search rules in
    ap (λ (n : ℕ). disk_of (Some n) done) many
    ∙ begun_anew c.self.inside.revived done
    ∙ ap (λ (s : DiskState). begins s.contents) c.self.view_is

pub returns-clause-left : goal.returns-clause-left
returns-clause-left c =
    let old = c.args.self.now in
    subst (λ (s : DiskState). MayLeave old.past s.contents) (sym (returns-clause-exact c))
    (may_be_left c.self.inside.revived c.self.inside.done.items old c.self.view_is)
