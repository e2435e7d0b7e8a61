-- A revived disk gives what it gave, so what is opened is what the disk held.
use Rattle.std.proofs.Common.{◌≡◌, ℕ, List, refl, sym, ap, subst, ◌∙◌}
use Rattle.journal_disk.specs.Memory.{MemDiskState, revived}
use Rattle.node_steps.specs.Pens.{pen_value}
use Rattle.node_journal.specs.Journals.{Keeps}
use Rattle.node_journal.specs.Opening.{IsBadAt, self_in}
use Rattle.node_journal.proofs.memory.Journaled+V+S+MemDisk.start_again.Goals as goal

-- before, taken out, and revived
same-contents : (old taken new : MemDiskState) → taken ≡ old → new ≡ revived taken → old.disk.contents ≡ new.disk.contents
same-contents old taken new t n =
    sym (ap (λ (s : MemDiskState). s.disk.contents) (n ∙ ap revived t))

pub returns-in-Ok-clause-good : goal.returns-in-Ok-clause-good
returns-in-Ok-clause-good g c hs kept =
    let same = same-contents _ _ _ c.replace.ensures.value c.revive-disk.ensures.exact in
    c.in-Ok.ensures.good c.revive-disk.result.disk hs refl (subst (Keeps _ _ hs) same kept)

pub returns-in-Ok-clause-bad : goal.returns-in-Ok-clause-bad
returns-in-Ok-clause-bad g c place at =
    let same = same-contents _ _ _ c.replace.ensures.value c.revive-disk.ensures.exact in
    let me = self_in c.args.cluster c.args.shard c.args.index (g.V.Verifier.accepted c.args.keys) (g.S.Signer.fixed c.args.signer) in
    let begun = pen_value (g.S.Signer.spent c.args.signer) (g.S.Signer.left_of c.args.signer) in
    c.in-Ok.ensures.bad c.revive-disk.result.disk place refl (subst (λ (bytes : List ℕ). IsBadAt me begun bytes place) same at)

pub returns-in-Ok-clause-found : goal.returns-in-Ok-clause-found
returns-in-Ok-clause-found g c =
    let same = same-contents _ _ _ c.replace.ensures.value c.revive-disk.ensures.exact in
    let found = c.in-Ok.ensures.found c.revive-disk.result.disk refl in
    (found.0, subst (Keeps _ _ found.0) (sym same) found.1)

pub returns-in-Err-clause-good : goal.returns-in-Err-clause-good
returns-in-Err-clause-good g c hs kept =
    let same = same-contents _ _ _ c.replace.ensures.value c.revive-disk.ensures.exact in
    c.in-Err.ensures.good c.revive-disk.result.disk hs refl (subst (Keeps _ _ hs) same kept)

pub returns-in-Err-clause-bad : goal.returns-in-Err-clause-bad
returns-in-Err-clause-bad g c place at =
    let same = same-contents _ _ _ c.replace.ensures.value c.revive-disk.ensures.exact in
    let me = self_in c.args.cluster c.args.shard c.args.index (g.V.Verifier.accepted c.args.keys) (g.S.Signer.fixed c.args.signer) in
    let begun = pen_value (g.S.Signer.spent c.args.signer) (g.S.Signer.left_of c.args.signer) in
    c.in-Err.ensures.bad c.revive-disk.result.disk place refl (subst (λ (bytes : List ℕ). IsBadAt me begun bytes place) same at)
