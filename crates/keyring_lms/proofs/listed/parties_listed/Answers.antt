use Rattle.std.proofs.Common.{List, sym, subst, take, arith}
use Rattle.std.proofs.lemmas.List.{take_more}
use Rattle.basil_types.specs.declared.party.Party.{Party}
use Rattle.keyring_lms.specs.Replay.{AreListedOf}
use Rattle.keyring_lms.proofs.ListedLaws.{goes_on}
use Rattle.keyring_lms.proofs.listed.parties_listed.Goals as goal

pub loop-party-preserved : goal.loop-party-preserved
loop-party-preserved c =
    let listed = c.args.listed.now in
    let after = c.add_once.new.parties.items in
    let i = c.loop-party.party-index in
    let before = c.loop-party.parties.items in
    let on = goes_on c.args.cluster.now _ (take i listed) before after c.loop-party.invariant c.in_ok-add_once.ensures in
    subst (λ (t : List Party). AreListedOf c.args.cluster.now t after) (sym (take_more listed i _ (omega arith))) on
