use Rattle.std.proofs.Common.{◌≡◌, ℕ, List, [], ◌∷◌, ◌++◌, ap, sym, subst, ◌∙◌, arith}
use Rattle.std.proofs.lemmas.List.{append_assoc}
use Rattle.basil_types.specs.declared.party.Decision.{Decision}
use Rattle.replica_core.specs.Releases.{AreReleasesOf, AreWithin}
use Rattle.replica_core.proofs.Fronting.{nil_behind, nil_of}
use Rattle.replica_core.proofs.writeback.plan_releases.Goals as goal

pub loop-vote-preserved : goal.loop-vote-preserved
loop-vote-preserved c =
    let seat = c.args.seat.now in
    let size = c.args.size in
    let es = c.args.known.now.table.entries in
    let i = c.loop-vote.invariant in
    let steps = c.in-Some.ensures.steps.0 in
    let release = c.in_ok-release.release in
    let planned = c.loop-vote.planned.items in
    record {
      goes_on = λ more a.
          subst (AreReleasesOf seat size es c.args.votes.items)
          (sym (ap (λ l. l ++ more) c.in_ok-push.ensures.items ∙ append_assoc planned (release ∷ []) more))
          (i.goes_on (release ∷ more)
          (subst (λ (rs : List (ℕ × Decision)). AreReleasesOf seat size es rs (release ∷ more)) (sym steps)
          (c.in_ok-release.ensures, a)));
      within = (subst (AreWithin es) steps i.within).1;
    }

pub returns : goal.returns
returns c =
    let seat = c.args.seat.now in
    let size = c.args.size in
    let es = c.args.known.now.table.entries in
    let i = c.loop-vote.invariant in
    let none : c.loop-vote.vote-iterator.rest.items ≡ [] = nil_of c.loop-vote.vote-iterator.rest.items
    (omega (arith, c.loop-vote.vote-iterator.rest.ok.0, c.in-None.ensures.steps.0)) in
    subst (AreReleasesOf seat size es c.args.votes.items) (nil_behind c.loop-vote.planned.items)
    (i.goes_on [] (subst (λ (rs : List (ℕ × Decision)). AreReleasesOf seat size es rs []) (sym none) tt))
