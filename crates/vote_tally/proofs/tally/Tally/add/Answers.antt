use Rattle.std.proofs.Common.{◌≡◌, ◌+◌, ◌*◌, ◌<◌, true, false, [], ◌∷◌, ◌++◌, length, get_or, set, take, sym, ap, subst, ◌∙◌, arith}
use Rattle.std.proofs.Math.ListN.{length-set}
use Rattle.std.proofs.lemmas.Grind.{take-set_at}
use Rattle.vote_tally.specs.declared.votes.FirstVote.{FirstVote}
use Rattle.vote_tally.specs.Votes.{has_voted, counts_of, AreFirst}
use Rattle.vote_tally.specs.Tallies.{TallyValue, added}
use Rattle.vote_tally.proofs.Keeping.{more_marks, mark_left, marks_more, first_more, first_one, added_is}
use Rattle.vote_tally.proofs.tally.Tally.add.Goals as goal

pub bounds-self-inside-self-inside : goal.bounds-self-inside-self-inside
bounds-self-inside-self-inside c =
    let f = ap (λ t. t.cluster.f) c.self.view_is in
    omega (
      arith,
      mark_left c.self.inside.voted c.from-place.result
          (omega (arith, c.self.invariant.faulty, c.self.told, f)) c.if-self-place.false,
      c.self.invariant.voters,
    )

pub invariant_of-self : goal.invariant_of-self
invariant_of-self c =
    let t = c.self.inside in
    let f = ap (λ t. t.cluster.f) c.self.view_is in
    let v : FirstVote = record { replica = c.args.replica; vote = c.args.vote; proof = c.args.proof } in
    let below : c.from-place.result < length t.voted = omega (arith, c.self.invariant.faulty, c.self.told, f) in
    let left = mark_left t.voted c.from-place.result below c.if-self-place.false in
    let room : t.len < length t.votes = omega (arith, left, c.self.invariant.voters, c.self.invariant.slots_are, c.self.told) in
    let more : take (t.len + 1) (set t.votes t.len v) ≡ take t.len t.votes ++ v ∷ [] =
    take-set_at t.votes t.len (t.len + 1) v (omega arith) room in
    let place : c.args.replica ≡ c.from-place.result = sym c.from-place.ensures in
    let unheard : has_voted (take t.len t.votes) c.args.replica ≡ false =
    sym (c.self.invariant.marks c.args.replica (omega (arith, c.self.invariant.faulty, f)))
    ∙ ap (λ k. get_or t.voted k false) (sym c.from-place.ensures) ∙ c.if-self-place.false in
    record {
      faulty = c.self.invariant.faulty;
      few = omega (arith, room, c.self.invariant.slots_are);
      slots_are = length-set t.votes t.len v ∙ c.self.invariant.slots_are;
      marks =
          λ i h.
          ap (λ k. get_or (set t.voted k true) i false) (sym place)
          ∙ marks_more t.voted (take t.len t.votes) v i (omega (arith, below, place)) (c.self.invariant.marks i h)
          ∙ ap (λ votes. has_voted votes i) (sym more);
      voters = ap (λ k. k + 1) c.self.invariant.voters ∙ sym (more_marks t.voted c.from-place.result below c.if-self-place.false);
      first = subst (AreFirst t.cluster)
          (sym more) (first_more t.cluster (take t.len t.votes) v c.self.invariant.first (omega (arith, f)) unheard);
      counted = c.with-counts.ensures (take t.len t.votes) c.self.invariant.counted ∙ ap counts_of (sym more);
    }

pub returns-clause-counted : goal.returns-clause-counted
returns-clause-counted c =
    let t = c.self.inside in
    let seen : TallyValue = record { cluster = t.cluster; votes = take t.len t.votes } in
    let f = ap (λ t. t.cluster.f) c.self.view_is in
    let v : FirstVote = record { replica = c.args.replica; vote = c.args.vote; proof = c.args.proof } in
    let below : c.from-place.result < length t.voted = omega (arith, c.self.invariant.faulty, c.self.told, f) in
    let left = mark_left t.voted c.from-place.result below c.if-self-place.false in
    let room : t.len < length t.votes = omega (arith, left, c.self.invariant.voters, c.self.invariant.slots_are, c.self.told) in
    let more : take (t.len + 1) (set t.votes t.len v) ≡ take t.len t.votes ++ v ∷ [] =
    take-set_at t.votes t.len (t.len + 1) v (omega arith) room in
    let replica : c.args.replica < 5 * t.cluster.f + 1 = omega (arith, c.n.ensures.value, c.if-replica-n.false) in
    let unheard : has_voted (take t.len t.votes) c.args.replica ≡ false =
    sym (c.self.invariant.marks c.args.replica (omega (arith, c.self.invariant.faulty, replica)))
    ∙ ap (λ k. get_or t.voted k false) (sym c.from-place.ensures) ∙ c.if-self-place.false in
    ap (λ votes. let u : TallyValue = record { cluster = t.cluster; votes = votes } in u) more
    ∙ sym (added_is seen v (first_one seen v.replica replica unheard)) ∙ ap (λ t. added t v) c.self.view_is
