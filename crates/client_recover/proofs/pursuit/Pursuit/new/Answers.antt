use Rattle.std.proofs.Common.{◌≡◌, List, [], length, refl, sym, ap, arith}
use Rattle.std.proofs.lemmas.List.Elements.{All-nil, All-same}
use Rattle.quorum_laws.specs.Numbers.{replicas}
use Rattle.client_recover.specs.declared.votes.CountedVote.{CountedVote}
use Rattle.client_recover.specs.Writable.{IsSigned}
use Rattle.client_recover.proofs.pursuit.Pursuit.new.Goals as goal

pub returns-clause-stands : goal.returns-clause-stands
returns-clause-stands c second =
    record {
      transaction = refl;
      signature = refl;
      votes = c.new.ensures;
      logs = c.new-2.ensures.holds;
      outcome = sym c.nothing_decided.ensures;
    }

pub invariant_of-result : goal.invariant_of-result
invariant_of-result c =
    let empty : length c.new.result ≡ 0 = ap (λ (vs : List CountedVote). length vs) c.new.ensures in
    record {
      form = c.requires.form;
      signed = c.requires.signature;
      named = c.own_id-id.ensures;
      involves = c.own_shards-shards.ensures;
      few = omega (arith, empty, c.new-2.ensures.count);
      votes_signed = All-same IsSigned _ [] c.new.ensures (All-nil IsSigned);
      logs_sound = c.new-2.ensures.sound;
      logs_below = c.new-2.ensures.below (replicas c.args.cluster.f);
      last_sound = λ log e. absurd cc;
      outcome_fits = λ x e. absurd cc;
    }
