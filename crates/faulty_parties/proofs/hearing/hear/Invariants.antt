use Rattle.std.proofs.Common.{◌≡◌, drop, map}
use Rattle.frame_values.specs.Owned.{word_value}
use Rattle.faulty_parties.specs.Heard.{AreSigned}
use Rattle.faulty_parties.specs.Hearing.{heard_of, joined_all}
use Rattle.faulty_parties.proofs.hearing.hear.Given as goal

abbrev pub invariant-loop-place : goal.invariant-loop-place
invariant-loop-place g l =
    record {
      hears : joined_all (heard_of (g.V.Verifier.accepted l.keys) l.cluster l.id l.q (drop l.place l.pool.posts))
          (map word_value l.words.items)
          ≡ joined_all (heard_of (g.V.Verifier.accepted l.keys) l.cluster l.id l.q l.pool.posts)
          (map word_value l.initial.words.items);
      signed : AreSigned (map word_value l.words.items);
    }
