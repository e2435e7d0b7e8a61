use Rattle.std.proofs.Common.{◌≡◌, ◌++◌, map}
use Rattle.frame_values.specs.Owned.{vote_value, word_value}
use Rattle.faulty_parties.specs.Tallies.{vote_said}
use Rattle.faulty_parties.proofs.listing.votes_of.Given as goal

abbrev pub invariant-loop-word : goal.invariant-loop-word
invariant-loop-word l =
    map vote_value l.votes.items ++ map vote_said (map word_value l.word-iterator.rest.items)
    ≡ map vote_said (map word_value l.fn.words.items)
