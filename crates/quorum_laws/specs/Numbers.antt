use Rattle.std.specs.Prelude.{ℕ, ◌+◌, ◌*◌}

-- the replicas of a shard of which at most f are faulty
abbrev pub replicas : ℕ → ℕ
replicas f = 5 * f + 1

-- so many replicas have a correct one among them: replies that make a prepared version a dependency, and the fewest
-- that a read may wait for
abbrev pub one_correct : ℕ → ℕ
one_correct f = f + 1

-- so many are correct: the most that anybody may wait for
abbrev pub correct_ones : ℕ → ℕ
correct_ones f = 4 * f + 1

-- commit votes of each involved shard that make a certificate
abbrev pub fast_commit : ℕ → ℕ
fast_commit f = 5 * f + 1

-- commit votes of each involved shard that let a commit be logged
abbrev pub commit_tally : ℕ → ℕ
commit_tally f = 3 * f + 1

-- abort votes of an involved shard that let an abort be logged
abbrev pub abort_tally : ℕ → ℕ
abort_tally f = f + 1

-- abort votes of an involved shard that make a certificate
abbrev pub fast_abort : ℕ → ℕ
fast_abort f = 3 * f + 1

-- log replies that make a certificate, and the words of an election
abbrev pub log_quorum : ℕ → ℕ
log_quorum f = 4 * f + 1

-- the words of an election that name what it decides
abbrev pub majority : ℕ → ℕ
majority f = 2 * f + 1

-- reports of a view or of later ones that let a replica catch up with it
abbrev pub catch_up : ℕ → ℕ
catch_up f = f + 1

-- reports of a view or of later ones by which it is over
abbrev pub view_over : ℕ → ℕ
view_over f = 3 * f + 1
