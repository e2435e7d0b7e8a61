-- Which bytes spell so many items, and which items they spell, whatever cluster they are of.
use Rattle.std.specs.Prelude.{ℕ, List, Bool}
use Rattle.basil_types.specs.Lists.{items_at, list_of, is_whole}
use Rattle.frame_views.specs.Values.{VoteValue, TallyValue, LogValue, ReplyValue, WordValue}
use Rattle.frame_views.specs.Fitting.{widest, after_vote, after_tally, after_log, after_reply, after_word}
use Rattle.frame_views.specs.Grammar.{vote_at, tally_at, log_at, reply_at, word_at}

abbrev pub votes_in : ℕ → List ℕ → List VoteValue
votes_in count bytes = list_of (items_at (vote_at widest) after_vote count 0 bytes)

abbrev pub spells_votes : ℕ → List ℕ → Bool
spells_votes count bytes = is_whole (items_at (vote_at widest) after_vote count 0 bytes)

abbrev pub tallies_in : ℕ → List ℕ → List TallyValue
tallies_in count bytes = list_of (items_at (tally_at widest) after_tally count 0 bytes)

abbrev pub spells_tallies : ℕ → List ℕ → Bool
spells_tallies count bytes = is_whole (items_at (tally_at widest) after_tally count 0 bytes)

abbrev pub logs_in : ℕ → List ℕ → List LogValue
logs_in count bytes = list_of (items_at (log_at widest 0) after_log count 0 bytes)

abbrev pub spells_logs : ℕ → List ℕ → Bool
spells_logs count bytes = is_whole (items_at (log_at widest 0) after_log count 0 bytes)

abbrev pub replies_in : ℕ → List ℕ → List ReplyValue
replies_in count bytes = list_of (items_at (reply_at widest) after_reply count 0 bytes)

abbrev pub spells_replies : ℕ → List ℕ → Bool
spells_replies count bytes = is_whole (items_at (reply_at widest) after_reply count 0 bytes)

abbrev pub elects_in : ℕ → List ℕ → List WordValue
elects_in count bytes = list_of (items_at (word_at widest) after_word count 0 bytes)

abbrev pub spells_elects : ℕ → List ℕ → Bool
spells_elects count bytes = is_whole (items_at (word_at widest) after_word count 0 bytes)
