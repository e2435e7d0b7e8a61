-- Which signatures a walk over a frame has left.
use Rattle.std.specs.Prelude.{List, [], ◌∷◌, ◌++◌, map, Option, Some, None}
use Rattle.frame_views.specs.declared.signed.item.SignedItem.{SignedItem}
use Rattle.frame_views.specs.declared.signed.walk.Signatures.{Signatures}
use Rattle.frame_views.specs.declared.signed.runs.TalliesRun.{TalliesRun}
use Rattle.frame_views.specs.declared.signed.runs.LogsRun.{LogsRun}
use Rattle.frame_views.specs.declared.signed.runs.RepliesRun.{RepliesRun}
use Rattle.frame_views.specs.declared.signed.runs.WordsRun.{WordsRun}
use Rattle.frame_views.specs.declared.signed.runs.Run.{Run}
use Rattle.frame_views.specs.declared.signed.runs.Run.TheVariants as run
use Rattle.frame_views.specs.Items.{votes_left, tallies_left, logs_left, replies_left, elects_left}
use Rattle.frame_views.specs.Signed.{SignedBy, vote_signed, tallies_signed, one_logged, log_signed, word_signed}

abbrev pub signed_of : SignedItem → SignedBy
signed_of s = record { party = s.party; words = s.words; signature = (s.signature).now }

abbrev pub tallies_walk : TalliesRun → List SignedBy
tallies_walk r =
    map (vote_signed r.shard r.id r.decision) (votes_left r.votes)
    ++ tallies_signed r.id r.decision (tallies_left r.tallies)

abbrev pub logs_walk : LogsRun → List SignedBy
logs_walk r = map (one_logged r.shard r.id r.decision r.decided) (logs_left r.logs)

abbrev pub replies_walk : RepliesRun → List SignedBy
replies_walk r = map (log_signed r.shard r.id) (replies_left r.replies)

abbrev pub words_walk : WordsRun → List SignedBy
words_walk r = map (word_signed r.shard r.id r.view) (elects_left r.words)

abbrev pub run_left : Run → List SignedBy
run_left run.Nothing = []
run_left (run.Tallies r) = tallies_walk r
run_left (run.Logs r) = logs_walk r
run_left (run.Replies r) = replies_walk r
run_left (run.Words r) = words_walk r

-- one signature, or none
abbrev pub maybe_left : Option SignedItem → List SignedBy
maybe_left None = []
maybe_left (Some s) = signed_of s ∷ []

abbrev pub signed_left : Signatures → List SignedBy
signed_left s = maybe_left s.front ++ (run_left s.run ++ maybe_left s.back)
