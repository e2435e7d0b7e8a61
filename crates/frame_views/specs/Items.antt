-- What list views, their items and their iterators show.
use Rattle.std.specs.Prelude.{List}
use Rattle.basil_types.specs.Lists.{items_at, list_of}
use Rattle.frame_views.specs.declared.items.votes.VoteItem.{VoteItem}
use Rattle.frame_views.specs.declared.items.votes.VotesView.{VotesView}
use Rattle.frame_views.specs.declared.items.votes.VotesIter.{VotesIter}
use Rattle.frame_views.specs.declared.items.tallies.ShardItem.{ShardItem}
use Rattle.frame_views.specs.declared.items.tallies.TalliesView.{TalliesView}
use Rattle.frame_views.specs.declared.items.tallies.TalliesIter.{TalliesIter}
use Rattle.frame_views.specs.declared.items.logs.LogItem.{LogItem}
use Rattle.frame_views.specs.declared.items.logs.LogsView.{LogsView}
use Rattle.frame_views.specs.declared.items.logs.LogsIter.{LogsIter}
use Rattle.frame_views.specs.declared.items.replies.InvokeItem.{InvokeItem}
use Rattle.frame_views.specs.declared.items.replies.InvokesView.{InvokesView}
use Rattle.frame_views.specs.declared.items.replies.InvokesIter.{InvokesIter}
use Rattle.frame_views.specs.declared.items.words.ElectItem.{ElectItem}
use Rattle.frame_views.specs.declared.items.words.ElectsView.{ElectsView}
use Rattle.frame_views.specs.declared.items.words.ElectsIter.{ElectsIter}
use Rattle.frame_views.specs.Values.{VoteValue, TallyValue, LogValue, ReplyValue, WordValue}
use Rattle.frame_views.specs.Fitting.{widest, after_vote, after_tally, after_log, after_reply, after_word}
use Rattle.frame_views.specs.Grammar.{vote_at, tally_at, log_at, reply_at, word_at}
use Rattle.frame_views.specs.Lists.{votes_in, tallies_in, logs_in, replies_in, elects_in}

-- ---- items

abbrev pub vote_of : VoteItem → VoteValue
vote_of v = record { replica = v.replica; signature = (v.signature).now }

abbrev pub log_of : LogItem → LogValue
log_of l = record { replica = l.replica; current = l.current; signature = (l.signature).now }

abbrev pub reply_of : InvokeItem → ReplyValue
reply_of r =
    record {
      replica = r.replica;
      decision = r.decision;
      decided = r.decided;
      current = r.current;
      signature = (r.signature).now;
    }

abbrev pub elect_of : ElectItem → WordValue
elect_of w = record { replica = w.replica; decision = w.decision; signature = (w.signature).now }

-- ---- lists

abbrev pub votes_of : VotesView → List VoteValue
votes_of v = votes_in v.count (v.bytes).now

abbrev pub tally_of : ShardItem → TallyValue
tally_of s = record { shard = s.shard; votes = votes_of s.votes }

abbrev pub tallies_of : TalliesView → List TallyValue
tallies_of v = tallies_in v.count (v.bytes).now

abbrev pub logs_of : LogsView → List LogValue
logs_of v = logs_in v.count (v.bytes).now

abbrev pub replies_of : InvokesView → List ReplyValue
replies_of v = replies_in v.count (v.bytes).now

abbrev pub elects_of : ElectsView → List WordValue
elects_of v = elects_in v.count (v.bytes).now

-- ---- what iterators have left

abbrev pub votes_left : VotesIter → List VoteValue
votes_left i = list_of (items_at (vote_at widest) after_vote i.left i.floor (i.rest).now)

abbrev pub tallies_left : TalliesIter → List TallyValue
tallies_left i = list_of (items_at (tally_at widest) after_tally i.left i.floor (i.rest).now)

abbrev pub logs_left : LogsIter → List LogValue
logs_left i = list_of (items_at (log_at widest 0) after_log i.left i.floor (i.rest).now)

abbrev pub replies_left : InvokesIter → List ReplyValue
replies_left i = list_of (items_at (reply_at widest) after_reply i.left i.floor (i.rest).now)

abbrev pub elects_left : ElectsIter → List WordValue
elects_left i = list_of (items_at (word_at widest) after_word i.left i.floor (i.rest).now)
