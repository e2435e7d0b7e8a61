-- Log replies before they are signed.
use Rattle.std.specs.Prelude.{ℕ, List, [], None}
use Rattle.basil_types.specs.Words.{SignedWords, LogReplyWords}
use Rattle.decision_log.specs.declared.cell.LogCell.{LogCell}
use Rattle.frame_views.specs.Values.{LogReplyValue}
use Rattle.node_steps.specs.Pens.{pen_value}
use Rattle.replica_core.specs.declared.seat.Seat.{Seat}
use Rattle.replica_core.specs.Replicas.{LoggedEntry, BookValue}

-- a book with this place of the pen
abbrev pub pen_at : BookValue → (spent left : ℕ) → BookValue
pen_at book spent left = record book { pen = pen_value spent left }

-- what is logged, without a reply that says it
abbrev pub logged_at : List ℕ → LogCell → List ℕ → LoggedEntry
logged_at id cell askers = record { id = id; cell = cell; reply = None; askers = askers }

-- the reply that says a cell, before it is signed
abbrev pub said_reply : Seat → List ℕ → LogCell → LogReplyValue
said_reply seat id cell =
    record {
      shard = seat.home.shard;
      replica = seat.index;
      id = id;
      decision = cell.decision;
      decided = cell.decided;
      current = cell.current;
      signature = [];
    }

abbrev pub said_words_of : Seat → List ℕ → LogCell → SignedWords
said_words_of seat id cell =
    LogReplyWords (record {
      shard = seat.home.shard;
      replica = seat.index;
      id = id;
      decision = cell.decision;
      decided = cell.decided;
      current = cell.current;
    })
