-- The answer of a replica to a frame.
use Rattle.std.specs.Prelude.{ℕ, List, Result, Ok, Err}
use Rattle.basil_types.specs.declared.party.Party.{Party}
use Rattle.frame_views.specs.declared.fault.BadFrame as faults
use Rattle.frame_views.specs.Fitting.{bounds_of}
use Rattle.frame_views.specs.Frames.{frame_in}
use Rattle.frame_views.specs.Values.{MessageValue, Read, ReadReply, St1, Vote, St2, LogReply, Writeback, Recover}
use Rattle.frame_views.specs.Values.{Invoke, Elect, Decide}
use Rattle.node_steps.specs.Refusing.{unless_refused}
use Rattle.replica_core.specs.declared.refusal.Refusal.{Refusal}
use Rattle.replica_core.specs.declared.refusal.Refusal.TheVariants.{BadFrame, NotMine}
use Rattle.replica_core.specs.Replicas.{ReplicaSelf, BookValue, Done}
use Rattle.replica_core.specs.Reads.{answer_read}
use Rattle.replica_core.specs.FirstStage.{answer_st1}
use Rattle.replica_core.specs.SecondStage.{answer_st2, answer_recover}
use Rattle.replica_core.specs.Writebacks.{answer_writeback}
use Rattle.replica_core.specs.Invokes.{answer_invoke}
use Rattle.replica_core.specs.Elections.{answer_elect, answer_decide}
use Rattle.replica_core.specs.Refusals.{refused}

-- by the kind of a message of which nothing is refused so far
abbrev pub answer_kind : ReplicaSelf → ℕ → Party → BookValue → MessageValue → Result Done Refusal
answer_kind me now from book (Read m) = answer_read me now from book m
answer_kind me now from book (ReadReply m) = Err NotMine
answer_kind me now from book (St1 m) = answer_st1 me now from book m.transaction
answer_kind me now from book (Vote m) = Err NotMine
answer_kind me now from book (St2 m) = answer_st2 me from book m.transaction m.decision
answer_kind me now from book (LogReply m) = Err NotMine
answer_kind me now from book (Writeback m) = answer_writeback me book m
answer_kind me now from book (Recover m) = answer_recover me now from book m.transaction
answer_kind me now from book (Invoke m) = answer_invoke me from book m
answer_kind me now from book (Elect m) = answer_elect me book m
answer_kind me now from book (Decide m) = answer_decide me book m

abbrev pub answer_message : ReplicaSelf → ℕ → Party → BookValue → MessageValue → Result Done Refusal
answer_message me now from book m = unless_refused (refused me m) (answer_kind me now from book m)

abbrev pub answer_read_frame : ReplicaSelf → ℕ → Party → BookValue → Result MessageValue faults.BadFrame →
    Result Done Refusal
answer_read_frame me now from book (Ok m) = answer_message me now from book m
answer_read_frame me now from book (Err fault) = Err (BadFrame fault)

-- the first refusal, which changes nothing, or the new book, the words that are signed and what is sent
abbrev pub answer : ReplicaSelf → ℕ → Party → BookValue → List ℕ → Result Done Refusal
answer me now from book frame = answer_read_frame me now from book (frame_in (bounds_of me.home.cluster) frame)
