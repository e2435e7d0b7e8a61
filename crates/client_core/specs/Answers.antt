-- The answer of a client to a frame.
use Rattle.std.specs.Prelude.{ℕ, List, Result, Ok, Err}
use Rattle.certificates.specs.declared.fault.FrameFault.{FrameFault}
use Rattle.certificates.specs.declared.fault.FrameFault.TheVariants.{BadFrame, NotMine}
use Rattle.frame_views.specs.declared.fault.BadFrame as faults
use Rattle.frame_views.specs.Fitting.{bounds_of}
use Rattle.frame_views.specs.Frames.{frame_in}
use Rattle.frame_views.specs.Values.{MessageValue, Read, ReadReply, St1, Vote, St2}
use Rattle.frame_views.specs.Values.{LogReply, Writeback, Recover, Invoke, Elect, Decide}
use Rattle.client_core.specs.Clients.{ClientSelf, ClientValue, ClientDone}
use Rattle.client_core.specs.Frames.{on_vote, on_log_reply, on_writeback, on_read_reply}

abbrev pub on_message : ClientSelf → ClientValue → MessageValue → Result ClientDone FrameFault
on_message me client (Read m) = Err NotMine
on_message me client (ReadReply m) = on_read_reply me client m
on_message me client (St1 m) = Err NotMine
on_message me client (Vote m) = on_vote me client m
on_message me client (St2 m) = Err NotMine
on_message me client (LogReply m) = on_log_reply me client m
on_message me client (Writeback m) = on_writeback me client m
on_message me client (Recover m) = Err NotMine
on_message me client (Invoke m) = Err NotMine
on_message me client (Elect m) = Err NotMine
on_message me client (Decide m) = Err NotMine

abbrev pub on_read_frame : ClientSelf → ClientValue → Result MessageValue faults.BadFrame → Result ClientDone FrameFault
on_read_frame me client (Ok m) = on_message me client m
on_read_frame me client (Err fault) = Err (BadFrame fault)

abbrev pub on_frame : ClientSelf → ClientValue → List ℕ → Result ClientDone FrameFault
on_frame me client frame = on_read_frame me client (frame_in (bounds_of me.cluster) frame)
