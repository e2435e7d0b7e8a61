-- Whole frames: which bytes are a frame of which message, and the first fault of bytes that are none.
use Rattle.std.specs.Prelude.{◌≡◌, ℕ, ◌≤◌, ◌-◌, List, length, Result, Ok, Err, nat_lt, ◌==◌, if◌then◌else◌}
use Rattle.basil_types.specs.declared.reading.Fault.{Fault}
pub use Rattle.basil_types.specs.Limits.{frame_limit}
use Rattle.basil_types.specs.Steps.{◌>>=◌}
use Rattle.basil_types.specs.Setting.{Setting}
use Rattle.basil_types.specs.Reading.{byte_at}
use Rattle.frame_views.specs.declared.fault.BadFrame.{BadFrame}
use Rattle.frame_views.specs.declared.fault.BadFrame.TheVariants.{Kind, Length, Trailing}
use Rattle.frame_views.specs.declared.kind.Kind as kinds
use Rattle.frame_views.specs.declared.kind.Kind.TheVariants as kind
use Rattle.frame_views.specs.declared.bounds.Bounds.{Bounds}
use Rattle.frame_views.specs.Placed.{placed}
use Rattle.frame_views.specs.Values.{MessageValue}
use Rattle.frame_views.specs.Spelling.{spelling}
use Rattle.frame_views.specs.Fitting.{bounds_of, FitsMessage}
use Rattle.frame_views.specs.Grammar.{message_at}

-- these bytes are the frame of this message in this cluster
pub record IsFrame (cluster : Setting) (frame : List ℕ) (m : MessageValue) : Type 0 where
  pub short : length frame ≤ frame_limit
  pub fits : FitsMessage (bounds_of cluster) m
  pub spelled : frame ≡ spelling m

-- ---- the first fault

abbrev pub kind_in : ℕ → Result kinds.Kind BadFrame
kind_in b =
    if b == 1 then Ok kind.Read else if b == 2 then Ok kind.ReadReply else if b == 3 then Ok kind.St1
    else if b == 4 then Ok kind.Vote else if b == 5 then Ok kind.St2 else if b == 6 then Ok kind.LogReply
    else if b == 7 then Ok kind.Writeback else if b == 8 then Ok kind.Recover else if b == 9 then Ok kind.Invoke
    else if b == 10 then Ok kind.Elect else if b == 11 then Ok kind.Decide else Err Kind

-- a field's fault at its offset in a frame of len bytes
abbrev pub in_frame : {A : Type 0} → ℕ → Result A Fault → Result A BadFrame
in_frame len (Ok x) = Ok x
in_frame len (Err f) = Err (placed len f)

-- the body behind the kind, and nothing behind the body
unfoldable pub body_in : Bounds → ℕ → kinds.Kind → List ℕ → Result MessageValue BadFrame
body_in b len kind bytes = do
  body ← in_frame len (message_at b kind bytes)
  if length body.1 == 0 then Ok body.0 else Err (Trailing (len - length body.1))

unfoldable pub message_in : Bounds → List ℕ → Result MessageValue BadFrame
message_in b frame = do
  first ← in_frame (length frame) (byte_at frame)
  kind ← kind_in first.0
  body_in b (length frame) kind first.1

unfoldable pub frame_in : Bounds → List ℕ → Result MessageValue BadFrame
frame_in b frame = if nat_lt frame_limit (length frame) then Err Length else message_in b frame

-- what a call answered, seen by view, is what reading gives
abbrev pub Answers : {X Y : Type 0} → (X → Y) → Result X BadFrame → Result Y BadFrame → Type 0
Answers view (Ok x) read = read ≡ Ok (view x)
Answers view (Err e) read = read ≡ Err e
