-- How many signatures a node gives.
use Rattle.std.specs.Prelude.{◌≡◌, ◌+◌, ◌≤◌, ℕ}
use Rattle.basil_types.specs.Setting.{Setting}
use Rattle.node_steps.specs.Pens.{PenValue}
use Rattle.replica_core.specs.Replicas.{ReplicaSelf, empty_book}
use Rattle.node_link.specs.Connections.{Node, ServesParts}

-- a node that begins with an empty book has given at most as many as its replica was handed frames, however its
-- connections ended
abbrev pub SignsWithinFrames : Type 0
SignsWithinFrames =
    (cluster : Setting) (me : ReplicaSelf) (pen : PenValue) (connections failed : ℕ) (old new : Node) →
    old.book ≡ empty_book pen → old.frames ≡ 0 → ServesParts connections failed cluster me old new →
    new.book.pen.spent ≤ pen.spent + new.frames
