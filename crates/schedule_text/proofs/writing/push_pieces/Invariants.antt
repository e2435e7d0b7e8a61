use Rattle.std.proofs.Common.{◌≡◌, ◌++◌, take}
use Rattle.std.specs.List.{flat_map}
use Rattle.schedule_text.specs.Pieces.{piece_tokens, spaced}
use Rattle.schedule_text.proofs.writing.push_pieces.Given as goal

abbrev pub invariant-loop-piece : goal.invariant-loop-piece
invariant-loop-piece l = l.out.items ≡ l.fn.out.items ++ spaced (flat_map piece_tokens (take l.piece-index l.pieces))
