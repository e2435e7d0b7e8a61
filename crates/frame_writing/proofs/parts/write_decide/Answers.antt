use Rattle.basil_types.specs.Transaction.{long_text}
use Rattle.frame_views.specs.Spelling.{spelling}
use Rattle.frame_views.specs.Values.{Decide}
use Rattle.frame_values.specs.Parts.{decide_parts}
use Rattle.frame_writing.specs.Unsigned.{unsigned_decide}
use Rattle.frame_writing.proofs.JoinLaws.{ended}
use Rattle.frame_writing.proofs.parts.write_decide.Goals as goal

pub returns-clause-writes : goal.returns-clause-writes
returns-clause-writes c =
    let m = decide_parts c.args.m.now in
    ended c.args.out.now.written (unsigned_decide m) (long_text m.signature) (spelling (Decide m)) _ _
    (c.signatures_end_frames.ensures.decides m) c.in_ok-write_unsigned_decide.ensures.writes c.in_ok-write_signature.ensures.writes
