use Rattle.std.proofs.Common.{refl}
use Rattle.basil_types.specs.Shown.{transaction_of}
use Rattle.basil_types.specs.Transaction.{canonical, long_text}
use Rattle.frame_views.specs.Fitting.{widest, FitsConflict}
use Rattle.frame_views.specs.Shown.{certificate_of}
use Rattle.frame_views.specs.Spelling.{certificate_bytes, commit_bytes}
use Rattle.frame_views.specs.Values.{as_commit}
use Rattle.frame_writing.proofs.JoinLaws.{conflict-joined-of, commit-spelled}
use Rattle.frame_writing.proofs.certificates.write_parts.Goals as goal

pub returns-in_ok-write_pair-in-ConflictAbort-clause-writes : goal.returns-in_ok-write_pair-in-ConflictAbort-clause-writes
returns-in_ok-write_pair-in-ConflictAbort-clause-writes c =
    let is = c.in-ConflictAbort.is in
    let proof = certificate_of c.in-ConflictAbort.proof in
    let signature = long_text c.in-ConflictAbort.signature.now in
    let transaction = canonical (transaction_of c.in-ConflictAbort.other) in
    let fits : FitsConflict widest (record {
      shard = c.in-ConflictAbort.shard;
      replica = c.in-ConflictAbort.replica;
      signature = c.in-ConflictAbort.signature.now;
      other = transaction_of c.in-ConflictAbort.other;
      proof =
          as_commit proof;
    }) =
    rw is at c.requires.body in
    rw is (conflict-joined-of c.args.out.now.written c.args.certificate.now.id signature transaction (certificate_bytes proof)
    signature transaction (commit_bytes (as_commit proof)) _ _ c.in-ConflictAbort.shard c.in-ConflictAbort.replica
    c.in_ok-write_conflict-in-ConflictAbort.ensures.writes c.in_ok-write_pair-in-ConflictAbort.ensures.writes refl refl
    (commit-spelled proof fits.proof))
