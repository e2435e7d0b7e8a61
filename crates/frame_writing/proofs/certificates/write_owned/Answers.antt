use Rattle.std.proofs.Common.{ap, refl}
use Rattle.basil_types.specs.Transaction.{canonical, long_text}
use Rattle.frame_views.specs.Spelling.{commit_bytes}
use Rattle.frame_values.specs.declared.owned.certificate.Certificate.{Certificate}
use Rattle.frame_values.specs.Owned.{commit_value}
use Rattle.frame_writing.proofs.JoinLaws.{conflict-joined-of}
use Rattle.frame_writing.proofs.certificates.write_owned.Goals as goal

pub returns-in_ok-write_proof-in-ConflictAbort-clause-writes : goal.returns-in_ok-write_proof-in-ConflictAbort-clause-writes
returns-in_ok-write_proof-in-ConflictAbort-clause-writes c =
    let proof = λ (p : Certificate). commit_bytes (commit_value p.id p.body) in
    rw c.in-ConflictAbort.is (conflict-joined-of c.args.out.now.written c.args.certificate.now.id
    (long_text c.as_slice-in-ConflictAbort.result.now) (canonical c.in-ConflictAbort.other) (proof c.deref.result.now)
    (long_text c.in-ConflictAbort.signature)
    (canonical c.in-ConflictAbort.other) (proof c.in-ConflictAbort.proof.value) _ _ c.in-ConflictAbort.shard c.in-ConflictAbort.replica
    c.in_ok-write_conflict-in-ConflictAbort.ensures.writes c.in_ok-write_proof-in-ConflictAbort.ensures.writes
    (ap long_text c.as_slice-in-ConflictAbort.ensures) refl (ap proof c.deref.ensures))
