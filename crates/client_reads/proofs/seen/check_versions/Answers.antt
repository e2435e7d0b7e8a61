use Rattle.std.proofs.Common.{sym, ap, ◌∙◌}
use Rattle.frame_views.specs.Shown.{read_of, read_reply_of}
use Rattle.client_reads.specs.Replies.{is_missing_or_seen}
use Rattle.client_reads.proofs.SeenLaws.{committed_form}
use Rattle.client_reads.proofs.seen.check_versions.Goals as goal

pub returns-then-is_missing_or_seen-2-clause-form : goal.returns-then-is_missing_or_seen-2-clause-form
returns-then-is_missing_or_seen-2-clause-form c =
    committed_form (read_of c.args.read.now) (read_reply_of c.args.reply.now).committed
    (sym (ap (is_missing_or_seen (read_of c.args.read.now)) c.transaction_in-committed.ensures)
    ∙ sym c.is_missing_or_seen.ensures ∙ c.if-is_missing_or_seen.true)
