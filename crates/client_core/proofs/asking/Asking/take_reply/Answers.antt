use Rattle.std.proofs.Common.{◌∙◌, List, ℕ, sym, ap}
use Rattle.frame_views.specs.Shown.{read_reply_of}
use Rattle.client_core.specs.Kept.{reply_kept, shown_read}
use Rattle.client_core.proofs.ReplyingLaws.{keeps_nothing, keeps_reply}
use Rattle.client_core.proofs.asking.Asking.take_reply.Goals as goal

pub returns-then-has_reply_of : goal.returns-then-has_reply_of
returns-then-has_reply_of g c = λ r same. (
  c.in-Ok.ensures r same,
  keeps_nothing (shown_read c.args.self.now) r (read_reply_of c.args.reply.now) same (sym c.has_reply_of.ensures ∙ c.if-has_reply_of.true),
)

pub returns : goal.returns
returns g c = λ r same.
    let m = read_reply_of c.args.reply.now in (
      c.in-Ok.ensures r same,
      keeps_reply (shown_read c.args.self.now) r m c.in_ok-kept.kept same
          (c.in_ok-kept.ensures ∙ ap (λ (k : List ℕ). reply_kept k m) c.as_slice.ensures)
          (sym c.has_reply_of.ensures ∙ c.if-has_reply_of.false),
    )

pub returns-in-Err : goal.returns-in-Err
returns-in-Err g c = λ r same wanting. c.in-Err.ensures r same
