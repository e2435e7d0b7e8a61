use Rattle.std.proofs.Common.{◌∷◌, ◌∙◌, ap, List, ℕ}
use Rattle.frame_views.specs.Fitting.{widest, FitsReply, after_reply}
use Rattle.frame_views.specs.Grammar.{reply_at}
use Rattle.frame_views.specs.Spelling.{reply_bytes}
use Rattle.frame_views.proofs.CertificateLaws.{within-self}
use Rattle.frame_views.proofs.GrammarLaws.{reads_replies}
use Rattle.frame_views.proofs.WriteLaws.{whole_spelled}
use Rattle.frame_views.proofs.items.replies.InvokesView.spelled.Goals as goal

pub returns : goal.returns
returns c =
    ap (λ (z : List ℕ). c.args.self.now.count ∷ z) c.in_range.ensures.same
    ∙ whole_spelled (reply_at widest) after_reply reply_bytes (FitsReply widest)
    (reads_replies widest widest within-self) c.args.self.now.count c.args.self.now.bytes.now c.in_range.ensures.in_range
    c.args.self.now.whole
