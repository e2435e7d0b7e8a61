use Rattle.std.proofs.Common.{◌∷◌, ap, ◌∙◌}
use Rattle.frame_views.specs.Shown.{committed_of, read_reply_of}
use Rattle.frame_views.specs.Signed.{reply_signed}
use Rattle.premise_watch.specs.Marks.{Text}
use Rattle.premise_watch.specs.Parts.{around, rival_of}
use Rattle.premise_watch.proofs.PartLaws.{of_both}
use Rattle.premise_watch.proofs.parts.with_both.Goals as goal

pub returns : goal.returns
returns c =
    let part = committed_of c.args.part in
    of_both c.paired.result c.args.prepared c.signature_of.result _ _
    (reply_signed (read_reply_of c.args.reply.now)) part c.paired.ensures.prepared c.paired.ensures.last
    (c.paired.ensures.marks ∙ ap (λ gs. Text part.transaction ∷ around (rival_of part.certificate.body) gs) c.signatures.ensures)
    c.signature_of.ensures c.requires.committed c.requires.prepared
