use Rattle.std.proofs.Common.{◌∷◌, sym, ap, ◌∙◌}
use Rattle.std.specs.Prelude.{option_map}
use Rattle.basil_types.specs.Shown.{transaction_of}
use Rattle.frame_views.specs.Shown.{committed_of, read_reply_of}
use Rattle.frame_views.specs.Signed.{reply_signed, signed_in}
use Rattle.premise_watch.specs.Marks.{Text, marks}
use Rattle.premise_watch.specs.Parts.{around, rival_of}
use Rattle.premise_watch.proofs.PartLaws.{of_one}
use Rattle.premise_watch.proofs.parts.of_reply.Goals as goal

pub returns-in-None-prepared : goal.returns-in-None-prepared
returns-in-None-prepared c =
    let part = committed_of c.in-Some.part in
    c.paired.ensures.marks
    ∙ ap (λ gs. Text part.transaction ∷ around (rival_of part.certificate.body) gs)
    (c.signatures-in-None-prepared.ensures ∙ ap signed_in c.requires.same)
    ∙ of_one _ _ (reply_signed (read_reply_of c.args.reply.now)) part
    (ap (option_map committed_of) c.in-Some.is) (ap (option_map transaction_of) c.in-None-prepared.is)
    ∙ ap marks (sym c.requires.same)
