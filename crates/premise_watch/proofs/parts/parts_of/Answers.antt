use Rattle.std.proofs.Common.{◌≡◌, ◌∷◌, sym, ap, ◌∙◌}
use Rattle.std.specs.Prelude.{option_map}
use Rattle.frame_views.specs.Shown.{committed_of, message_of, voted_of}
use Rattle.frame_views.specs.Signed.{SignedBy, signed_in, vote_signed}
use Rattle.frame_views.specs.Values.{Vote}
use Rattle.premise_watch.specs.Marks.{Text, marks}
use Rattle.premise_watch.specs.Parts.{around, rival_of}
use Rattle.premise_watch.proofs.PartLaws.{of_vote}
use Rattle.premise_watch.proofs.parts.parts_of.Goals as goal

pub returns-in-Some : goal.returns-in-Some
returns-in-Some c =
    let part = committed_of c.in-Some.part in
    let vote = voted_of c.in-Vote.v in
    let own : SignedBy = vote_signed vote.shard vote.id vote.decision (record { replica = vote.replica; signature = vote.signature }) in
    let is : message_of c.args.m.now ≡ Vote vote = ap message_of c.in-Vote.is in
    c.paired-in-Some.ensures.marks
    ∙ ap (λ gs. Text part.transaction ∷ around (rival_of part.certificate.body) gs) (c.signatures-in-Some.ensures ∙ ap signed_in is)
    ∙ of_vote vote.proof own part (ap (option_map committed_of) c.in-Some.is) ∙ ap marks (sym is)
