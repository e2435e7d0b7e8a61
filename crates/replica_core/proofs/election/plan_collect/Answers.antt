use Rattle.std.proofs.Common.{◌≡◌, refl, sym, ap, ◌∙◌}
use Rattle.std.specs.Prelude.{option_map}
use Rattle.basil_types.specs.Shown.{transaction_of}
use Rattle.fallback_leader.specs.Elections.{proposal_value}
use Rattle.frame_values.specs.declared.owned.parts.ElectPart.{ElectPart}
use Rattle.frame_views.specs.Shown.{elect_message_of}
use Rattle.replica_core.specs.Elections.{word_of}
use Rattle.replica_core.specs.LeadWorks.{lead_book_at}
use Rattle.replica_core.specs.Seats.{self_at}
use Rattle.replica_core.proofs.Collecting.{collects}
use Rattle.replica_core.proofs.election.plan_collect.Goals as goal

pub returns-in-Some-clause-answer : goal.returns-in-Some-clause-answer
returns-in-Some-clause-answer g c accepts book =
    let spent = g.S.Signer.spent c.args.pen.now in
    let left = g.S.Signer.left_of c.args.pen.now in
    let signing = g.S.Signer.fixed c.args.pen.now in
    let m = elect_message_of c.args.m.now in
    let leading = c.args.leading.now in
    let word : ElectPart = record
    { replica = c.args.m.now.replica; decision = c.args.m.now.decision; signature = c.in_ok-copy_of.field-0 } in
    let signed : word ≡ word_of m = ap
    (λ s. let w : ElectPart = record { replica = c.args.m.now.replica; decision = c.args.m.now.decision; signature = s } in w)
    c.in_ok-copy_of.ensures in
    collects (self_at c.args.seat.now accepts signing) c.args.seat.now signing (lead_book_at book leading spent left)
    (transaction_of c.args.t) m c.args.id.now word
    c.collect.new.self (proposal_value c.in-Some.proposal) c.plan_proposal.result refl c.requires.named signed c.in_ok-proposal.ensures.next
    (sym c.in_ok-proposal.ensures.proposal ∙ ap (option_map proposal_value) c.in-Some.is)
    (c.plan_proposal.ensures.answer accepts (lead_book_at book leading spent left) m refl)
