use Rattle.std.proofs.Common.{◌∙◌, sym, ap}
use Rattle.cluster_run.specs.States.{Posted, posted_at}
use Rattle.cluster_world.specs.EventValues.{event_value}
use Rattle.delivery_laws.specs.Deliveries.{handed_by}
use Rattle.journaled_runs.specs.Handing.{hand}
use Rattle.journaled_runs.proofs.Letters.{delivered, diverted, no_hand, unhanded}
use Rattle.journaled_runs.proofs.letter.letter_of.Goals as goal

pub returns-in-Some : goal.returns-in-Some
returns-in-Some g c = λ s x shows keeps.
    c.letter_to.ensures s x (event_value c.args.event.now) shows keeps
    (ap (λ ev. handed_by x.state (event_value ev)) c.in-Deliver.is
    ∙ delivered (posted_at x.state c.in-Deliver.message) c.in-Some.from c.in-Some.to c.in-Deliver.given.now
    (sym (c.parties_of.ensures s x.state shows) ∙ c.in-Some.is))

pub returns-in-None : goal.returns-in-None
returns-in-None g c = λ s x shows keeps.
    unhanded s x (event_value c.args.event.now)
    (ap (λ ev. handed_by x.state (event_value ev)) c.in-Deliver.is
    ∙ no_hand (λ (p : Posted). hand p.from p.to c.in-Deliver.given.now) (posted_at x.state c.in-Deliver.message)
    (sym (c.parties_of.ensures s x.state shows) ∙ c.in-None.is))

pub returns-in-Some-parties_of : goal.returns-in-Some-parties_of
returns-in-Some-parties_of g c = λ s x shows keeps.
    c.letter_to-in-Some-parties_of.ensures s x (event_value c.args.event.now) shows keeps
    (ap (λ ev. handed_by x.state (event_value ev)) c.in-Divert.is
    ∙ diverted (posted_at x.state c.in-Divert.message) c.in-Some-parties_of.from c.in-Some-parties_of.field-0-1
    c.in-Divert.to c.in-Divert.given.now
    (sym (c.parties_of-in-Divert.ensures s x.state shows) ∙ c.in-Some-parties_of.is))

pub returns-in-None-parties_of : goal.returns-in-None-parties_of
returns-in-None-parties_of g c = λ s x shows keeps.
    unhanded s x (event_value c.args.event.now)
    (ap (λ ev. handed_by x.state (event_value ev)) c.in-Divert.is
    ∙ no_hand (λ (p : Posted). hand p.from c.in-Divert.to c.in-Divert.given.now) (posted_at x.state c.in-Divert.message)
    (sym (c.parties_of-in-Divert.ensures s x.state shows) ∙ c.in-None-parties_of.is))
