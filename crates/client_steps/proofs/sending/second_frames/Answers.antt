use Rattle.std.proofs.Common.{◌∙◌, Option, sym, ap, subst}
use Rattle.std.specs.Prelude.{IfSome, option_map}
use Rattle.frame_values.specs.declared.owned.message.Message.{Message}
use Rattle.frame_values.specs.Owned.{message_value}
use Rattle.frame_views.specs.Fitting.{FitsMessage, widest}
use Rattle.client_recover.specs.Certifying.{settled}
use Rattle.client_steps.proofs.SendingLaws.{second_missing, sends_second}
use Rattle.client_steps.proofs.sending.second_frames.Goals as goal

pub log_shard_frames-requires : goal.log_shard_frames-requires
log_shard_frames-requires c =
    subst (λ (o : Option Message). IfSome o (λ (m : Message). FitsMessage widest (message_value m)))
    c.in-Some.is c.in_ok-second.ensures.fits

pub returns-in_ok-out-in-Some-clause-sends : goal.returns-in_ok-out-in-Some-clause-sends
returns-in_ok-out-in-Some-clause-sends c = λ p h.
    let u = c.args.pursuit.now in
    sends_second u.cluster u p (message_value c.in-Some.message) c.in_ok-out-in-Some.out h
    (sym (ap (option_map message_value) c.in-Some.is) ∙ c.in_ok-second.ensures.value p h)
    c.in_ok-out-in-Some.ensures.messages c.in_ok-out-in-Some.ensures.signed

pub returns-in-None-clause-sends : goal.returns-in-None-clause-sends
returns-in-None-clause-sends c = λ p h.
    let u = c.args.pursuit.now in
    second_missing p (settled u.cluster p.transaction p.taken)
    (sym (ap (option_map message_value) c.in-None.is) ∙ c.in_ok-second.ensures.value p h)
