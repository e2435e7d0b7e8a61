-- The run is that of the seat's client, and its ending is told.
use Rattle.party_commands.proofs.ClientLaws.{ran_to, wanting_ok}
use Rattle.party_commands.proofs.client.run_at.Goals as goal

pub returns-clause-ran : goal.returns-clause-ran
returns-clause-ran g c s moments state sits ticks told =
    let first = c.run_task-ran.ensures.first s.seated.client sits.shows sits.first in
    ran_to c.run_task-ran.new.client _ c.args.file.now s c.args.task.now moments state _ _ _ sits.me c.run_task-ran.ensures.own
    sits.listing_is c.run_task-ran.result c.ending_of.result
    (c.run_task-ran.ensures.ran s.seated.client moments state sits.shows ticks told)
    (λ none P. wanting_ok c.ending_of.result _ (c.ending_of.ensures.fault none) P)
    (λ w shows. c.ending_of.ensures.outcome w shows first)
