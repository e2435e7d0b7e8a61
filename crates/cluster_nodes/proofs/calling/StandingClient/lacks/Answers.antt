use Rattle.std.proofs.Common.{◌∙◌, sym}
use Rattle.cluster_run.specs.Parts.{client_self}
use Rattle.cluster_nodes.proofs.Clients.{ask_can, ask_lacks, nameless_can}
use Rattle.cluster_nodes.proofs.calling.StandingClient.lacks.Goals as goal

pub returns-in-Some-clause-held : goal.returns-in-Some-clause-held
returns-in-Some-clause-held g c = λ h k.
    ask_can c.args.self.now.client.held c.args.ask c.in-Some.slot c.slots.result
    (sym c.slot_named.ensures ∙ c.in-Some.is) c.slots.ensures.held h k

pub returns-in-Some-clause-lacking : goal.returns-in-Some-clause-lacking
returns-in-Some-clause-lacking g c = λ s number client st h.
    ask_lacks (client_self s number) client c.args.ask c.in-Some.slot c.slots.result (sym c.slot_named.ensures ∙ c.in-Some.is)
    (c.slots.ensures.shown client st.shows) h

pub returns-in-None-clause-held : goal.returns-in-None-clause-held
returns-in-None-clause-held g c = λ h k.
    nameless_can c.args.self.now.client.held c.args.ask (sym c.slot_named.ensures ∙ c.in-None.is) k
