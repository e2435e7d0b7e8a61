use Rattle.std.proofs.Common.{◌∙◌, refl, sym}
use Rattle.cluster_run.specs.Parts.{noted}
use Rattle.cluster_world.proofs.SendingLaws.{noted_shows, sends_so}
use Rattle.cluster_world.proofs.engine.Engine.send.Goals as goal

pub returns : goal.returns
returns g c = λ s st said mail h holds.
    let old = c.args.self.now in
    let mid = record old { sight = c.note_all.new.self } in
    let now = record st { watch = noted c.args.from said st.watch } in
    sends_so g.V.Verifier g.S.Signer s old mid c.enter_all.new.self st c.args.from said mail c.args.out.messages.items c.enter_all.result
    holds.messages c.requires h
    (c.enter_all.ensures s now
    (noted_shows g.V.Verifier g.S.Signer s old mid c.enter_all.new.self st c.args.from said c.as_slice.result.now refl
    c.in_ok-note_all.ensures.noted (sym (c.as_slice.ensures ∙ holds.signed)) h))
