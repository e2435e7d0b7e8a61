use Rattle.std.proofs.Common.{◌∙◌, ap, sym}
use Rattle.std.specs.Prelude.{None, slice_get, suc}
use Rattle.cluster_world.proofs.AskingLaws.{caller_at}
use Rattle.cluster_world.proofs.PrepareLaws.{caller_lacks, copied, formed_here}
use Rattle.cluster_world.proofs.engine.Engine.copy_formed.Goals as goal

pub returns-in_default : goal.returns-in_default
returns-in_default g c s st caller h at =
    absurd (caller_lacks g.V.Verifier g.S.Signer s c.args.self.now st c.args.place caller h
    (c.in_default.ensures ∙ ap (λ l. slice_get l c.args.place) c.deref.ensures.value) at)

pub returns-in_ok-copy-in-Some-formed : goal.returns-in_ok-copy-in-Some-formed
returns-in_ok-copy-in-Some-formed g c s st caller h at =
    let old = c.args.self.now in
    let place = c.args.place in
    let holds =
    caller_at g.V.Verifier g.S.Signer s old st place c.in-Some.node.now caller h
    (ap (λ l. slice_get l place) (sym c.deref.ensures.value) ∙ sym c.in-Some.ensures) at in
    copied caller c.args.slot c.in_ok-copy-in-Some-formed.copy _ c.in_ok-copy-in-Some-formed.ensures
    (c.in-Some-formed.ensures.parts s (suc place) caller holds)

pub returns-in-None : goal.returns-in-None
returns-in-None g c s st caller h at =
    let old = c.args.self.now in
    let place = c.args.place in
    let holds =
    caller_at g.V.Verifier g.S.Signer s old st place c.in-Some.node.now caller h
    (ap (λ l. slice_get l place) (sym c.deref.ensures.value) ∙ sym c.in-Some.ensures) at in
    formed_here caller c.args.slot None (c.in-None.ensures.parts s (suc place) caller holds)
