use Rattle.std.proofs.Common.{◌≡◌, take, map}
use Rattle.client_steps.specs.Addressing.{enveloped}
use Rattle.client_steps.proofs.address.sent_to.Given as goal

abbrev pub invariant-loop-to : goal.invariant-loop-to
invariant-loop-to l = record { messages : l.messages.items ≡ map (enveloped l.fn.frame) (take l.to-index l.parties) }
