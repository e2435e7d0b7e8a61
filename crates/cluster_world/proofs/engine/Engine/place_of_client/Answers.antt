use Rattle.std.proofs.Common.{◌≡◌, ◌≤◌, arith, length, suc}
use Rattle.cluster_world.proofs.AskingLaws.{nobody_there}
use Rattle.cluster_world.proofs.engine.Engine.place_of_client.Goals as goal

pub returns-else-place-len-clause-nobody : goal.returns-else-place-len-clause-nobody
returns-else-place-len-clause-nobody g c = λ s st h none.
    let from = c.in_ok-place.ensures in
    let number_of : suc c.in_ok-place.place ≡ c.args.number = omega (arith, from.0, from.1, c.from.ensures) in
    let beyond : length c.args.self.now.clients.items ≤ c.in_ok-place.place = omega (arith, c.len.ensures, c.if-place-len.false) in
    nobody_there g.V.Verifier g.S.Signer s c.args.self.now st c.args.number c.in_ok-place.place h number_of beyond
