use Rattle.party_seat.specs.Stations.{station_in}
use Rattle.party_commands.proofs.NodeLaws.{ends_at, ends_served, seated_ok, stopped_in}
use Rattle.party_commands.proofs.node.serve_in.Goals as goal

pub returns-clause-served : goal.returns-clause-served
returns-clause-served g c s n e b =
    let at = station_in c.args.file.now c.args.call.now.seat in
    let ok = seated_ok at s e in
    ends_served s c.args.call.now.connections n _ _ at ok c.serve_seat-served.result c.told_of.result c.told_of.ensures.told
    c.serve_seat-served.ensures.refused _ _ (c.serve_seat-served.ensures.some s n ok b)

pub returns-clause-whole : goal.returns-clause-whole
returns-clause-whole g c s n e b still =
    let at = station_in c.args.file.now c.args.call.now.seat in
    let ok = seated_ok at s e in
    ends_at s c.args.call.now.connections n _ _ at ok c.serve_seat-served.result c.told_of.result c.told_of.ensures.told
    c.serve_seat-served.ensures.refused (c.serve_seat-served.ensures.all s n ok b still)

pub returns-clause-stands : goal.returns-clause-stands
returns-clause-stands g c s n e b =
    let ok = seated_ok (station_in c.args.file.now c.args.call.now.seat) s e in
    stopped_in s c.args.call.now.connections n _ _ _ _ c.serve_seat-served.result c.told_of.result c.told_of.ensures.told
    c.told_of.ensures.link (c.serve_seat-served.ensures.stands s n ok b)
