-- With its replica in its seat it stands at its station.
use Rattle.std.proofs.Common.{rules, ◌≡◌, Some, refl}
use Rattle.cluster_file.specs.Listing.{address_in}
use Rattle.party_seat.specs.Stations.{party_of, station_in}
use Rattle.party_seat.proofs.StationLaws.{no_refusal, not_begun, on_any, refuses, stands_at, there}
use Rattle.party_seat.proofs.serving.serve_seat.Goals as goal

pub returns-in-Ok-clause-all : goal.returns-in-Ok-clause-all
returns-in-Ok-clause-all g c s n e b still =
    let listed : address_in c.args.file.now (party_of c.args.seat.now) ≡ Some c.in-Some.address.now = search rules in
    let same : c.file.inside.cluster ≡ c.args.file.now.cluster = search rules in
    c.serve_at.ensures.all s n
    (stands_at c.args.file.now c.args.seat.now c.in-Some.address.now listed _ c.in-Ok.ensures.sits c.file.inside.cluster same s e) b still

pub returns-in-Ok-clause-some : goal.returns-in-Ok-clause-some
returns-in-Ok-clause-some g c s n e b =
    let listed : address_in c.args.file.now (party_of c.args.seat.now) ≡ Some c.in-Some.address.now = search rules in
    let same : c.file.inside.cluster ≡ c.args.file.now.cluster = search rules in
    c.serve_at.ensures.some s n
    (stands_at c.args.file.now c.args.seat.now c.in-Some.address.now listed _ c.in-Ok.ensures.sits c.file.inside.cluster same s e) b

pub returns-in-Ok-clause-stands : goal.returns-in-Ok-clause-stands
returns-in-Ok-clause-stands g c s n e b =
    let listed : address_in c.args.file.now (party_of c.args.seat.now) ≡ Some c.in-Some.address.now = search rules in
    let same : c.file.inside.cluster ≡ c.args.file.now.cluster = search rules in
    c.serve_at.ensures.stands s n
    (stands_at c.args.file.now c.args.seat.now c.in-Some.address.now listed _ c.in-Ok.ensures.sits c.file.inside.cluster same s e) b

pub returns-in-Ok-clause-seated : goal.returns-in-Ok-clause-seated
returns-in-Ok-clause-seated g c =
    let listed : address_in c.args.file.now (party_of c.args.seat.now) ≡ Some c.in-Some.address.now = search rules in
    let sits = c.in-Ok.ensures.sits in
    on_any c.serve_at.result (there c.args.file.now c.args.seat.now c.in-Some.address.now listed _ refl sits.seated sits.is)

pub returns-in-Ok-clause-refused : goal.returns-in-Ok-clause-refused
returns-in-Ok-clause-refused g c =
    let listed : address_in c.args.file.now (party_of c.args.seat.now) ≡ Some c.in-Some.address.now = search rules in
    let sits = c.in-Ok.ensures.sits in
    refuses c.serve_at.result (station_in c.args.file.now c.args.seat.now)
    (there c.args.file.now c.args.seat.now c.in-Some.address.now listed _ refl sits.seated sits.is) c.serve_at.ensures.seated

pub returns-in-Ok-clause-idle : goal.returns-in-Ok-clause-idle
returns-in-Ok-clause-idle g c =
    let listed : address_in c.args.file.now (party_of c.args.seat.now) ≡ Some c.in-Some.address.now = search rules in
    let sits = c.in-Ok.ensures.sits in
    no_refusal (station_in c.args.file.now c.args.seat.now)
    (there c.args.file.now c.args.seat.now c.in-Some.address.now listed _ refl sits.seated sits.is) _

pub returns-in-Ok-clause-still : goal.returns-in-Ok-clause-still
returns-in-Ok-clause-still g c =
    let listed : address_in c.args.file.now (party_of c.args.seat.now) ≡ Some c.in-Some.address.now = search rules in
    let sits = c.in-Ok.ensures.sits in
    no_refusal (station_in c.args.file.now c.args.seat.now)
    (there c.args.file.now c.args.seat.now c.in-Some.address.now listed _ refl sits.seated sits.is) _

pub returns-in-Err-clause-stands : goal.returns-in-Err-clause-stands
returns-in-Err-clause-stands g c s n e b = not_begun s _ _ _ n _ _ _ c.from.ensures b
