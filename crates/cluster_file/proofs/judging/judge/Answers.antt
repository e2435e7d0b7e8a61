use Rattle.std.proofs.Common.{rules, ℕ, List, Vec, map, option_map, string_bytes, sym, ap, ◌∙◌}
use Rattle.std.specs.declared.alloc.Global.{Global}
use Rattle.basil_types.specs.declared.party.Party.{Party}
use Rattle.cluster_file.specs.Values.{FileValue}
use Rattle.cluster_file.specs.Grammar.{each}
use Rattle.cluster_file.specs.Seats.{SeatValue, seats_of}
use Rattle.cluster_file.specs.Faults.{public_of, are_seated}
use Rattle.cluster_file.specs.Listing.{addresses_of}
use Rattle.cluster_file.proofs.ListingLaws.{made}
use Rattle.cluster_file.proofs.SeatLaws.{seated}
use Rattle.cluster_file.proofs.judging.judge.Goals as goal

pub invariant_of-result : goal.invariant_of-result
invariant_of-result c =
    let v = c.args.draft.now in
    let found = seated (are_seated c.in-Ok.cluster (seats_of v)) c.in-Some.seats.items (seats_of v)
    (ap (option_map (λ (x : Vec SeatValue Global). x.items)) (sym c.in-Some.is) ∙ c.in_ok-seats.ensures) in
    made v c.in-Ok.cluster _ c.in-Some-2.publics.items (map string_bytes c.in_ok-addresses.addresses.items) found.0
    (ap (each public_of) (sym found.1 ∙ sym c.deref.ensures.value) ∙ sym c.in_ok-publics.ensures
    ∙ ap (option_map (λ (x : Vec (Party × List ℕ) Global). x.items)) c.in-Some-2.is)
    (c.in_ok-addresses.ensures ∙ ap addresses_of (c.as_slice-replicas.ensures.value ∙ ap (λ (d : FileValue). d.replicas) c.draft.view_is))

pub returns-in_default-clause-refused : goal.returns-in_default-clause-refused
returns-in_default-clause-refused c = search rules
