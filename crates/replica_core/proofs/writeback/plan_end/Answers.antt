use Rattle.std.proofs.Common.{◌≡◌, ℕ, List, [], length, true, refl, sym, ap, subst, ◌∙◌, arith}
use Rattle.std.specs.Prelude.{Ok, Err}
use Rattle.basil_types.specs.Shown.{transaction_of}
use Rattle.basil_types.specs.Transaction.{id}
use Rattle.basil_types.specs.declared.party.Decision.{Decision}
use Rattle.certificates.specs.Refusals as refusals
use Rattle.frame_views.specs.Shown.{certificate_of}
use Rattle.frame_views.specs.Spelling.{certificate_bytes}
use Rattle.frame_views.specs.Stored.{spells_certificate}
use Rattle.node_steps.specs.Pens.{pen_value}
use Rattle.node_steps.specs.Refusing.{unless}
use Rattle.txn_table.specs.Entries.{EntryValue, decided}
use Rattle.txn_table.specs.Tables.{place_of, entry_with, changed}
use Rattle.replica_core.specs.declared.refusal.Refusal.TheVariants.{Exhausted}
use Rattle.replica_core.specs.Holding.{arrived_in}
use Rattle.replica_core.specs.Known.{with_known, changed_at}
use Rattle.replica_core.specs.Releases.{released_by, AreReleasesOf, AreWithin}
use Rattle.replica_core.specs.Replicas.{quiet}
use Rattle.replica_core.specs.Seats.{self_at, book_with}
use Rattle.replica_core.specs.Telling.{Told, told_of}
use Rattle.replica_core.specs.Writebacks.{releases, outcome_done, with_outcome}
use Rattle.replica_core.proofs.Ending.{released_within, releases_are, end_told, end_can, as_many, short_of, enough_of}
use Rattle.replica_core.proofs.writeback.plan_end.Goals as goal

pub released_votes-requires : goal.released_votes-requires
released_votes-requires g c x h =
    let named = c.id-id.ensures in
    c.requires x (sym (ap (entry_with c.args.known.now.table.entries) named) ∙ h)

pub plan_releases-requires-clause-within : goal.plan_releases-requires-clause-within
plan_releases-requires-clause-within g c =
    let es = c.args.known.now.table.entries in
    subst (AreWithin es) (sym c.in_ok-votes.ensures)
    (released_within c.released_votes_ascend.ensures c.args.seat.now.home es (place_of es c.id-id.result)
    c.decision_of-outcome.result)

pub returns-then-left-count-clause-answer : goal.returns-then-left-count-clause-answer
returns-then-left-count-clause-answer g c accepts book s n =
    let es = c.args.known.now.table.entries in
    let t = transaction_of c.args.t in
    let home = c.args.seat.now.home in
    let spent = g.S.Signer.spent c.args.pen.now in
    let left = g.S.Signer.left_of c.args.pen.now in
    let b = book_with book es (pen_value spent left) in
    let me = self_at c.args.seat.now accepts (g.S.Signer.fixed c.args.pen.now) in
    let cert = certificate_of c.args.certificate.now in
    let named = c.id-id.ensures in
    let outcome = c.decision_of-outcome.ensures ∙ ap refusals.decision_of c.body.ensures.shows in
    let d = refusals.decision_of cert.body in
    let rs = releases me es (place_of es (id t)) d in
    let is : c.in_ok-votes.votes.items ≡ rs = c.in_ok-votes.ensures
    ∙ ap (λ (x : List ℕ). released_by home es (place_of es x) c.decision_of-outcome.result) named
    ∙ ap (released_by home es (place_of es (id t))) outcome ∙ sym (releases_are me es (place_of es (id t)) d) in
    ap (λ o. unless o (outcome_done me b t d cert rs))
    (short_of spent left (length rs) (omega (arith, c.if-left-count.true, c.left-left.ensures, c.len-count.ensures, ap length is)))
    ∙ ap (λ (n : ℕ). Err (Exhausted n)) (sym c.left-left.ensures)

pub returns-clause-answer : goal.returns-clause-answer
returns-clause-answer g c accepts book s =
    let es = c.args.known.now.table.entries in
    let t = transaction_of c.args.t in
    let seat = c.args.seat.now in
    let home = seat.home in
    let signing = g.S.Signer.fixed c.args.pen.now in
    let me = self_at seat accepts signing in
    let spent = g.S.Signer.spent c.args.pen.now in
    let left = g.S.Signer.left_of c.args.pen.now in
    let b = book_with book es (pen_value spent left) in
    let cert = certificate_of c.args.certificate.now in
    let d = refusals.decision_of cert.body in
    let named = c.id-id.ensures in
    let outcome : c.decision_of-outcome.result ≡ d = c.decision_of-outcome.ensures ∙ ap refusals.decision_of c.body.ensures.shows in
    let rs = released_by home es (place_of es (id t)) d in
    let is : c.in_ok-votes.votes.items ≡ rs = c.in_ok-votes.ensures
    ∙ ap (λ (x : List ℕ). released_by home es (place_of es x) c.decision_of-outcome.result) named
    ∙ ap (released_by home es (place_of es (id t))) outcome in
    let are_same = releases_are me es (place_of es (id t)) d in
    let arrives = c.in_ok-arrival.arrival.arrives in
    let place = c.in_ok-arrival.arrival.place in
    let bytes : c.in_ok-bytes.bytes.items ≡ certificate_bytes cert = c.in_ok-bytes.ensures ∙ c.bytes.ensures.spelled in
    let entries : changed (decided c.decision_of-outcome.result c.in_ok-bytes.bytes.items) place (arrived_in es arrives) ≡ changed_at
    (decided d (certificate_bytes cert)) (id t) (with_known es t) =
    sym (c.in_ok-arrival.ensures.place.change (decided c.decision_of-outcome.result c.in_ok-bytes.bytes.items))
    ∙ ap (λ (x : Decision). changed_at (decided x c.in_ok-bytes.bytes.items) (id t) (with_known es t)) outcome
    ∙ ap (λ (x : List ℕ). changed_at (decided d x) (id t) (with_known es t)) bytes in
    let made : List EntryValue → Told = λ es. record { book = record b { entries = es }; signed = []; sent = [] } in
    let are = subst (λ (l : List (ℕ × Decision)). AreReleasesOf seat c.size-size.result es l c.in_ok-planned.planned.items) is
    c.in_ok-planned.ensures in
    ap (λ o. told_of (unless o (outcome_done me b t d cert (releases me es (place_of es (id t)) d))))
    (enough_of spent left (length (releases me es (place_of es (id t)) d))
    (omega (arith, c.if-left-count.false, c.left-left.ensures, c.len-count.ensures, ap length is, ap length are_same)))
    ∙ ap Ok (end_told seat accepts signing c.released_votes_ascend.ensures c.signatures_end_frames.ensures.votes c.size-size.result es t
    (decided d (certificate_bytes cert)) d c.in_ok-planned.planned.items (quiet (with_outcome b t d cert)) _ are refl
    (ap made entries))

pub returns-clause-ready : goal.returns-clause-ready
returns-clause-ready g c =
    let es = c.args.known.now.table.entries in
    let t = transaction_of c.args.t in
    let seat = c.args.seat.now in
    let home = seat.home in
    let vs = c.in_ok-planned.planned.items in
    let named = c.id-id.ensures in
    let outcome = c.decision_of-outcome.result in
    let rs = released_by home es (place_of es (id t)) outcome in
    let is : c.in_ok-votes.votes.items ≡ rs = c.in_ok-votes.ensures
    ∙ ap (λ (x : List ℕ). released_by home es (place_of es x) outcome) named in
    let f : EntryValue → EntryValue = decided outcome c.in_ok-bytes.bytes.items in
    let size = (g.S.Signer.fixed c.args.pen.now).size in
    let place = c.in_ok-arrival.arrival.place in
    let arrives = c.in_ok-arrival.arrival.arrives in
    let are = subst (λ (n : ℕ). AreReleasesOf seat n es rs vs) c.size-size.ensures.size
    (subst (λ (l : List (ℕ × Decision)). AreReleasesOf seat c.size-size.result es l vs) is c.in_ok-planned.ensures) in (
      c.in_ok-arrival.ensures.place.arrives,
      c.in_ok-arrival.ensures.place.enters,
      subst (λ (x : List ℕ). spells_certificate x ≡ true) (sym c.in_ok-bytes.ensures) c.bytes.ensures.whole,
      end_can c.released_votes_ascend.ensures seat size home es _ t f outcome vs are
          (ap (λ (l : List EntryValue). changed f place (arrived_in l arrives)) c.place_for.ensures.entries
          ∙ sym (c.in_ok-arrival.ensures.place.change f)),
      omega (arith, as_many seat size es rs vs are, ap length is, c.if-left-count.false, c.left-left.ensures, c.len-count.ensures),
    )
