use Rattle.std.proofs.Common.{◌≡◌, ℕ, ◌<◌, List, [], ◌∷◌, length, Option, sym, ap, subst, ◌∙◌, arith}
use Rattle.std.specs.Prelude.{option_map}
use Rattle.std.specs.Option.{option_and_then}
use Rattle.basil_types.specs.Shown.{transaction_of}
use Rattle.basil_types.specs.Transaction.{id}
use Rattle.basil_types.specs.Words.{words_of}
use Rattle.frame_views.specs.Shown.{committed_of}
use Rattle.frame_views.specs.Values.{CommittedValue}
use Rattle.node_steps.specs.Pendings.{IsReady}
use Rattle.node_steps.specs.Pens.{pen_value}
use Rattle.txn_table.specs.Entries.{EntryValue}
use Rattle.replica_core.specs.Fronts.{front_to, vote_said}
use Rattle.replica_core.specs.Known.{known_of, proven_at}
use Rattle.replica_core.specs.Placing.{entry_now}
use Rattle.replica_core.specs.Seats.{book_with}
use Rattle.replica_core.proofs.Planning.{vote_planned, can_sign_one, unvoted_now, longer}
use Rattle.replica_core.proofs.first.plan_vote.Goals as goal

pub returns-clause-answer : goal.returns-clause-answer
returns-clause-answer g c accepts book s =
    let es = c.args.known.now.table.entries in
    let u = known_of es (transaction_of c.args.t) in
    let spent = g.S.Signer.spent c.args.pen.now in
    let left = g.S.Signer.left_of c.args.pen.now in
    let arrives = c.in_ok-arrival.arrival.arrives in
    let place = c.in_ok-arrival.arrival.place in
    let named : c.id-id.result ≡ id u = c.id-id.ensures
    ∙ sym c.in_ok-arrival.ensures.place.named in
    let proof = c.proof_of.ensures ∙ ap (λ (l : List EntryValue). option_and_then (proven_at l) c.args.proof) c.place_for.ensures.entries in
    vote_planned c.args.seat.now accepts (g.S.Signer.fixed c.args.pen.now) (book_with book es (pen_value spent left)) c.args.from u
    arrives place c.in_ok-arrival.ensures.place.change_known
    c.args.decision c.args.proof c.in_ok-pending.pending c.signatures_end_frames.ensures.votes
    (can_sign_one spent left (λ z. c.if-left-eq0.false (c.left-left.ensures ∙ z)))
    (c.in_ok-pending.ensures.words ∙ ap (λ (x : List ℕ). words_of (vote_said c.args.seat.now x c.args.decision)) named)
    (c.in_ok-pending.ensures.fronts
    ∙ ap (λ (x : List ℕ). front_to c.args.seat.now x c.args.decision (option_map committed_of c.proof_of.result) c.args.from ∷ []) named
    ∙ ap (λ (q : Option CommittedValue). front_to c.args.seat.now (id u) c.args.decision q c.args.from ∷ []) proof)

pub returns-clause-ready : goal.returns-clause-ready
returns-clause-ready g c =
    let es = c.args.known.now.table.entries in
    let ns = c.place_for.new.known.table.entries in
    let t = transaction_of c.args.t in
    let left : c.left-left.result ≡ 0 → ⊥ = c.if-left-eq0.false in (
      c.in_ok-arrival.ensures.place.arrives,
      record {
        enters = c.in_ok-arrival.ensures.place.enters;
        unvoted = λ e h. let z = sym c.in_ok-arrival.ensures.place.at ∙ h in let i : entry_now es t ≡ e = cc in
            ap (λ (x : EntryValue). x.vote) (sym i) ∙ unvoted_now es t c.requires.untouched;
        proof = λ at h. longer ns c.in_ok-arrival.arrival.arrives at
            (subst (λ (l : List EntryValue). at < length l) (sym c.place_for.ensures.entries) (c.requires.proof at h));
      },
      subst (λ (n : ℕ). IsReady n c.in_ok-pending.pending) c.size-size.ensures.size c.in_ok-pending.ensures.ready,
      omega (arith, left, c.left-left.ensures),
    )
