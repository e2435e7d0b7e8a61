-- A planned proposal is the answer to the word that makes it.
use Rattle.std.proofs.Common.{◌≡◌, ℕ, List, [], ◌∷◌, map, Some, None, Ok, sym, ap, ◌∙◌}
use Rattle.std.specs.List.{range_with_len}
use Rattle.basil_types.specs.declared.outbox.Envelope.{Envelope}
use Rattle.basil_types.specs.declared.party.Party.TheVariants.{Replica}
use Rattle.basil_types.specs.Transaction as transactions
use Rattle.basil_types.specs.Transaction.{TransactionValue}
use Rattle.basil_types.specs.Words.{words_of}
use Rattle.certificates.specs.Accepted.{Accepted}
use Rattle.fallback_leader.specs.Elections.{ProposalValue}
use Rattle.frame_views.specs.Values.{ElectValue, DecideValue, Decide}
use Rattle.frame_writing.specs.Unsigned.{unsigned_decide, EndsSigned}
use Rattle.keyring.specs.Signing.{Signing}
use Rattle.node_steps.specs.declared.pending.Pending.{Pending}
use Rattle.node_steps.specs.Envelopes.{EnvelopeValue}
use Rattle.node_steps.specs.Framed.{framed}
use Rattle.node_steps.specs.Pendings.{fronts_of, sealed_all}
use Rattle.node_steps.specs.Pens.{after_one}
use Rattle.node_steps.specs.Refusing.{unless}
use Rattle.quorum_laws.specs.Numbers.{replicas}
use Rattle.replica_core.specs.declared.seat.Seat.{Seat}
use Rattle.replica_core.specs.ElectFronts.{decide_said, front_for}
use Rattle.replica_core.specs.Elections.{as_listed, propose_done}
use Rattle.replica_core.specs.LeadWorks.{kept_after, perform_lead}
use Rattle.replica_core.specs.Replicas.{BookValue}
use Rattle.replica_core.specs.Seats.{self_at}
use Rattle.replica_core.specs.Signing.{exhausted, proposal_words}
use Rattle.replica_core.specs.Telling.{Told, told_of, begun}
use Rattle.replica_core.proofs.Sends.{sends}

abbrev pub DecidesEnd : Type 0
DecidesEnd = (m : DecideValue) → EndsSigned (Decide m) (unsigned_decide m) m.signature

pub propose_planned : (seat : Seat) (accepts : Accepted) (signing : Signing) (book : BookValue) (t : TransactionValue) (m : ElectValue)
    (id : List ℕ) (view : ℕ) (q : ProposalValue) (p : Pending) → DecidesEnd
    → exhausted 1 book.pen ≡ None → transactions.id t ≡ id → m.view ≡ view
    → p.words ≡ words_of (proposal_words (self_at seat accepts signing) id q.decision view)
    → fronts_of p ≡ map (front_for (unsigned_decide (decide_said seat t view q)))
    (map (Replica seat.home.shard) (range_with_len 0 (replicas seat.home.cluster.f)))
    → told_of (unless (exhausted 1 book.pen) (propose_done (self_at seat accepts signing) book t m q))
    ≡ Ok (perform_lead signing (kept_after seat book t m) (begun book) (record { pending = Some p }))
propose_planned seat accepts signing book t m id view q p law left named viewed words fronts =
    let g = signing.gives book.pen.spent p.words in
    let all = range_with_len 0 (replicas seat.home.cluster.f) in
    let decide : ℕ → List ℕ → DecideValue =
    λ v s. record {
      transaction = t;
      shard = seat.home.shard;
      replica = seat.index;
      decision = q.decision;
      view = v;
      words = map as_listed q.words;
      signature = s;
    } in
    let sent : ℕ → List ℕ → List Envelope =
    λ v w. map framed
    (map
    (λ r. let e : EnvelopeValue = record {
      to = Replica seat.home.shard r;
      message = Decide
          (decide v (signing.gives book.pen.spent w));
    } in e) (range_with_len 0 (replicas seat.home.cluster.f))) in
    let told : List (List ℕ) → List Envelope → Told =
    λ signed sent. record
    { book = record book { kept = kept_after seat book t m; pen = after_one book.pen }; signed = signed; sent = sent } in
    let said : List ℕ → ℕ → List ℕ = λ i v. words_of (proposal_words (self_at seat accepts signing) i q.decision v) in
    let sealed : sent view p.words ≡ sealed_all g p =
    sends (Decide (decide view g)) (unsigned_decide (decide_said seat t view q)) g p (Replica seat.home.shard)
    (range_with_len 0 (replicas seat.home.cluster.f)) (law (decide view g)) fronts in
    ap (λ o. told_of (unless o (propose_done (self_at seat accepts signing) book t m q))) left
    ∙ ap Ok (ap (λ i. told (said i m.view ∷ []) (sent m.view (said i m.view))) named
    ∙ ap (λ v. told (said id v ∷ []) (sent v (said id v))) viewed
    ∙ ap (λ w. told (w ∷ []) (sent view w)) (sym words)
    ∙ ap (told (p.words ∷ [])) sealed)
