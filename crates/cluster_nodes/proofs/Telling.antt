-- What a plan of a replica sends, counted.
use Rattle.std.proofs.Common.{◌≡◌, ◌+◌, ◌<◌, ◌≤◌, ℕ, List, [], suc, ◌∷◌, ◌++◌, Option}
use Rattle.std.proofs.Common.{Some, None, length, map, refl, sym, ap, ◌∙◌, arith}
use Rattle.basil_types.specs.declared.outbox.Envelope.{Envelope}
use Rattle.basil_types.specs.Transaction.{long_text}
use Rattle.fallback_leader.specs.declared.words.KeptWord.{KeptWord}
use Rattle.keyring.specs.Signing.{Signing}
use Rattle.node_steps.specs.declared.pending.Pending.{Pending}
use Rattle.node_steps.specs.declared.pending.Unsigned.{Unsigned}
use Rattle.node_steps.specs.Pendings.{bytes_in, bytes_sent, sealed, sealed_all}
use Rattle.node_steps.specs.Pens.{PenValue, after_one, GivesItsSize}
use Rattle.replica_core.specs.declared.logging.Said.{Said}
use Rattle.replica_core.specs.declared.logging.Said.TheVariants.{Again, Anew, Entered}
use Rattle.replica_core.specs.declared.parts.Parts.{Parts}
use Rattle.replica_core.specs.declared.plan.Plan.{Plan}
use Rattle.replica_core.specs.declared.plan.Work.{Work}
use Rattle.replica_core.specs.declared.plan.Work.TheVariants.{Known, Read, Log, Lead}
use Rattle.replica_core.specs.declared.work.Release.{Release}
use Rattle.replica_core.specs.declared.work.KnownWork.{KnownWork}
use Rattle.replica_core.specs.declared.work.KnownWork.TheVariants as known
use Rattle.replica_core.specs.KnownWorks as knowing
use Rattle.replica_core.specs.LeadWorks as leading
use Rattle.replica_core.specs.LogWorks as logging
use Rattle.replica_core.specs.Nodes.{CanCommit, perform_plan}
use Rattle.replica_core.specs.Replicas.{BookValue}
use Rattle.replica_core.specs.Telling.{Told, begun, with_signed}
use Rattle.replica_core.specs.Works as works
use Rattle.cluster_nodes.specs.Sizes.{Counts}

-- ---- frames with their signatures

sent_behind : (es fs : List Envelope) → bytes_sent (es ++ fs) ≡ bytes_sent es + bytes_sent fs
sent_behind [] fs = omega arith
sent_behind (e ∷ es) fs = let i = sent_behind es fs in omega (arith, i)

length_behind : {A : Type 0} (xs ys : List A) → length (xs ++ ys) ≡ length xs + length ys
length_behind [] ys = omega arith
length_behind (x ∷ xs) ys = let i = length_behind xs ys in omega (arith, i)

sealed_bytes : (signature : List ℕ) (us : List Unsigned) → bytes_sent (map (sealed signature) us) ≡ bytes_in (length signature) us
sealed_bytes signature [] = refl
sealed_bytes signature (u ∷ us) =
    let i = sealed_bytes signature us in
    let l = length_behind u.frame.items (long_text signature) in
    omega (arith, i, l)

length_sealed : (signature : List ℕ) (us : List Unsigned) → length (map (sealed signature) us) ≡ length us
length_sealed signature [] = refl
length_sealed signature (u ∷ us) = ap suc (length_sealed signature us)

-- what stands before, with frames that are sealed by a signature of this size
pub counts_sealed : (before : List Envelope) (m b size : ℕ) (signature : List ℕ) (p : Pending) → length signature ≡ size →
    Counts before m b → Counts (before ++ sealed_all signature p) (m + length p.frames.items) (b + bytes_in size p.frames.items)
counts_sealed before m b size signature p l c =
    record {
      messages = length_behind before (sealed_all signature p) ∙ ap (λ k. k + length (sealed_all signature p)) c.messages
          ∙ ap (λ k. m + k) (length_sealed signature p.frames.items);
      bytes = sent_behind before (sealed_all signature p) ∙ ap (λ k. k + bytes_sent (sealed_all signature p)) c.bytes
          ∙ ap (λ k. b + k) (sealed_bytes signature p.frames.items ∙ ap (λ k. bytes_in k p.frames.items) l);
    }

counts_one : (before : List Envelope) (m b : ℕ) (e : Envelope) → Counts before m b →
    Counts (before ++ e ∷ []) (m + 1) (b + length e.frame)
counts_one before m b e c =
    let l = length_behind before (e ∷ []) in
    let s = sent_behind before (e ∷ []) in
    let n = c.messages in
    let k = c.bytes in
    record { messages = omega (arith, l, n); bytes = omega (arith, s, k) }

-- ---- pens

pub gives_now : (signing : Signing) (pen : PenValue) (words : List ℕ) → GivesItsSize signing pen → 0 < pen.left →
    length (signing.gives pen.spent words) ≡ signing.size
gives_now signing pen words gives left = gives pen.spent words (omega (arith, left))

gives_next : (signing : Signing) (pen : PenValue) → GivesItsSize signing pen → 0 < pen.left → GivesItsSize signing (after_one pen)
gives_next signing pen gives left place words below = gives place words (omega (arith, left, below))

-- ---- each kind of work

module _ (signing : Signing) (t : Told) (m b : ℕ) (gives : GivesItsSize signing t.book.pen) (counts : Counts t.sent m b) where
  signed_counts : (p : Pending) → 0 < t.book.pen.left →
      Counts (with_signed signing t p).sent (m + length p.frames.items) (b + bytes_in signing.size p.frames.items)
  signed_counts p left =
      counts_sealed t.sent m b signing.size _ p (gives_now signing t.book.pen p.words gives left) counts

  said_counts : (s : Said) → logging.CanSay signing.size t.book.pen.left s →
      Counts (logging.said_told signing t s).sent (m + logging.said_messages s) (b + logging.said_bytes signing.size s)
  said_counts (Again reply sent) can = counts_one t.sent m b sent counts
  said_counts (Anew p) can = signed_counts p can.1
  said_counts (Entered p) can = signed_counts p can.1

  lead_counts : (o : Option Pending) → leading.CanPropose signing.size t.book.pen.left o →
      Counts (leading.lead_told signing t o).sent (m + leading.messages_in o) (b + leading.bytes_of_pending signing.size o)
  lead_counts None can = let n = counts.messages in let k = counts.bytes in record { messages = omega (arith, n); bytes = omega (arith, k) }
  lead_counts (Some p) can = signed_counts p can.1

-- ---- releases

same_counts : (sent : List Envelope) (m n b k : ℕ) → m ≡ n → b ≡ k → Counts sent m b → Counts sent n k
same_counts sent m n b k e f c = record { messages = c.messages ∙ e; bytes = c.bytes ∙ f }

released_counts : (signing : Signing) (rs : List Release) (t : Told) (m b : ℕ) → GivesItsSize signing t.book.pen →
    length rs ≤ t.book.pen.left → Counts t.sent m b →
    Counts (knowing.all_released signing rs t).sent (m + knowing.frames_in rs) (b + knowing.release_bytes signing.size rs)
released_counts signing [] t m b gives left counts =
    same_counts t.sent m (m + 0) b (b + 0) (omega arith) (omega arith) counts
released_counts signing (r ∷ rs) t m b gives left counts =
    let here : 0 < t.book.pen.left = omega (arith, left) in
    let frames = r.pending.frames.items in
    same_counts _ ((m + length frames) + knowing.frames_in rs) _
    ((b + bytes_in signing.size frames) + knowing.release_bytes signing.size rs) _
    (omega arith) (omega arith)
    (released_counts signing rs (knowing.released_told signing t r) (m + length frames) (b + bytes_in signing.size frames)
    (gives_next signing t.book.pen gives here) (omega (arith, left)) (signed_counts signing t m b gives counts r.pending here))

-- ---- plans

nothing : Counts [] 0 0
nothing = record { messages = refl; bytes = refl }

module _ (signing : Signing) (kept : List KeptWord) (book : BookValue) (parts : Parts) (gives : GivesItsSize signing book.pen) where
  known_counts : (w : KnownWork) → knowing.CanPerform signing.size book.pen.left parts.known w →
      Counts (knowing.perform_known signing (begun book) w).sent (knowing.message_count w) (knowing.byte_count signing.size w)
  known_counts known.Nothing can = nothing
  known_counts (known.Tell e) can = same_counts _ _ _ _ _ (omega arith) (omega arith) (counts_one [] 0 0 e nothing)
  known_counts (known.Wait arrives place asker) can = nothing
  known_counts (known.Vote arrives place decision proof p) can =
      same_counts _ _ _ _ _ (omega arith) (omega arith) (signed_counts signing (begun book) 0 0 gives nothing p can.3)
  known_counts (known.End arrives place outcome certificate votes) can =
      same_counts _ _ _ _ _ (omega arith) (omega arith) (released_counts signing votes.items _ 0 0 gives can.4 nothing)

  work_counts : (w : Work) → works.CanPerform signing.size book.pen.left parts w →
      Counts (works.perform_work signing kept (begun book) w).sent (works.message_count w) (works.byte_count signing.size w)
  work_counts (Known w) can = known_counts w can
  work_counts (Read w) can =
      same_counts _ _ _ _ _ (omega arith) (omega arith) (signed_counts signing (begun book) 0 0 gives nothing w.pending can.left)
  work_counts (Log w) can =
      same_counts _ _ _ _ _ (omega arith) (omega arith) (said_counts signing (begun book) 0 0 gives nothing w.said can.says)
  work_counts (Lead w) can =
      same_counts _ _ _ _ _ (omega arith) (omega arith) (lead_counts signing (begun book) 0 0 gives nothing w.pending can)

  pub plan_counts : (plan : Plan) → CanCommit signing.size book.pen.left parts plan →
      Counts (perform_plan signing kept (begun book) plan).sent plan.messages plan.bytes
  plan_counts plan can =
      same_counts _ _ _ _ _ (sym can.messages) (sym can.bytes) (work_counts plan.work can.can)
