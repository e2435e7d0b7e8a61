-- Work that is performed behind what an outbox held gives the same, behind that.
use Rattle.std.proofs.Common.{◌≡◌, ℕ, List, [], ◌∷◌, ◌++◌, Option, Some, None, refl, sym, ap, ◌∙◌, append_assoc, append-nil}
use Rattle.basil_types.specs.declared.outbox.Envelope.{Envelope}
use Rattle.basil_types.specs.declared.outbox.Outbox.{Outbox}
use Rattle.fallback_leader.specs.declared.words.KeptWord.{KeptWord}
use Rattle.keyring.specs.Signing.{Signing}
use Rattle.node_steps.specs.declared.pending.Pending.{Pending}
use Rattle.node_steps.specs.Pendings.{sealed_all}
use Rattle.node_steps.specs.Pens.{after_one}
use Rattle.txn_table.specs.Entries.{voted, decided}
use Rattle.txn_table.specs.Tables.{changed}
use Rattle.replica_core.specs.declared.election.LeadWork.{LeadWork}
use Rattle.replica_core.specs.declared.logging.LogWork.{LogWork}
use Rattle.replica_core.specs.declared.logging.Said.{Said}
use Rattle.replica_core.specs.declared.logging.Said.TheVariants.{Again, Anew, Entered}
use Rattle.replica_core.specs.declared.plan.Work.{Work}
use Rattle.replica_core.specs.declared.plan.Work.TheVariants as work
use Rattle.replica_core.specs.declared.reads.ReadWork.{ReadWork}
use Rattle.replica_core.specs.declared.work.KnownWork.{KnownWork}
use Rattle.replica_core.specs.declared.work.KnownWork.TheVariants.{Nothing, Tell, Wait, Vote, End}
use Rattle.replica_core.specs.declared.work.Release.{Release}
use Rattle.replica_core.specs.Holding.{arrived_in}
use Rattle.replica_core.specs.Known.{put_logged}
use Rattle.replica_core.specs.KnownWorks.{perform_known, released_told, all_released}
use Rattle.replica_core.specs.LeadWorks.{perform_lead, lead_told, with_kept}
use Rattle.replica_core.specs.LogWorks.{perform_log, said_told, reply_after, with_log}
use Rattle.replica_core.specs.ReadWorks.{perform_read, with_read}
use Rattle.replica_core.specs.Replicas.{BookValue, LoggedEntry}
use Rattle.replica_core.specs.Telling.{Told, behind, begun, given, told_with, with_entries, with_sent, with_signed}
use Rattle.replica_core.specs.Works.{perform_work}

module _ (signing : Signing) (words : List (List ℕ)) (frames : List Envelope) where
  abbrev on : Told → Told
  on t = record { book = t.book; signed = words ++ t.signed; sent = frames ++ t.sent }

  sent_on : (t : Told) (e : Envelope) → with_sent (on t) e ≡ on (with_sent t e)
  sent_on t e =
      let made : List Envelope → Told = λ m. record { book = t.book; signed = words ++ t.signed; sent = m } in
      ap made (append_assoc frames t.sent (e ∷ []))

  signed_on : (t : Told) (p : Pending) → with_signed signing (on t) p ≡ on (with_signed signing t p)
  signed_on t p =
      let made : List (List ℕ) → List Envelope → Told =
      λ s m. record { book = record (t.book) { pen = after_one t.book.pen }; signed = s; sent = m } in
      ap (λ s. made s ((frames ++ t.sent) ++ sealed_all (given signing t p) p)) (append_assoc words t.signed (p.words ∷ []))
      ∙ ap (made (words ++ (t.signed ++ p.words ∷ []))) (append_assoc frames t.sent (sealed_all (given signing t p) p))

  released_on : (t : Told) (r : Release) → released_told signing (on t) r ≡ on (released_told signing t r)
  released_on t r =
      ap (λ (x : Told). with_entries x (changed (voted r.decision (given signing t r.pending) None) r.place t.book.entries))
      (signed_on t r.pending)

  all_on : (rs : List Release) (t : Told) → all_released signing rs (on t) ≡ on (all_released signing rs t)
  all_on [] t = refl
  all_on (r ∷ rs) t = ap (all_released signing rs) (released_on t r) ∙ all_on rs (released_told signing t r)

  known_on : (t : Told) (w : KnownWork) → perform_known signing (on t) w ≡ on (perform_known signing t w)
  known_on t Nothing = refl
  known_on t (Tell envelope) = sent_on t envelope
  known_on t (Wait arrives place asker) = refl
  known_on t (Vote arrives place d proof p) =
      ap (λ (x : Told). with_entries x (changed (voted d (given signing t p) proof) place (arrived_in t.book.entries arrives)))
      (signed_on t p)
  known_on t (End arrives place outcome certificate votes) =
      all_on votes.items
      (with_entries t (changed (decided outcome certificate.items) place (arrived_in t.book.entries arrives)))

  read_on : (t : Told) (w : ReadWork) → perform_read signing (on t) w ≡ on (perform_read signing t w)
  read_on t w =
      ap (λ (x : Told). let y : Told = record x { book = with_read x.book w } in y) (signed_on t w.pending)

  said_on : (t : Told) (s : Said) → said_told signing (on t) s ≡ on (said_told signing t s)
  said_on t (Again reply sent) = sent_on t sent
  said_on t (Anew p) = signed_on t p
  said_on t (Entered p) = signed_on t p

  reply_on : (t : Told) (s : Said) → reply_after signing (on t) s ≡ reply_after signing t s
  reply_on t (Again reply sent) = refl
  reply_on t (Anew p) = refl
  reply_on t (Entered p) = refl

  log_on : (t : Told) (w : LogWork) → perform_log signing (on t) w ≡ on (perform_log signing t w)
  log_on t w =
      let entry : Option (List ℕ) → LoggedEntry = λ r. record { id = w.id; cell = w.cell; reply = r; askers = w.askers.items } in
      let made : Told → Option (List ℕ) → Told =
      λ x r. with_log x (arrived_in t.book.entries w.arrives) (put_logged (entry r) t.book.logged) in
      ap (λ (x : Told). made x (reply_after signing (on t) w.said)) (said_on t w.said)
      ∙ ap (made (on (said_told signing t w.said))) (reply_on t w.said)

  lead_told_on : (t : Told) (p : Option Pending) → lead_told signing (on t) p ≡ on (lead_told signing t p)
  lead_told_on t None = refl
  lead_told_on t (Some p) = signed_on t p

  lead_on : (kept : List KeptWord) (t : Told) (w : LeadWork) → perform_lead signing kept (on t) w ≡ on (perform_lead signing kept t w)
  lead_on kept t w = ap (λ (x : Told). with_kept x kept) (lead_told_on t w.pending)

  work_on : (kept : List KeptWord) (t : Told) (w : Work) → perform_work signing kept (on t) w ≡ on (perform_work signing kept t w)
  work_on kept t (work.Known w) = known_on t w
  work_on kept t (work.Read w) = read_on t w
  work_on kept t (work.Log w) = log_on t w
  work_on kept t (work.Lead w) = lead_on kept t w

pub behind_out : (signing : Signing) (kept : List KeptWord) (out : Outbox) (book : BookValue) (w : Work) →
    perform_work signing kept (told_with book out) w ≡ behind out (perform_work signing kept (begun book) w)
behind_out signing kept out book w =
    let made : List (List ℕ) → List Envelope → Told = λ s m. record { book = book; signed = s; sent = m } in
    ap (λ (t : Told). perform_work signing kept t w)
    (ap (λ s. made s out.messages.items) (sym (append-nil out.signed.items))
    ∙ ap (made (out.signed.items ++ [])) (sym (append-nil out.messages.items)))
    ∙ work_on signing out.signed.items out.messages.items kept (begun book) w
