-- What a planned answer is, under the room of a pool.
use Rattle.std.proofs.Common.{◌≡◌, ◌+◌, ◌≤◌, ℕ, Bool, true, false, List, [], ◌∷◌}
use Rattle.std.proofs.Common.{◌++◌, Ok, Err, length, map, refl, sym, ap, subst, ◌∙◌, arith}
use Rattle.std.specs.Prelude.{Result, nat_le, ◌&&◌}
use Rattle.basil_types.specs.declared.outbox.Envelope.{Envelope}
use Rattle.fallback_leader.specs.declared.words.KeptWord.{KeptWord}
use Rattle.keyring.specs.Signing.{Signing}
use Rattle.node_steps.specs.Envelopes.{EnvelopeValue}
use Rattle.node_steps.specs.Framed.{framed}
use Rattle.node_steps.specs.Pendings.{bytes_sent}
use Rattle.node_steps.specs.Pens.{PenValue, GivesItsSize}
use Rattle.txn_table.specs.Entries.{EntryValue}
use Rattle.replica_core.specs.declared.parts.Parts.{Parts}
use Rattle.replica_core.specs.declared.refusal.Refusal.{Refusal}
use Rattle.replica_core.specs.Answers.{answer}
use Rattle.replica_core.specs.Nodes.{Shows, ShowsSame}
use Rattle.replica_core.specs.Replicas.{BookValue, Done, LoggedEntry, ReplicaSelf}
use Rattle.replica_core.specs.Telling.{Told, told, told_of}
use Rattle.replica_laws.specs.Steps.{Handed, PlacesNeverRepeat, Spends, left_by, signed_in}
use Rattle.message_pool.specs.declared.pool.Room.{Room}
use Rattle.basil_types.specs.declared.outbox.Outbox.{Outbox}
use Rattle.cluster_nodes.specs.Handling.{HasRoom, fits}
use Rattle.std.proofs.Math.Dec.{leb-zero}
use Rattle.std.proofs.lemmas.Bool.{leb-true}
use Rattle.cluster_nodes.specs.Sizes.{Counts}

-- ---- what is shown

pub shown_same : (old new : Parts) (pen : PenValue) (book : BookValue) → ShowsSame old new → Shows old pen book → Shows new pen book
shown_same old new pen book same s =
    let made : List EntryValue → List LoggedEntry → List KeptWord → BookValue =
    λ e l k. record book { entries = e; logged = l; kept = k; pen = pen } in
    record {
      same = ap (λ e. made e new.logged.entries new.leading.kept) same.entries
          ∙ ap (λ l. made old.known.table.entries l new.leading.kept) same.logged
          ∙ ap (made old.known.table.entries old.logged.entries) same.kept
          ∙ s.same;
      noted = same.noted book.noted s.noted;
    }

-- what is shown after two steps that show the same
pub shows_on : (old mid new : Parts) → ShowsSame old mid → ShowsSame mid new → ShowsSame old new
shows_on old mid new a b =
    record {
      entries = b.entries ∙ a.entries;
      noted = λ noted h. b.noted noted (a.noted noted h);
      logged = b.logged ∙ a.logged;
      kept = b.kept ∙ a.kept;
    }

-- ---- what was answered

-- it is done, and told
pub record Answered (a : Result Done Refusal) (t : Told) : Type 0 where
  pub done : Done
  pub is : a ≡ Ok done
  pub tells : told done ≡ t

abbrev told_or : Told → Result Told Refusal → Told
told_or t (Ok x) = x
told_or t (Err e) = t

pub answered : (a : Result Done Refusal) (t : Told) → told_of a ≡ Ok t → Answered a t
answered (Ok d) t e = record { done = d; is = refl; tells = ap (told_or t) e }
answered (Err r) t e = absurd cc

-- ---- room

pub fits_as_told : (room : Room) (sent : List EnvelopeValue) (told_sent : List Envelope) (messages bytes : ℕ) →
    map framed sent ≡ told_sent → Counts told_sent messages bytes →
    fits room sent ≡ (nat_le messages room.messages && nat_le bytes room.bytes)
fits_as_told room sent told_sent messages bytes e c =
    ap (λ (es : List Envelope). nat_le (length es) room.messages && nat_le (bytes_sent es) room.bytes) e
    ∙ ap (λ (n : ℕ). nat_le n room.messages && nat_le (bytes_sent told_sent) room.bytes) c.messages
    ∙ ap (λ (n : ℕ). nat_le messages room.messages && nat_le n room.bytes) c.bytes

-- the room was asked for what the plan tells
pub asked : (room : Room) (messages bytes m b : ℕ) (r w : Bool) → m ≡ messages → b ≡ bytes →
    r ≡ (nat_le m room.messages && nat_le b room.bytes) → r ≡ w → (nat_le messages room.messages && nat_le bytes room.bytes) ≡ w
asked room messages bytes m b r w e f h k =
    ap (λ (n : ℕ). nat_le n room.messages && nat_le bytes room.bytes) (sym e)
    ∙ ap (λ (n : ℕ). nat_le m room.messages && nat_le n room.bytes) (sym f) ∙ sym h ∙ k

-- ---- the pen

one_step : PlacesNeverRepeat → (me : ReplicaSelf) (h : Handed) (book : BookValue) (d : Done) →
    answer me h.now h.from book h.frame ≡ Ok d → Spends book d.book (length (d.signed ++ []))
one_step places me h book d e =
    subst (λ (r : Result Done Refusal). Spends book (left_by book r).book
    (length ((left_by book r).signed ++ signed_in me (left_by book r).book []))) e (places me book (h ∷ []))

gives_then : (signing : Signing) (old new : BookValue) (n : ℕ) → Spends old new n → GivesItsSize signing old.pen →
    GivesItsSize signing new.pen
gives_then signing old new n spends gives place words below =
    let more = spends.spent in
    let left = spends.left in
    gives place words (omega (arith, more, left, below))

pub gives_after : PlacesNeverRepeat → (me : ReplicaSelf) (h : Handed) (book : BookValue) (d : Done) (signing : Signing) →
    answer me h.now h.from book h.frame ≡ Ok d → GivesItsSize signing book.pen → GivesItsSize signing d.book.pen
gives_after places me h book d signing e =
    gives_then signing book d.book (length (d.signed ++ [])) (one_step places me h book d e)

-- ---- room

both : (a b : Bool) → (a && b) ≡ true → (a ≡ true) × (b ≡ true)
both true b h = (refl, h)
both false b h = absurd cc

pub within_by : (room : Room) (out : Outbox) (messages bytes : ℕ) → length out.messages.items ≡ messages →
    bytes_sent out.messages.items ≡ bytes → (nat_le messages room.messages && nat_le bytes room.bytes) ≡ true → HasRoom room out
within_by room out messages bytes count size h =
    let k = both (nat_le messages room.messages) (nat_le bytes room.bytes) h in
    record {
      messages = subst (λ n. n ≤ room.messages) (sym count) (leb-true messages room.messages k.0);
      bytes = subst (λ n. n ≤ room.bytes) (sym size) (leb-true bytes room.bytes k.1);
    }

-- there is room for nothing
pub nothing_fits : (room : Room) → fits room [] ≡ true
nothing_fits room = ap (λ b. b && nat_le 0 room.bytes) (leb-zero room.messages) ∙ leb-zero room.bytes
