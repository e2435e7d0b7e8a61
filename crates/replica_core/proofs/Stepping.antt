-- A step is a plan and its performance; what a replica shows stays shown.
use Rattle.std.proofs.Common.{◌≡◌, ℕ, List, [], Ok, Err, sym, ap, subst, ◌∙◌}
use Rattle.std.specs.Prelude.{Result}
use Rattle.basil_types.specs.declared.outbox.Envelope.{Envelope}
use Rattle.basil_types.specs.declared.outbox.Outbox.{Outbox}
use Rattle.fallback_leader.specs.declared.words.KeptWord.{KeptWord}
use Rattle.keyring.specs.Signing.{Signing}
use Rattle.mvtso_check.specs.Standing.{StandsFor}
use Rattle.node_steps.specs.Pens.{PenValue}
use Rattle.txn_table.specs.Entries.{EntryValue}
use Rattle.replica_core.specs.declared.parts.Parts.{Parts}
use Rattle.replica_core.specs.declared.plan.Work.{Work}
use Rattle.replica_core.specs.declared.refusal.Refusal.{Refusal}
use Rattle.replica_core.specs.Nodes.{IsShown, Leaves, Performs, Shows, ShowsSame, Steps}
use Rattle.replica_core.specs.Replicas.{BookValue, Done, LoggedEntry, empty_book}
use Rattle.replica_core.specs.Telling.{Told, behind, begun, told, told_of, told_with}
use Rattle.replica_core.specs.Works.{perform_work}
use Rattle.replica_core.proofs.Behind.{behind_out}

-- ---- what is shown

pub shown_same : (old new : Parts) (pen : PenValue) (book : BookValue) → ShowsSame old new → Shows old pen book → Shows new pen book
shown_same old new pen book same s =
    let made : List EntryValue → List LoggedEntry → List KeptWord → BookValue =
    λ e l k. record book { entries = e; logged = l; kept = k; pen = pen } in
    record {
      same = ap (λ e. made e new.logged.entries new.leading.kept) same.entries
          ∙ ap (λ l. made old.known.table.entries l new.leading.kept) same.logged
          ∙ ap (made old.known.table.entries old.logged.entries) same.kept
          ∙ s.same;
      noted = same.noted book.noted s.noted;
    }

pub shown_new : (parts : Parts) (pen : PenValue) → parts.known.table.entries ≡ [] → parts.logged.entries ≡ [] →
    parts.leading.kept ≡ [] → StandsFor parts.known.store [] [] → Shows parts pen (empty_book pen)
shown_new parts pen e l k n =
    let made : List EntryValue → List LoggedEntry → List KeptWord → BookValue =
    λ e l k. record { entries = e; noted = []; logged = l; kept = k; pen = pen } in
    record {
      same = ap (λ e. made e parts.logged.entries parts.leading.kept) e
          ∙ ap (λ l. made [] l parts.leading.kept) l
          ∙ ap (made [] []) k;
      noted = subst (λ (es : List EntryValue). StandsFor parts.known.store es []) (sym e) n;
    }

pub still_shown : (old new : Parts) (pen : PenValue) → ShowsSame old new → IsShown old pen → IsShown new pen
still_shown old new pen same s = (s.0, shown_same old new pen s.0 same s.1)

pub shown_then : (parts : Parts) (pen : PenValue) (out : Outbox) (t : Told) → Performs parts pen out t → IsShown parts pen
shown_then parts pen out t p = (t.book, p.book)

-- ---- steps

abbrev ok_or : Told → Result Told Refusal → Told
ok_or t (Ok x) = x
ok_or t (Err e) = t

pub leaves_by : (parts : Parts) (pen : PenValue) (old new : Outbox) (done : Done) → Performs parts pen new (behind old (told done)) →
    Leaves parts pen old new done
leaves_by parts pen old new done p = record { book = p.book; messages = p.messages; signed = p.signed }

pub steps_by : (signing : Signing) (kept : List KeptWord) (parts : Parts) (pen : PenValue) (old new : Outbox) (book : BookValue) (w : Work)
    (a : Result Done Refusal) →
    told_of a ≡ Ok (perform_work signing kept (begun book) w) →
    Performs parts pen new (perform_work signing kept (told_with book old) w) → Steps parts pen old new (Ok tt) a
steps_by signing kept parts pen old new book w (Ok done) planned p =
    let t = perform_work signing kept (begun book) w in
    let is : told done ≡ t = ap (ok_or t) planned in
    leaves_by parts pen old new done
    (subst (Performs parts pen new) (behind_out signing kept old book w ∙ ap (behind old) (sym is)) p)
steps_by signing kept parts pen old new book w (Err e) planned p = absurd cc

pub steps_from : (signing : Signing) (kept : List KeptWord) (parts : Parts) (pen : PenValue) (old mid new : Outbox) (book shown : BookValue)
    (w : Work) (a : Result Done Refusal) → told_of a ≡ Ok (perform_work signing kept (begun book) w) → shown ≡ book →
    mid.messages.items ≡ old.messages.items → mid.signed.items ≡ old.signed.items →
    Performs parts pen new (perform_work signing kept (told_with shown mid) w) → Steps parts pen old new (Ok tt) a
steps_from signing kept parts pen old mid new book shown w a planned b m s p =
    let made : BookValue → List Envelope → List (List ℕ) → Told = λ b m s. record { book = b; signed = s; sent = m } in
    let same : told_with shown mid ≡ told_with book old =
    ap (λ b. made b mid.messages.items mid.signed.items) b ∙ ap (λ m. made book m mid.signed.items) m
    ∙ ap (made book old.messages.items) s in
    steps_by signing kept parts pen old new book w a planned
    (subst (λ (t : Told). Performs parts pen new (perform_work signing kept t w)) same p)
