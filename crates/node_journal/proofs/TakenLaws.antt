-- A replica that took some frames takes one more.
use Rattle.std.proofs.Common.{◌≡◌, List, [], ◌∷◌, ◌++◌, Result, Ok, Err, refl, sym, ap, subst, ◌∙◌, append_assoc}
use Rattle.std.specs.Prelude.{IsOk, map}
use Rattle.basil_types.specs.declared.outbox.Outbox.{Outbox}
use Rattle.basil_types.specs.Words.{SignedWords, words_of}
use Rattle.node_steps.specs.Framed.{framed}
use Rattle.node_steps.specs.Pens.{PenValue}
use Rattle.replica_core.specs.declared.parts.Parts.{Parts}
use Rattle.replica_core.specs.declared.refusal.Refusal.{Refusal}
use Rattle.replica_core.specs.Nodes.{Performs, Shows, ShowsSame}
use Rattle.replica_core.specs.Replicas.{ReplicaSelf, BookValue, Done}
use Rattle.replica_core.specs.Telling.{Told, told, told_of}
use Rattle.replica_laws.specs.Steps.{Handed, book_after, signed_in, step}
use Rattle.node_journal.specs.Journals.{Accepts, AcceptsAll}
use Rattle.node_journal.specs.Laws.{WordsAreKept}

-- what showed a book still shows it
pub shown-same : (old new : Parts) (pen : PenValue) (book : BookValue) → ShowsSame old new → Shows old pen book → Shows new pen book
shown-same old new pen book same s =
    record {
      same = rw (same.entries, same.logged, same.kept) s.same;
      noted = same.noted book.noted s.noted;
    }

-- ---- one frame more

pub book_after-push : (me : ReplicaSelf) (book : BookValue) (hs : List Handed) (h : Handed) →
    book_after me book (hs ++ h ∷ []) ≡ (step me (book_after me book hs) h).book
book_after-push me book [] h = refl
book_after-push me book (x ∷ hs) h = book_after-push me (step me book x).book hs h

pub accepts-push : (me : ReplicaSelf) (book : BookValue) (hs : List Handed) (h : Handed) → AcceptsAll me book hs →
    Accepts me (book_after me book hs) h → AcceptsAll me book (hs ++ h ∷ [])
accepts-push me book [] h all a = (a, tt)
accepts-push me book (x ∷ hs) h all a = (all.0, accepts-push me (step me book x).book hs h all.1 a)

-- one of those that come is accepted where it comes
pub accepts-at : (me : ReplicaSelf) (book : BookValue) (before : List Handed) (h : Handed) (after : List Handed) →
    AcceptsAll me book (before ++ h ∷ after) → Accepts me (book_after me book before) h
accepts-at me book [] h after all = all.0
accepts-at me book (x ∷ before) h after all = accepts-at me (step me book x).book before h after all.1

pub accepts-front : (me : ReplicaSelf) (book : BookValue) (before after : List Handed) → AcceptsAll me book (before ++ after) →
    AcceptsAll me book before
accepts-front me book [] after all = tt
accepts-front me book (x ∷ before) after all = (all.0, accepts-front me (step me book x).book before after all.1)

pub words-kept : WordsAreKept
words-kept me book [] more = refl
words-kept me book (h ∷ hs) more =
    ap (λ (ws : List SignedWords). (step me book h).signed ++ ws) (words-kept me (step me book h).book hs more)
    ∙ sym (append_assoc (step me book h).signed (signed_in me (step me book h).book hs)
    (signed_in me (book_after me (step me book h).book hs) more))

-- ---- an answer

pub is-ok : {A E : Type 0} (r : Result A E) (x : A) → r ≡ Ok x → IsOk r
is-ok r x e = subst (λ (q : Result _ _). IsOk q) (sym e) refl

pub ok-of : {A E : Type 0} (r : Result A E) → IsOk r → (x : A) × (r ≡ Ok x)
ok-of (Ok x) ok = (x, refl)
ok-of (Err e) ok = absurd cc

-- what was planned is what is answered
pub record Answered (a : Result Done Refusal) (parts : Parts) (pen : PenValue) (out : Outbox) : Type 0 where
  pub done : Done
  pub is : a ≡ Ok done
  pub shows : Shows parts pen done.book
  pub messages : out.messages.items ≡ map framed done.sent
  pub signed : out.signed.items ≡ map words_of done.signed

pub planned-ok : (a : Result Done Refusal) (t : Told) → told_of a ≡ Ok t → (done : Done) × (a ≡ Ok done) × (told done ≡ t)
planned-ok (Ok done) t e = (done, refl, cc)
planned-ok (Err refusal) t e = absurd cc

pub answered-by : (a : Result Done Refusal) (t : Told) (parts : Parts) (pen : PenValue) (out : Outbox) → told_of a ≡ Ok t →
    Performs parts pen out t → Answered a parts pen out
answered-by a t parts pen out e p =
    let q = planned-ok a t e in
    let r = subst (Performs parts pen out) (sym q.2) p in
    record { done = q.0; is = q.1; shows = r.book; messages = r.messages; signed = r.signed }
