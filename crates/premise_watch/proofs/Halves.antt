-- The two halves of the marks of a message.
use Rattle.std.proofs.Common.{◌≡◌, List, [], ◌∷◌, ◌++◌, Option, Some, None, refl, sym, ap, ◌∙◌, map, append-nil}
use Rattle.std.specs.Prelude.{ℕ, filter_map}
use Rattle.std.proofs.lemmas.List.Elements.{filter_map-append}
use Rattle.basil_types.specs.declared.party.Decision.TheVariants.{Abort}
use Rattle.basil_types.specs.Transaction.{TransactionValue, id}
use Rattle.frame_views.specs.Carried.{paired, rival_in, committed_pairs, maybe_one, transactions_in}
use Rattle.frame_views.specs.Signed.{SignedBy, signed_in, body_signed, committed_signed, commit_signed, tally_signed}
use Rattle.frame_views.specs.Signed.{reply_signed, vote_signed, word_signed}
use Rattle.frame_views.specs.Values.{MessageValue, Read, ReadReply, St1, Vote, St2, LogReply, Writeback, Recover, Invoke, Elect, Decide}
use Rattle.frame_views.specs.Values.{BodyValue, Commits, FastAbort, ConflictAbort, CommittedValue}
use Rattle.premise_watch.specs.Laws.{signature_of, text_of, MarksTellBoth}
use Rattle.premise_watch.specs.Marks.{MarkValue, Signature, as_marks, body_marks, maybe_part, maybe_text, marks}

abbrev signatures : List MarkValue → List SignedBy
signatures ms = filter_map signature_of ms

abbrev texts : List MarkValue → List TransactionValue
texts ms = filter_map text_of ms

all_signatures : (gs : List SignedBy) → signatures (as_marks gs) ≡ gs
all_signatures [] = refl
all_signatures (g ∷ gs) = ap (λ l. g ∷ l) (all_signatures gs)

no_texts : (gs : List SignedBy) → texts (as_marks gs) ≡ []
no_texts [] = refl
no_texts (g ∷ gs) = no_texts gs

-- ---- signatures

body_signatures : (x : List ℕ) (b : BodyValue) → signatures (body_marks x b) ≡ body_signed x b
body_signatures x (Commits body) = all_signatures (commit_signed x body)
body_signatures x (FastAbort tally) = all_signatures (tally_signed x Abort tally)
body_signatures x (ConflictAbort c) =
    ap (λ l. vote_signed c.shard x Abort (record { replica = c.replica; signature = c.signature }) ∷ l)
    (all_signatures (commit_signed c.proof.id c.proof.body))

part_signatures : (p : Option CommittedValue) → signatures (maybe_part p) ≡ committed_signed p
part_signatures None = refl
part_signatures (Some p) = body_signatures p.certificate.id p.certificate.body

text_unsigned : (p : Option TransactionValue) → signatures (maybe_text p) ≡ []
text_unsigned None = refl
text_unsigned (Some t) = refl

then_one : (ms : List MarkValue) (g : SignedBy) (gs : List SignedBy) →
    signatures ms ≡ gs → signatures (ms ++ Signature g ∷ []) ≡ gs ++ g ∷ []
then_one ms g gs e = filter_map-append signature_of ms (Signature g ∷ []) ∙ ap (λ l. l ++ g ∷ []) e

reply_signatures : (p : Option TransactionValue) (g : SignedBy) → signatures (maybe_text p ++ Signature g ∷ []) ≡ g ∷ []
reply_signatures p g = then_one (maybe_text p) g [] (text_unsigned p)

signature_half : (m : MessageValue) → signatures (marks m) ≡ signed_in m
signature_half (Read m) = refl
signature_half (ReadReply m) =
    filter_map-append signature_of (maybe_part m.committed) (maybe_text m.prepared ++ Signature (reply_signed m) ∷ [])
    ∙ ap (λ l. l ++ signatures (maybe_text m.prepared ++ Signature (reply_signed m) ∷ [])) (part_signatures m.committed)
    ∙ ap (λ l. committed_signed m.committed ++ l) (reply_signatures m.prepared (reply_signed m))
signature_half (St1 m) = refl
signature_half (Vote m) = then_one (maybe_part m.proof) _ (committed_signed m.proof) (part_signatures m.proof)
signature_half (St2 m) = all_signatures (signed_in (St2 m))
signature_half (LogReply m) = refl
signature_half (Writeback m) = body_signatures m.certificate.id m.certificate.body
signature_half (Recover m) = refl
signature_half (Invoke m) = all_signatures (signed_in (Invoke m))
signature_half (Elect m) = refl
signature_half (Decide m) =
    let words = map (word_signed m.shard (id m.transaction) m.view) m.words in
    then_one (as_marks words) _ words (all_signatures words)

-- ---- texts

body_texts : (x : List ℕ) (b : BodyValue) → texts (body_marks x b) ≡ map paired (rival_in b)
body_texts x (Commits body) = no_texts (commit_signed x body)
body_texts x (FastAbort tally) = no_texts (tally_signed x Abort tally)
body_texts x (ConflictAbort c) = ap (λ l. c.other ∷ l) (no_texts (commit_signed c.proof.id c.proof.body))

part_texts : (p : Option CommittedValue) → texts (maybe_part p) ≡ map paired (committed_pairs p)
part_texts None = refl
part_texts (Some p) = ap (λ l. p.transaction ∷ l) (body_texts p.certificate.id p.certificate.body)

one_text : (p : Option TransactionValue) → texts (maybe_text p) ≡ maybe_one p
one_text None = refl
one_text (Some t) = refl

and_unsigned : (ms : List MarkValue) (g : SignedBy) → texts (ms ++ Signature g ∷ []) ≡ texts ms
and_unsigned ms g = filter_map-append text_of ms (Signature g ∷ []) ∙ append-nil (texts ms)

text_half : (m : MessageValue) → texts (marks m) ≡ transactions_in m
text_half (Read m) = refl
text_half (ReadReply m) =
    filter_map-append text_of (maybe_part m.committed) (maybe_text m.prepared ++ Signature (reply_signed m) ∷ [])
    ∙ ap (λ l. l ++ texts (maybe_text m.prepared ++ Signature (reply_signed m) ∷ [])) (part_texts m.committed)
    ∙ ap (λ l. map paired (committed_pairs m.committed) ++ l) (and_unsigned (maybe_text m.prepared) (reply_signed m) ∙ one_text m.prepared)
text_half (St1 m) = refl
text_half (Vote m) =
    and_unsigned (maybe_part m.proof) _ ∙ part_texts m.proof ∙ sym (append-nil (map paired (committed_pairs m.proof)))
text_half (St2 m) = ap (λ l. m.transaction ∷ l) (no_texts (signed_in (St2 m)))
text_half (LogReply m) = refl
text_half (Writeback m) =
    let part : CommittedValue = record { transaction = m.transaction; certificate = m.certificate } in
    part_texts (Some part) ∙ sym (append-nil (map paired (committed_pairs (Some part))))
text_half (Recover m) = refl
text_half (Invoke m) = no_texts (signed_in (Invoke m))
text_half (Elect m) = refl
text_half (Decide m) =
    let words = map (word_signed m.shard (id m.transaction) m.view) m.words in
    ap (λ l. m.transaction ∷ l) (and_unsigned (as_marks words) _ ∙ no_texts words)

pub marks_tell_both : MarksTellBoth
marks_tell_both = record { signatures = signature_half; texts = text_half }
