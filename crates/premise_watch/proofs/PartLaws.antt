-- The parts of a frame are its marks.
use Rattle.std.proofs.Common.{◌≡◌, ℕ, List, [], ◌∷◌, ◌++◌, Option, Some, None, sym, ap, ◌∙◌, append-nil, append_assoc}
use Rattle.std.proofs.lemmas.List.{map-append}
use Rattle.basil_types.specs.declared.party.Decision.TheVariants.{Abort}
use Rattle.basil_types.specs.Transaction.{TransactionValue}
use Rattle.std.specs.Prelude.{true, false, option_map, is_some, MatchOption}
use Rattle.basil_types.specs.Shown.{transaction_of}
use Rattle.basil_types.specs.declared.transaction.view.TransactionView.{TransactionView}
use Rattle.frame_views.specs.Signed.{SignedBy, body_signed, certificate_signed, committed_signed, commit_signed, tally_signed, vote_signed}
use Rattle.frame_views.specs.Walks.{signed_of, signed_left}
use Rattle.frame_views.specs.declared.signed.item.SignedItem.{SignedItem}
use Rattle.premise_watch.specs.declared.parts.Parts.{Parts}
use Rattle.frame_views.specs.Values.{BodyValue, Commits, FastAbort, ConflictAbort, CommittedValue}
use Rattle.premise_watch.specs.Marks.{MarkValue, Signature, Text, as_marks, body_marks, part_marks, maybe_part, maybe_text}
use Rattle.premise_watch.specs.Parts.{around, rival_of, maybe_signature, parts_marks}

pub as_marks-append : (gs hs : List SignedBy) → as_marks (gs ++ hs) ≡ as_marks gs ++ as_marks hs
as_marks-append gs hs = map-append Signature gs hs

-- the marks of a certificate and of the signatures behind it
pub around_body : (x : List ℕ) (b : BodyValue) (rest : List SignedBy) →
    around (rival_of b) (body_signed x b ++ rest) ≡ body_marks x b ++ as_marks rest
around_body x (Commits body) rest = as_marks-append (commit_signed x body) rest
around_body x (FastAbort tally) rest = as_marks-append (tally_signed x Abort tally) rest
around_body x (ConflictAbort c) rest =
    ap (λ l. Signature (vote_signed c.shard x Abort (record { replica = c.replica; signature = c.signature })) ∷ Text c.other ∷ l)
    (as_marks-append (commit_signed c.proof.id c.proof.body) rest)

pub around_alone : (x : List ℕ) (b : BodyValue) → around (rival_of b) (body_signed x b) ≡ body_marks x b
around_alone x b =
    ap (around (rival_of b)) (sym (append-nil (body_signed x b))) ∙ around_body x b [] ∙ append-nil (body_marks x b)

-- a certificate, and one signature behind it
around_one : (part : CommittedValue) (g : SignedBy) →
    Text part.transaction ∷ around (rival_of part.certificate.body) (certificate_signed part.certificate ++ g ∷ [])
    ≡ part_marks part ++ Signature g ∷ []
around_one part g = ap (λ l. Text part.transaction ∷ l) (around_body part.certificate.id part.certificate.body (g ∷ []))

-- a text, the signature before a rival, the rival and the other signatures
abbrev pub shown_parts : MarkValue → Option SignedItem → Option TransactionView → List SignedBy → List MarkValue
shown_parts text own rival left =
    text ∷ (maybe_signature own ++ (maybe_text (option_map transaction_of rival) ++ (as_marks left ++ [])))

pub with_rival : (text : MarkValue) (own : Option SignedItem) (rival : Option TransactionView) (named : Option TransactionValue)
    (all left : List SignedBy) → option_map transaction_of rival ≡ named → is_some rival ≡ true →
    MatchOption own ((all ≡ []) × (left ≡ [])) (λ item. all ≡ signed_of item ∷ left) →
    shown_parts text own rival left ≡ text ∷ around named all
with_rival text own None named all left e s h = absurd cc
with_rival text None (Some t) named all left e s h =
    ap (λ l. text ∷ Text (transaction_of t) ∷ (as_marks l ++ [])) h.1
    ∙ ap (λ l. text ∷ around (Some (transaction_of t)) l) (sym h.0) ∙ ap (λ r. text ∷ around r all) e
with_rival text (Some item) (Some t) named all left e s h =
    ap (λ l. text ∷ Signature (signed_of item) ∷ Text (transaction_of t) ∷ l) (append-nil (as_marks left))
    ∙ ap (λ l. text ∷ around (Some (transaction_of t)) l) (sym h) ∙ ap (λ r. text ∷ around r all) e

pub without_rival : (text : MarkValue) (rival : Option TransactionView) (named : Option TransactionValue) (all : List SignedBy) →
    option_map transaction_of rival ≡ named → is_some rival ≡ false → shown_parts text None rival all ≡ text ∷ around named all
without_rival text None named all e s = ap (λ l. text ∷ l) (append-nil (as_marks all)) ∙ ap (λ r. text ∷ around r all) e
without_rival text (Some t) named all e s = absurd cc

pub of_vote : (proof : Option CommittedValue) (g : SignedBy) (part : CommittedValue) → proof ≡ Some part →
    Text part.transaction ∷ around (rival_of part.certificate.body) (committed_signed proof ++ g ∷ [])
    ≡ maybe_part proof ++ Signature g ∷ []
of_vote proof g part e =
    ap (λ c. Text part.transaction ∷ around (rival_of part.certificate.body) (committed_signed c ++ g ∷ [])) e ∙ around_one part g
    ∙ sym (ap (λ c. maybe_part c ++ Signature g ∷ []) e)

pub of_one : (committed : Option CommittedValue) (prepared : Option TransactionValue) (g : SignedBy) (part : CommittedValue) →
    committed ≡ Some part → prepared ≡ None →
    Text part.transaction ∷ around (rival_of part.certificate.body) (committed_signed committed ++ g ∷ [])
    ≡ maybe_part committed ++ (maybe_text prepared ++ Signature g ∷ [])
of_one committed prepared g part e f =
    of_vote committed g part e ∙ sym (ap (λ p. maybe_part committed ++ (maybe_text p ++ Signature g ∷ [])) f)

more_behind : (a b c x : List MarkValue) → a ++ (b ++ (c ++ x)) ≡ (a ++ (b ++ (c ++ []))) ++ x
more_behind a b c x =
    sym (append_assoc a (b ++ (c ++ [])) x ∙ ap (λ l. a ++ l) (append_assoc b (c ++ []) x ∙ ap (λ l. b ++ l) (append_assoc c [] x)))

pub of_both : (p : Parts) (t : TransactionView) (item : SignedItem) (committed : Option CommittedValue) (prepared : Option TransactionValue)
    (g : SignedBy) (part : CommittedValue) → p.prepared ≡ None → p.last ≡ None →
    parts_marks p ≡ Text part.transaction ∷ around (rival_of part.certificate.body) (certificate_signed part.certificate) →
    signed_of item ≡ g → committed ≡ Some part → prepared ≡ Some (transaction_of t) →
    parts_marks (record p { prepared = Some t; last = Some item }) ≡ maybe_part committed ++ (maybe_text prepared ++ Signature g ∷ [])
of_both p t item committed prepared g part none last is signed e f =
    let a : List MarkValue = maybe_text (option_map transaction_of p.first) ++ maybe_signature p.own in
    let b : List MarkValue = maybe_text (option_map transaction_of p.rival) in
    let c : List MarkValue = as_marks (signed_left p.signed) in
    let x : List MarkValue = Text (transaction_of t) ∷ Signature (signed_of item) ∷ [] in
    let whole : parts_marks p ≡ a ++ (b ++ (c ++ [])) =
    ap (λ o. a ++ (b ++ (c ++ (maybe_text (option_map transaction_of o) ++ maybe_signature p.last)))) none
    ∙ ap (λ o. a ++ (b ++ (c ++ maybe_signature o))) last in
    more_behind a b c x ∙ ap (λ l. l ++ x)
    (sym whole ∙ is ∙ ap (λ l. Text part.transaction ∷ l) (around_alone part.certificate.id part.certificate.body))
    ∙ ap (λ g. part_marks part ++ (Text (transaction_of t) ∷ Signature g ∷ [])) signed
    ∙ sym (ap (λ c. maybe_part c ++ (maybe_text prepared ++ Signature g ∷ [])) e
    ∙ ap (λ p. part_marks part ++ (maybe_text p ++ Signature g ∷ [])) f)
