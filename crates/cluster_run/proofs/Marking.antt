-- The signatures, the texts and the pairs of a message.
use Rattle.cluster_run.proofs.Members.{in_cases, in_head, in_rest}
use Rattle.std.proofs.Common.{◌≡◌, ℕ, Bool, true, List, [], ◌∷◌, ◌++◌, Option, Some, None, refl, sym, subst, inl, inr, arith, map}
use Rattle.std.proofs.Common.{append-nil}
use Rattle.std.specs.Prelude.{Contains}
use Rattle.std.proofs.lemmas.List.Elements.{Contains-append_left, Contains-append_right, Contains-append_cases}
use Rattle.basil_types.specs.Transaction.{TransactionValue, IsTransaction, id}
use Rattle.basil_types.specs.declared.party.Decision.TheVariants.{Abort}
use Rattle.frame_views.specs.declared.bounds.Bounds.{Bounds}
use Rattle.frame_views.specs.Fitting.{FitsMessage, FitsPart, FitsCommitted, FitsCertificate, FitsBody}
use Rattle.basil_types.specs.Decision.{is_abort}
use Rattle.frame_views.specs.Signed.{SignedBy, signed_in, certificate_signed, committed_signed, body_signed, commit_signed, vote_signed}
use Rattle.frame_views.specs.Signed.{reply_signed, word_signed, proposal_signed}
use Rattle.frame_views.specs.Values as values
use Rattle.frame_views.specs.Values.{BodyValue, CommittedValue, MessageValue, Read, ReadReply, St1, Vote, St2, LogReply}
use Rattle.frame_views.specs.Values.{Writeback, Recover, Invoke, Elect, Decide, as_certificate}
use Rattle.premise_watch.specs.Marks.{MarkValue, Signature, Text, as_marks, body_marks, part_marks, maybe_part, maybe_text, marks}
use Rattle.frame_views.specs.Carried.{paired, rival_in, committed_pairs, maybe_one, transactions_in, pairs_from, pairs_in}

pub none_in : {X : Type 0} (x : X) → Contains [] x → ⊥
none_in x i = omega (arith, i.1)

-- ---- signatures

in_marks : (gs : List SignedBy) (g : SignedBy) → Contains gs g → Contains (as_marks gs) (Signature g)
in_marks [] g i = absurd (none_in g i)
in_marks (h ∷ gs) g i = elim (in_cases g h gs i) [
  | inl e ↦ subst (λ (x : SignedBy). Contains (Signature h ∷ as_marks gs) (Signature x)) e (in_head (Signature h) (as_marks gs))
  | inr j ↦ in_rest (Signature h) (Signature g) (as_marks gs) (in_marks gs g j)
]

body_signatures : (x : List ℕ) (b : BodyValue) (g : SignedBy) → Contains (body_signed x b) g → Contains (body_marks x b) (Signature g)
body_signatures x (values.Commits body) g i = in_marks (commit_signed x body) g i
body_signatures x (values.FastAbort tally) g i = in_marks (body_signed x (values.FastAbort tally)) g i
body_signatures x (values.ConflictAbort c) g i =
    elim (in_cases g (vote_signed c.shard x Abort (record { replica = c.replica; signature = c.signature }))
    (commit_signed c.proof.id c.proof.body) i) [
      | inl e ↦ subst (λ (h : SignedBy). Contains (body_marks x (values.ConflictAbort c)) (Signature h)) e
          (in_head (Signature (vote_signed c.shard x Abort (record { replica = c.replica; signature = c.signature })))
          (Text c.other ∷ as_marks (commit_signed c.proof.id c.proof.body)))
      | inr j ↦ in_rest (Signature (vote_signed c.shard x Abort (record { replica = c.replica; signature = c.signature }))) (Signature g)
          (Text c.other ∷ as_marks (commit_signed c.proof.id c.proof.body))
          (in_rest (Text c.other) (Signature g) (as_marks (commit_signed c.proof.id c.proof.body))
          (in_marks (commit_signed c.proof.id c.proof.body) g j))
    ]

part_signatures : (p : Option CommittedValue) (g : SignedBy) → Contains (committed_signed p) g → Contains (maybe_part p) (Signature g)
part_signatures None g i = absurd (none_in g i)
part_signatures (Some p) g i =
    in_rest (Text p.transaction) (Signature g) (body_marks p.certificate.id p.certificate.body)
    (body_signatures p.certificate.id p.certificate.body g i)

last_one : (ms : List MarkValue) (h g : SignedBy) (gs : List SignedBy) → Contains (gs ++ h ∷ []) g →
    (Contains gs g → Contains ms (Signature g)) → Contains (ms ++ Signature h ∷ []) (Signature g)
last_one ms h g gs i f = elim (Contains-append_cases gs (h ∷ []) g i) [
  | inl j ↦ Contains-append_left ms (Signature h ∷ []) (Signature g) (f j)
  | inr k ↦ elim (in_cases g h [] k) [
    | inl e ↦ Contains-append_right ms (Signature h ∷ []) (Signature g)
        (subst (λ (x : SignedBy). Contains (Signature h ∷ []) (Signature x)) e (in_head (Signature h) []))
    | inr n ↦ absurd (none_in g n)
  ]
]

after_text : (t : TransactionValue) (gs : List SignedBy) (g : SignedBy) → Contains gs g → Contains (Text t ∷ as_marks gs) (Signature g)
after_text t gs g i = in_rest (Text t) (Signature g) (as_marks gs) (in_marks gs g i)

pub signatures_marked : (m : MessageValue) (g : SignedBy) → Contains (signed_in m) g → Contains (marks m) (Signature g)
signatures_marked (Read m) g i = absurd (none_in g i)
signatures_marked (ReadReply m) g i =
    elim (Contains-append_cases (committed_signed m.committed) (reply_signed m ∷ []) g i) [
      | inl j ↦ Contains-append_left (maybe_part m.committed) (maybe_text m.prepared ++ as_marks (reply_signed m ∷ [])) (Signature g)
          (part_signatures m.committed g j)
      | inr k ↦ Contains-append_right (maybe_part m.committed) (maybe_text m.prepared ++ as_marks (reply_signed m ∷ [])) (Signature g)
          (Contains-append_right (maybe_text m.prepared) (as_marks (reply_signed m ∷ [])) (Signature g)
          (in_marks (reply_signed m ∷ []) g k))
    ]
signatures_marked (St1 m) g i = after_text m.transaction (signed_in (St1 m)) g i
signatures_marked (Vote m) g i =
    last_one (maybe_part m.proof) (vote_signed m.shard m.id m.decision (record { replica = m.replica; signature = m.signature })) g
    (committed_signed m.proof) i (part_signatures m.proof g)
signatures_marked (St2 m) g i = after_text m.transaction (signed_in (St2 m)) g i
signatures_marked (LogReply m) g i = in_marks (signed_in (LogReply m)) g i
signatures_marked (Writeback m) g i =
    in_rest (Text m.transaction) (Signature g) (body_marks m.certificate.id m.certificate.body)
    (body_signatures m.certificate.id m.certificate.body g i)
signatures_marked (Recover m) g i = after_text m.transaction (signed_in (Recover m)) g i
signatures_marked (Invoke m) g i = in_marks (signed_in (Invoke m)) g i
signatures_marked (Elect m) g i = after_text m.transaction (signed_in (Elect m)) g i
signatures_marked (Decide m) g i =
    let ws = map (word_signed m.shard (id m.transaction) m.view) m.words in
    let h = proposal_signed m.shard (id m.transaction) m.view
    (record { replica = m.replica; decision = m.decision; signature = m.signature }) in
    in_rest (Text m.transaction) (Signature g) (as_marks ws ++ Signature h ∷ []) (last_one (as_marks ws) h g ws i (in_marks ws g))

-- ---- texts

body_texts : (x : List ℕ) (b : BodyValue) (t : TransactionValue) → Contains (map paired (rival_in b)) t → Contains (body_marks x b) (Text t)
body_texts x (values.Commits body) t i = absurd (none_in t i)
body_texts x (values.FastAbort tally) t i = absurd (none_in t i)
body_texts x (values.ConflictAbort c) t i = elim (in_cases t c.other [] i) [
  | inl e ↦ subst (λ (u : TransactionValue). Contains (body_marks x (values.ConflictAbort c)) (Text u)) e
      (in_rest (Signature (vote_signed c.shard x Abort (record { replica = c.replica; signature = c.signature }))) (Text c.other)
      (Text c.other ∷ as_marks (commit_signed c.proof.id c.proof.body))
      (in_head (Text c.other) (as_marks (commit_signed c.proof.id c.proof.body))))
  | inr n ↦ absurd (none_in t n)
]

part_texts : (p : Option CommittedValue) (t : TransactionValue) → Contains (map paired (committed_pairs p)) t →
    Contains (maybe_part p) (Text t)
part_texts None t i = absurd (none_in t i)
part_texts (Some p) t i = elim (in_cases t p.transaction (map paired (rival_in p.certificate.body)) i) [
  | inl e ↦ subst (λ (u : TransactionValue). Contains (part_marks p) (Text u)) e
      (in_head (Text p.transaction) (body_marks p.certificate.id p.certificate.body))
  | inr j ↦ in_rest (Text p.transaction) (Text t) (body_marks p.certificate.id p.certificate.body)
      (body_texts p.certificate.id p.certificate.body t j)
]

prepared_texts : (p : Option TransactionValue) (t : TransactionValue) → Contains (maybe_one p) t → Contains (maybe_text p) (Text t)
prepared_texts None t i = absurd (none_in t i)
prepared_texts (Some u) t i =
    elim (in_cases t u [] i) [
      | inl e ↦ subst (λ (x : TransactionValue). Contains (Text u ∷ []) (Text x)) e (in_head (Text u) [])
      | inr n ↦ absurd (none_in t n)
    ]

alone : (t u : TransactionValue) (ms : List MarkValue) → Contains (u ∷ []) t → Contains (Text u ∷ ms) (Text t)
alone t u ms i =
    elim (in_cases t u [] i) [
      | inl e ↦ subst (λ (x : TransactionValue). Contains (Text u ∷ ms) (Text x)) e (in_head (Text u) ms)
      | inr n ↦ absurd (none_in t n)
    ]

pub texts_marked : (m : MessageValue) (t : TransactionValue) → Contains (transactions_in m) t → Contains (marks m) (Text t)
texts_marked (Read m) t i = absurd (none_in t i)
texts_marked (ReadReply m) t i = elim (Contains-append_cases (map paired (committed_pairs m.committed)) (maybe_one m.prepared) t i) [
  | inl j ↦ Contains-append_left (maybe_part m.committed) (maybe_text m.prepared ++ as_marks (reply_signed m ∷ [])) (Text t)
      (part_texts m.committed t j)
  | inr k ↦ Contains-append_right (maybe_part m.committed) (maybe_text m.prepared ++ as_marks (reply_signed m ∷ [])) (Text t)
      (Contains-append_left (maybe_text m.prepared) (as_marks (reply_signed m ∷ [])) (Text t) (prepared_texts m.prepared t k))
]
texts_marked (St1 m) t i = alone t m.transaction (as_marks (signed_in (St1 m))) i
texts_marked (Vote m) t i =
    Contains-append_left (maybe_part m.proof) (as_marks
    (vote_signed m.shard m.id m.decision (record { replica = m.replica; signature = m.signature }) ∷ [])) (Text t)
    (part_texts m.proof t (subst (λ l. Contains l t) (append-nil (map paired (committed_pairs m.proof))) i))
texts_marked (St2 m) t i = alone t m.transaction (as_marks (signed_in (St2 m))) i
texts_marked (LogReply m) t i = absurd (none_in t i)
texts_marked (Writeback m) t i =
    let part : CommittedValue = record { transaction = m.transaction; certificate = m.certificate } in
    part_texts (Some part) t (subst (λ l. Contains l t) (append-nil (map paired (pairs_from part))) i)
texts_marked (Recover m) t i = alone t m.transaction (as_marks (signed_in (Recover m))) i
texts_marked (Invoke m) t i = absurd (none_in t i)
texts_marked (Elect m) t i = alone t m.transaction (as_marks (signed_in (Elect m))) i
texts_marked (Decide m) t i =
    alone t m.transaction (as_marks (map (word_signed m.shard (id m.transaction) m.view) m.words)
    ++ Signature (proposal_signed m.shard (id m.transaction) m.view
    (record { replica = m.replica; decision = m.decision; signature = m.signature })) ∷ []) i

-- ---- texts have spellings

no_text : (gs : List SignedBy) (t : TransactionValue) → Contains (as_marks gs) (Text t) → ⊥
no_text [] t i = none_in (Text t) i
no_text (g ∷ gs) t i = elim (in_cases (Text t) (Signature g) (as_marks gs) i) [ inl e ↦ cc | inr j ↦ no_text gs t j ]

text_is : (t u : TransactionValue) → Text u ≡ Text t → IsTransaction u → IsTransaction t
text_is t u e k = let is : u ≡ t = cc in subst IsTransaction is k

one_text : (t u : TransactionValue) (gs : List SignedBy) → IsTransaction u → Contains (Text u ∷ as_marks gs) (Text t) → IsTransaction t
one_text t u gs k i = elim (in_cases (Text t) (Text u) (as_marks gs) i) [ inl e ↦ text_is t u e k | inr j ↦ absurd (no_text gs t j) ]

body_spelled : (b : Bounds) (x : List ℕ) (body : BodyValue) (t : TransactionValue) → FitsBody b body →
    Contains (body_marks x body) (Text t) → IsTransaction t
body_spelled b x (values.Commits body) t k i = absurd (no_text (commit_signed x body) t i)
body_spelled b x (values.FastAbort tally) t k i = absurd (no_text (body_signed x (values.FastAbort tally)) t i)
body_spelled b x (values.ConflictAbort c) t k i =
    elim (in_cases (Text t) (Signature (vote_signed c.shard x Abort (record { replica = c.replica; signature = c.signature })))
    (Text c.other ∷ as_marks (commit_signed c.proof.id c.proof.body)) i)
    [ inl e ↦ absurd cc | inr j ↦ one_text t c.other (commit_signed c.proof.id c.proof.body) k.other j ]

spelled_part : (b : Bounds) (p : CommittedValue) (t : TransactionValue) → IsTransaction p.transaction → FitsCertificate b p.certificate →
    Contains (part_marks p) (Text t) → IsTransaction t
spelled_part b p t k f i =
    elim (in_cases (Text t) (Text p.transaction) (body_marks p.certificate.id p.certificate.body) i)
    [ inl e ↦ text_is t p.transaction e k | inr j ↦ body_spelled b p.certificate.id p.certificate.body t f.body j ]

maybe_spelled : (b : Bounds) (a : Bool) (p : Option CommittedValue) (t : TransactionValue) → FitsPart a (FitsCommitted b) p →
    Contains (maybe_part p) (Text t) → IsTransaction t
maybe_spelled b a None t f i = absurd (none_in (Text t) i)
maybe_spelled b a (Some p) t f i = spelled_part b p t f.1.transaction f.1.certificate i

prepared_spelled : (p : Option TransactionValue) (t : TransactionValue) → FitsPart true IsTransaction p → Contains (maybe_text p) (Text t) →
    IsTransaction t
prepared_spelled None t f i = absurd (none_in (Text t) i)
prepared_spelled (Some u) t f i = elim (in_cases (Text t) (Text u) [] i) [ inl e ↦ text_is t u e f.1 | inr n ↦ absurd (none_in (Text t) n) ]

two_lists : (gs hs : List SignedBy) (t : TransactionValue) → Contains (as_marks gs ++ as_marks hs) (Text t) → ⊥
two_lists gs hs t i =
    elim (Contains-append_cases (as_marks gs) (as_marks hs) (Text t) i) [ inl j ↦ no_text gs t j | inr k ↦ no_text hs t k ]

pub texts_spelled : (b : Bounds) (m : MessageValue) (t : TransactionValue) → FitsMessage b m → Contains (marks m) (Text t) → IsTransaction t
texts_spelled b (Read m) t f i = absurd (none_in (Text t) i)
texts_spelled b (ReadReply m) t f i =
    elim (Contains-append_cases (maybe_part m.committed) (maybe_text m.prepared ++ as_marks (reply_signed m ∷ [])) (Text t) i) [
      | inl j ↦ maybe_spelled b true m.committed t f.committed j
      | inr k ↦ elim (Contains-append_cases (maybe_text m.prepared) (as_marks (reply_signed m ∷ [])) (Text t) k)
          [ inl j ↦ prepared_spelled m.prepared t f.prepared j | inr n ↦ absurd (no_text (reply_signed m ∷ []) t n) ]
    ]
texts_spelled b (St1 m) t f i = one_text t m.transaction (signed_in (St1 m)) f.transaction i
texts_spelled b (Vote m) t f i =
    elim (Contains-append_cases (maybe_part m.proof)
    (as_marks (vote_signed m.shard m.id m.decision (record { replica = m.replica; signature = m.signature }) ∷ [])) (Text t) i) [
      | inl j ↦ maybe_spelled b (is_abort m.decision) m.proof t f.proof j
      | inr n ↦ absurd (no_text (vote_signed m.shard m.id m.decision (record { replica = m.replica; signature = m.signature }) ∷ []) t n)
    ]
texts_spelled b (St2 m) t f i = one_text t m.transaction (signed_in (St2 m)) f.transaction i
texts_spelled b (LogReply m) t f i = absurd (no_text (signed_in (LogReply m)) t i)
texts_spelled b (Writeback m) t f i =
    spelled_part b (record { transaction = m.transaction; certificate = m.certificate }) t f.transaction f.certificate i
texts_spelled b (Recover m) t f i = one_text t m.transaction (signed_in (Recover m)) f.transaction i
texts_spelled b (Invoke m) t f i = absurd (no_text (signed_in (Invoke m)) t i)
texts_spelled b (Elect m) t f i = one_text t m.transaction (signed_in (Elect m)) f.transaction i
texts_spelled b (Decide m) t f i =
    elim (in_cases (Text t) (Text m.transaction) (as_marks (map (word_signed m.shard (id m.transaction) m.view) m.words)
    ++ as_marks (proposal_signed m.shard (id m.transaction) m.view
    (record { replica = m.replica; decision = m.decision; signature = m.signature }) ∷ [])) i) [
      | inl e ↦ text_is t m.transaction e f.transaction
      | inr j ↦ absurd (two_lists (map (word_signed m.shard (id m.transaction) m.view) m.words)
          (proposal_signed m.shard (id m.transaction) m.view
          (record { replica = m.replica; decision = m.decision; signature = m.signature })
          ∷ []) t j)
    ]

-- ---- pairs

pub record IsPairOf (b : Bounds) (m : MessageValue) (p : CommittedValue) : Type 0 where
  pub fits : FitsCertificate b p.certificate
  pub text : Contains (transactions_in m) p.transaction
  pub nested : (u : TransactionValue) → Contains (map paired (rival_in p.certificate.body)) u → Contains (transactions_in m) u
  pub signed : (g : SignedBy) → Contains (certificate_signed p.certificate) g → Contains (signed_in m) g

record IsPairIn (b : Bounds) (part p : CommittedValue) : Type 0 where
  fits : FitsCertificate b p.certificate
  text : Contains (part.transaction ∷ map paired (rival_in part.certificate.body)) p.transaction
  nested : (u : TransactionValue) → Contains (map paired (rival_in p.certificate.body)) u →
      Contains (part.transaction ∷ map paired (rival_in part.certificate.body)) u
  signed : (g : SignedBy) → Contains (certificate_signed p.certificate) g → Contains (certificate_signed part.certificate) g

pair_self : (b : Bounds) (part : CommittedValue) → FitsCertificate b part.certificate → IsPairIn b part part
pair_self b part f = record {
  fits = f;
  text = in_head part.transaction
      (map paired (rival_in part.certificate.body));
  nested =
      λ u i. in_rest part.transaction u (map paired (rival_in part.certificate.body)) i;
  signed = λ g i. i;
}

pair_in : (b : Bounds) (t : TransactionValue) (x : List ℕ) (body : BodyValue) (p : CommittedValue) → FitsBody b body →
    Contains (rival_in body) p → IsPairIn b (record { transaction = t; certificate = record { id = x; body = body } }) p
pair_in b t x (values.Commits body) p f i = absurd (none_in p i)
pair_in b t x (values.FastAbort tally) p f i = absurd (none_in p i)
pair_in b t x (values.ConflictAbort c) p f i =
    elim (in_cases p (record { transaction = c.other; certificate = as_certificate c.proof }) [] i) [
      | inl e ↦ subst (IsPairIn b (record { transaction = t; certificate = record { id = x; body = values.ConflictAbort c } })) e
          (record {
            fits = record { id = f.proof.id; body = f.proof.body };
            text = in_rest t c.other (c.other ∷ []) (in_head c.other []);
            nested = λ u j. absurd (none_in u j);
            signed = λ g j. in_rest (vote_signed c.shard x Abort (record { replica = c.replica; signature = c.signature })) g
                (commit_signed c.proof.id c.proof.body) j;
          })
      | inr n ↦ absurd (none_in p n)
    ]

pair_of : (b : Bounds) (part p : CommittedValue) → FitsCertificate b part.certificate → Contains (pairs_from part) p → IsPairIn b part p
pair_of b part p f i = elim (in_cases p part (rival_in part.certificate.body) i) [
  | inl e ↦ subst (IsPairIn b part) e (pair_self b part f)
  | inr j ↦ pair_in b part.transaction part.certificate.id part.certificate.body p f.body j
]

maybe_pairs : (b : Bounds) (a : Bool) (part : Option CommittedValue) (p : CommittedValue) (ts : List TransactionValue)
    (gs : List SignedBy) → FitsPart a (FitsCommitted b) part → Contains (committed_pairs part) p → (m : MessageValue) → transactions_in m
    ≡ map paired (committed_pairs part) ++ ts → signed_in m ≡ committed_signed part ++ gs → IsPairOf b m p
maybe_pairs b a None p ts gs f i m e k = absurd (none_in p i)
maybe_pairs b a (Some part) p ts gs f i m e k =
    let q = pair_of b part p f.1.certificate i in
    record {
      fits = q.fits;
      text = subst (λ l. Contains l p.transaction) (sym e)
          (Contains-append_left (map paired (committed_pairs (Some part))) ts p.transaction q.text);
      nested = λ u j. subst (λ l. Contains l u) (sym e)
          (Contains-append_left (map paired (committed_pairs (Some part))) ts u (q.nested u j));
      signed = λ g j. subst (λ l. Contains l g) (sym k) (Contains-append_left (certificate_signed part.certificate) gs g (q.signed g j));
    }

pub pairs_are : (b : Bounds) (m : MessageValue) (p : CommittedValue) → FitsMessage b m → Contains (pairs_in m) p → IsPairOf b m p
pairs_are b (Read m) p f i = absurd (none_in p i)
pairs_are b (ReadReply m) p f i =
    maybe_pairs b true m.committed p (maybe_one m.prepared) (reply_signed m ∷ []) f.committed i (ReadReply m) refl refl
pairs_are b (St1 m) p f i = absurd (none_in p i)
pairs_are b (Vote m) p f i =
    maybe_pairs b (is_abort m.decision) m.proof p []
    (vote_signed m.shard m.id m.decision (record { replica = m.replica; signature = m.signature }) ∷ []) f.proof i (Vote m) refl refl
pairs_are b (St2 m) p f i = absurd (none_in p i)
pairs_are b (LogReply m) p f i = absurd (none_in p i)
pairs_are b (Writeback m) p f i =
    let part : CommittedValue = record { transaction = m.transaction; certificate = m.certificate } in
    let q = pair_of b part p f.certificate i in
    let whole = sym (append-nil (map paired (pairs_from part))) in
    record {
      fits = q.fits;
      text = subst (λ l. Contains l p.transaction) whole q.text;
      nested = λ u j. subst (λ l. Contains l u) whole (q.nested u j);
      signed = q.signed;
    }
pairs_are b (Recover m) p f i = absurd (none_in p i)
pairs_are b (Invoke m) p f i = absurd (none_in p i)
pairs_are b (Elect m) p f i = absurd (none_in p i)
pairs_are b (Decide m) p f i = absurd (none_in p i)
