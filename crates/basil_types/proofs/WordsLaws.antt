-- Each field of signed words is read back from their bytes.
use Rattle.std.proofs.Common.{◌≡◌, ℕ, ◌^◌, ◌<◌, List, [], ◌∷◌, ◌++◌, length, refl, sym, ap, ◌∙◌, append_assoc, arith, get_or}
use Rattle.std.specs.Int.{to_be_bytes, from_be_bytes, w64}
use Rattle.std.proofs.lemmas.Nat.{from_be_bytes-to_be_bytes_8}
use Rattle.basil_types.specs.declared.party.Decision.{Decision}
use Rattle.basil_types.specs.declared.party.Decision.TheVariants.{Commit, Abort}
use Rattle.basil_types.specs.declared.version.Version.{Version}
use Rattle.basil_types.specs.Transaction.{version_bytes}
use Rattle.basil_types.specs.Words.{TransactionWords, VoteWords, ReadReplyWords, LogReplyWords, ElectionWords}
use Rattle.basil_types.specs.Words.{ProposalWords, VoteOf, ReadReplyOf, LogReplyOf, ViewOf, words_of, view_bytes}
use Rattle.basil_types.specs.Words.{decision_byte, FitsVersion, FitsReply, FitsLog, FitsView, WordsTellFields}

same_head : (a b : ℕ) (x y : List ℕ) → a ∷ x ≡ b ∷ y → a ≡ b
same_head a b x y e = ap (λ l. get_or l 0 0) e

same_tail : (a b : ℕ) (x y : List ℕ) → a ∷ x ≡ b ∷ y → x ≡ y
same_tail a b x y e = cc

-- two texts of one length, each before another text
pub same_front : (a b x y : List ℕ) → length a ≡ length b → a ++ x ≡ b ++ y → (a ≡ b) × (x ≡ y)
same_front [] [] x y len e = (refl, e)
same_front [] (b ∷ bs) x y len e = absurd (omega arith)
same_front (a ∷ rest) [] x y len e = absurd (omega arith)
same_front (a ∷ rest) (b ∷ bs) x y len e =
    let h = same_head a b (rest ++ x) (bs ++ y) e in
    let r = same_front rest bs x y (omega arith) (same_tail a b (rest ++ x) (bs ++ y) e) in
    (λ i. h i ∷ r.0 i, r.1)

same_number : (m n : ℕ) → m < 2 ^ 64 → n < 2 ^ 64 → to_be_bytes w64 m ≡ to_be_bytes w64 n → m ≡ n
same_number m n a b e = sym (from_be_bytes-to_be_bytes_8 m a) ∙ ap (from_be_bytes w64) e ∙ from_be_bytes-to_be_bytes_8 n b

same_decision : (a b : Decision) → decision_byte a ≡ decision_byte b → a ≡ b
same_decision Commit Commit e = refl
same_decision Commit Abort e = absurd (omega arith)
same_decision Abort Commit e = absurd (omega arith)
same_decision Abort Abort e = refl

-- two ids, each before another text
same_id : (a b x y : List ℕ) → length a ≡ 32 → length b ≡ 32 → a ++ x ≡ b ++ y → (a ≡ b) × (x ≡ y)
same_id a b x y p q e = same_front a b x y (p ∙ sym q) e

pub same_version : (v w : Version) (x y : List ℕ) → FitsVersion v → FitsVersion w → version_bytes v ++ x ≡ version_bytes w ++ y → (v ≡ w) ×
    (x ≡ y)
same_version v w x y fv fw e =
    let e' : to_be_bytes w64 v.time ++ (v.client ∷ v.id ++ x) ≡ to_be_bytes w64 w.time ++ (w.client ∷ w.id ++ y) =
    sym (append_assoc (to_be_bytes w64 v.time) (v.client ∷ v.id) x) ∙ e ∙ append_assoc (to_be_bytes w64 w.time) (w.client ∷ w.id) y in
    let t = same_front (to_be_bytes w64 v.time) (to_be_bytes w64 w.time) _ _ refl e' in
    let time = same_number v.time w.time fv.time fw.time t.0 in
    let client = same_head v.client w.client (v.id ++ x) (w.id ++ y) t.1 in
    let id = same_id v.id w.id x y fv.id fw.id (same_tail v.client w.client (v.id ++ x) (w.id ++ y) t.1) in
    (λ i. record { time = time i; client = client i; id = id.0 i }, id.1)

-- a shard and a replica before other words
same_replica : (s r t u : ℕ) (x y : List ℕ) → s ∷ r ∷ x ≡ t ∷ u ∷ y → (s ≡ t) × (r ≡ u) × (x ≡ y)
same_replica s r t u x y e =
    let rest = same_tail s t (r ∷ x) (u ∷ y) e in
    (same_head s t (r ∷ x) (u ∷ y) e, same_head r u x y rest, same_tail r u x y rest)

same_view : (v w : ViewOf) → FitsView v → FitsView w → view_bytes v ≡ view_bytes w → v ≡ w
same_view v w fv fw e =
    let r = same_replica v.shard v.replica w.shard w.replica _ _ e in
    let id = same_id v.id w.id _ _ fv.id fw.id r.2 in
    let decision = same_decision v.decision w.decision (same_head _ _ _ _ id.1) in
    let view = same_number v.view w.view fv.view fw.view (same_tail _ _ _ _ id.1) in
    λ i. record { shard = r.0 i; replica = r.1 i; id = id.0 i; decision = decision i; view = view i }

same_vote : (v w : VoteOf) → length v.id ≡ 32 → length w.id ≡ 32 → words_of (VoteWords v) ≡ words_of (VoteWords w) → v ≡ w
same_vote v w fv fw e =
    let r = same_replica v.shard v.replica w.shard w.replica _ _ (same_tail _ _ _ _ e) in
    let id = same_id v.id w.id _ _ fv fw r.2 in
    let decision = same_decision v.decision w.decision (same_head _ _ _ _ id.1) in
    λ i. record { shard = r.0 i; replica = r.1 i; id = id.0 i; decision = decision i }

same_log : (v w : LogReplyOf) → FitsLog v → FitsLog w → words_of (LogReplyWords v) ≡ words_of (LogReplyWords w) → v ≡ w
same_log v w fv fw e =
    let r = same_replica v.shard v.replica w.shard w.replica _ _ (same_tail _ _ _ _ e) in
    let r2 : v.id ++ (decision_byte v.decision ∷ to_be_bytes w64 v.decided ++ to_be_bytes w64 v.current) ≡ w.id ++
    (decision_byte w.decision ∷ to_be_bytes w64 w.decided ++ to_be_bytes w64 w.current) =
    sym (append_assoc v.id _ _) ∙ r.2 ∙ append_assoc w.id _ _ in
    let id = same_id v.id w.id _ _ fv.id fw.id r2 in
    let decision = same_decision v.decision w.decision (same_head _ _ _ _ id.1) in
    let n = same_front (to_be_bytes w64 v.decided) (to_be_bytes w64 w.decided) _ _ refl (same_tail _ _ _ _ id.1) in
    let decided = same_number v.decided w.decided fv.decided fw.decided n.0 in
    let current = same_number v.current w.current fv.current fw.current n.1 in
    λ i. record { shard = r.0 i; replica = r.1 i; id = id.0 i; decision = decision i; decided = decided i; current = current i }

-- what follows the key of a read reply
after_key : ReadReplyOf → List ℕ
after_key r = to_be_bytes w64 r.time ++ (r.client ∷ version_bytes r.committed ++ version_bytes r.prepared)

by_key : (r : ReadReplyOf) → words_of (ReadReplyWords r) ≡ 3 ∷ r.shard ∷ r.replica ∷ length r.key ∷ (r.key ++ after_key r)
unfolding after_key
by_key r =
    let front : List ℕ = 3 ∷ r.shard ∷ r.replica ∷ length r.key ∷ r.key in
    let time : List ℕ = to_be_bytes w64 r.time in
    let middle : List ℕ = r.client ∷ version_bytes r.committed in
    append_assoc (front ++ time) middle (version_bytes r.prepared) ∙ append_assoc front time (middle ++ version_bytes r.prepared)

same_reply : (v w : ReadReplyOf) → FitsReply v → FitsReply w → words_of (ReadReplyWords v) ≡ words_of (ReadReplyWords w) → v ≡ w
unfolding after_key
same_reply v w fv fw e =
    let r = same_replica v.shard v.replica w.shard w.replica _ _ (same_tail _ _ _ _ (sym (by_key v) ∙ e ∙ by_key w)) in
    let key = same_front v.key w.key (after_key v) (after_key w) (same_head _ _ _ _ r.2) (same_tail _ _ _ _ r.2) in
    let t = same_front (to_be_bytes w64 v.time) (to_be_bytes w64 w.time) _ _ refl key.1 in
    let time = same_number v.time w.time fv.time fw.time t.0 in
    let client = same_head _ _ _ _ t.1 in
    let c = same_version v.committed w.committed _ _ fv.committed fw.committed (same_tail _ _ _ _ t.1) in
    let p = same_version v.prepared w.prepared [] [] fv.prepared fw.prepared (ap (λ l. l ++ []) c.1) in
    λ i. record { shard = r.0 i; replica = r.1 i; key = key.0 i; time = time i; client = client i; committed = c.0 i; prepared = p.0 i }

pub words_tell : WordsTellFields
words_tell (TransactionWords a) (TransactionWords b) fa fb e = ap TransactionWords (same_tail _ _ _ _ e)
words_tell (VoteWords a) (VoteWords b) fa fb e = ap VoteWords (same_vote a b fa fb e)
words_tell (ReadReplyWords a) (ReadReplyWords b) fa fb e = ap ReadReplyWords (same_reply a b fa fb e)
words_tell (LogReplyWords a) (LogReplyWords b) fa fb e = ap LogReplyWords (same_log a b fa fb e)
words_tell (ElectionWords a) (ElectionWords b) fa fb e = ap ElectionWords (same_view a b fa fb (same_tail _ _ _ _ e))
words_tell (ProposalWords a) (ProposalWords b) fa fb e = ap ProposalWords (same_view a b fa fb (same_tail _ _ _ _ e))
words_tell a b fa fb e = let head = ap (λ l. get_or l 0 0) e in absurd (omega arith)
