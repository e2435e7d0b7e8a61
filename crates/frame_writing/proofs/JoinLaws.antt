-- Bytes that are appended one piece after the other.
use Rattle.std.proofs.Common.{◌≡◌, ℕ, List, [], ◌∷◌, ◌++◌, refl, sym, ap, ◌∙◌, append_assoc}
use Rattle.frame_views.specs.Fitting.{widest, FitsCommit}
use Rattle.frame_views.specs.Spelling.{certificate_bytes, commit_bytes}
use Rattle.frame_views.specs.Values.{BodyValue, Commits, FastAbort, ConflictAbort, CertificateValue, as_commit, commit_with}

pub joined : (before first second now later : List ℕ) → now ≡ before ++ first → later ≡ now ++ second → later ≡ before ++ (first ++ second)
joined before first second now later e next = next ∙ ap (λ (z : List ℕ). z ++ second) e ∙ append_assoc before first second

-- a byte, and then more
pub headed : (before more now later : List ℕ) (head : ℕ) → now ≡ before ++ head ∷ [] → later ≡ now ++ more → later ≡ before ++ head ∷ more
headed before more now later head e next = joined before (head ∷ []) more now later e next

-- a byte, a transaction, and then more
pub headed_joined : (before first second one two later : List ℕ) (head : ℕ) → one ≡ before ++ head ∷ [] → two ≡ one ++ first →
    later ≡ two ++ second → later ≡ before ++ head ∷ (first ++ second)
headed_joined before first second one two later head e f g =
    headed before (first ++ second) one later head e (joined one first second two later f g)

-- what lacks the signature, and then the signature
pub ended : (before front signature whole now later : List ℕ) → whole ≡ front ++ signature → now ≡ before ++ front →
    later ≡ now ++ signature → later ≡ before ++ whole
ended before front signature whole now later is e next =
    joined before front signature now later e next ∙ ap (λ (z : List ℕ). before ++ z) (sym is)

-- a conflict abort: its vote, and then the transaction and its certificate
pub conflict-joined : (before id signature transaction proof now later : List ℕ) (shard replica : ℕ) →
    now ≡ before ++ 4 ∷ (id ++ shard ∷ replica ∷ signature) → later ≡ now ++ (transaction ++ proof)
    → later ≡ before ++ 4 ∷ (id ++ shard ∷ replica ∷ (signature ++ (transaction ++ proof)))
conflict-joined before id signature transaction proof now later shard replica e next =
    joined before (4 ∷ (id ++ shard ∷ replica ∷ signature)) (transaction ++ proof) now later e next
    ∙ ap (λ (z : List ℕ). before ++ 4 ∷ z) (append_assoc id (shard ∷ replica ∷ signature) (transaction ++ proof))

-- a certificate of a kind that may commit is spelled the same way inside of a conflict abort
pub commit-spelled : (c : CertificateValue) → FitsCommit widest (as_commit c) → certificate_bytes c ≡ commit_bytes (as_commit c)
commit-spelled c fits = by c.id c.body fits
  where
    by : (id : List ℕ) (body : BodyValue) → FitsCommit widest (commit_with id body) → certificate_bytes (record {
      id = id;
      body =
          body;
    }) ≡ commit_bytes (commit_with id body)
    by id (Commits body) fits = refl
    by id (FastAbort tally) fits = (let e = fits.id in absurd cc)
    by id (ConflictAbort conflict) fits = (let e = fits.id in absurd cc)

-- the same, of pieces that are equal to those that were appended
pub conflict-joined-of : (before id signature transaction proof signature' transaction' proof' now later : List ℕ) (shard replica : ℕ)
    → now ≡ before ++ 4 ∷ (id ++ shard ∷ replica ∷ signature) →
    later ≡ now ++ (transaction ++ proof) → signature ≡ signature' → transaction ≡ transaction' → proof ≡ proof'
    → later ≡ before ++ 4 ∷ (id ++ shard ∷ replica ∷ (signature' ++ (transaction' ++ proof')))
conflict-joined-of before id signature transaction proof signature' transaction' proof' now later shard replica e next s t p =
    conflict-joined before id signature transaction proof now later shard replica e next
    ∙ ap (λ (z : List ℕ). before ++ 4 ∷ (id ++ shard ∷ replica ∷ (z ++ (transaction ++ proof)))) s
    ∙ ap (λ (z : List ℕ). before ++ 4 ∷ (id ++ shard ∷ replica ∷ (signature' ++ (z ++ proof)))) t
    ∙ ap (λ (z : List ℕ). before ++ 4 ∷ (id ++ shard ∷ replica ∷ (signature' ++ (transaction' ++ z)))) p
