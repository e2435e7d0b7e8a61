-- Two ways to one root part in two texts with one digest.
use Rattle.std.proofs.Common.{◌≡◌, ◌≢◌, ℕ, zero, suc, ◌+◌, ◌*◌, ◌%◌, ◌/◌, ◌^◌, ◌≤◌, ◌<◌, ◌==◌, Bool, true, false}
use Rattle.std.proofs.Common.{List, ◌∷◌, ◌++◌, length, take, drop, refl, sym, ap, ◌∙◌, arith, bytes_eq}
use Rattle.std.proofs.Math.Seq.{take-append_seam, drop-append_seam}
use Rattle.std.proofs.lemmas.Bool.Decides.{not_from_Decides}
use Rattle.std.proofs.lemmas.Grind.{common_steps}
use Rattle.std.proofs.lemmas.Slice.Eq.{bytes_eq-Decides}
use Rattle.sha2.proofs.Facts256.{length-sha256}
use Rattle.sha2.specs.Sha256.{sha256}
use Rattle.batch_sign.specs.Places.{Collides, parting, text_above}
use Rattle.batch_sign.specs.Signatures.{depth_in, is_formed, place_in}
use Rattle.batch_sign.specs.Trees.{climbed, inner_node, leaf_of, leaf_text, node_text, parent, parent_text}

-- a node is the digest of its text
pub parent-digest : (r : ℕ) (s own : List ℕ) → sha256 (parent_text r s own) ≡ parent r s own
unfolding inner_node
parent-digest r s own = by (r % 2 == 0) refl
  where
    by : (even : Bool) → (r % 2 == 0) ≡ even → sha256 (parent_text r s own) ≡ parent r s own
    by true e = rw e refl
    by false e = rw e refl

leaf-digest : (message : List ℕ) → sha256 (leaf_text message) ≡ leaf_of message
unfolding leaf_of
leaf-digest message = refl

-- the digest of each text on a way is the node to which it leads
way-digest : (path : ℕ → List ℕ) (r : ℕ) (message : List ℕ) (k : ℕ) →
    sha256 (text_above path r message k) ≡ climbed path r (leaf_of message) k
unfolding text_above climbed
way-digest path r message zero = leaf-digest message
way-digest path r message (suc k) = parent-digest (r / 2 ^ k) (path k) (climbed path r (leaf_of message) k)

pub text_more : (path : ℕ → List ℕ) (r : ℕ) (message : List ℕ) (k : ℕ) →
    text_above path r message (suc k) ≡ parent_text (r / 2 ^ k) (path k) (climbed path r (leaf_of message) k)
unfolding text_above
text_more path r message k = refl

pub text_none : (path : ℕ → List ℕ) (r : ℕ) (message : List ℕ) → text_above path r message 0 ≡ leaf_text message
unfolding text_above
text_none path r message = refl

-- ---- nodes of 32 bytes

length-parent : (r : ℕ) (s own : List ℕ) → length (parent r s own) ≡ 32
length-parent r s own = ap length (sym (parent-digest r s own)) ∙ length-sha256 (parent_text r s own)

length-climbed : (path : ℕ → List ℕ) (r : ℕ) (message : List ℕ) (k : ℕ) → length (climbed path r (leaf_of message) k) ≡ 32
unfolding climbed leaf_of
length-climbed path r message zero = length-sha256 (leaf_text message)
length-climbed path r message (suc k) = length-parent (r / 2 ^ k) (path k) (climbed path r (leaf_of message) k)

fronts : (a b c d : List ℕ) → length a ≡ length b → a ++ c ≡ b ++ d → a ≡ b
fronts a b c d same e =
    sym (take-append_seam a c) ∙ ap (λ (n : ℕ). take n (a ++ c)) same ∙ ap (take (length b)) e ∙ take-append_seam b d

ends : (a b c d : List ℕ) → length a ≡ length b → a ++ c ≡ b ++ d → c ≡ d
ends a b c d same e =
    sym (drop-append_seam a c) ∙ ap (λ (n : ℕ). drop n (a ++ c)) same ∙ ap (drop (length b)) e ∙ drop-append_seam b d

tail-same : (a b : List ℕ) → 1 ∷ a ≡ 1 ∷ b → a ≡ b
tail-same a b e = ap (drop 1) e

-- nodes below nodes of one text are the same
texts-same : (r : ℕ) (s t own held : List ℕ) → length s ≡ length t → length own ≡ length held →
    parent_text r s own ≡ parent_text r t held → own ≡ held
texts-same r s t own held paths nodes same = by (r % 2 == 0) refl
  where
    by : (even : Bool) → (r % 2 == 0) ≡ even → own ≡ held
    by true e =
        let texts : node_text own s ≡ node_text held t = rw e at same in
        fronts own held s t nodes (tail-same (own ++ s) (held ++ t) texts)
    by false e =
        let texts : node_text s own ≡ node_text t held = rw e at same in
        ends s t own held paths (tail-same (s ++ own) (t ++ held) texts)

-- ---- where two ways part

abbrev pub PartAt : (first second : ℕ → List ℕ) (level : ℕ) → Type 0
PartAt first second level = Collides (first level) (second level)

-- ways from different messages to one node part in two texts with one digest
pub parts : (p q : ℕ → List ℕ) (r : ℕ) (m h : List ℕ) (k : ℕ) → ((i : ℕ) → i < k → length (p i) ≡ length (q i)) → m ≢ h →
    climbed p r (leaf_of m) k ≡ climbed q r (leaf_of h) k →
    PartAt (text_above p r m) (text_above q r h) (parting (text_above p r m) (text_above q r h) k)
unfolding parting
parts p q r m h zero paths differ meet =
    record {
      differ = λ same. differ (ap (drop 1) (sym (text_none p r m) ∙ same ∙ text_none q r h));
      same = way-digest p r m 0 ∙ meet ∙ sym (way-digest q r h 0);
    }
parts p q r m h (suc k) paths differ meet =
    by (λ below. parts p q r m h k (λ i lt. paths i (omega arith)) differ below)
    (bytes_eq (text_above p r m (suc k)) (text_above q r h (suc k))) refl
  where
    by : (climbed p r (leaf_of m) k ≡ climbed q r (leaf_of h) k →
        PartAt (text_above p r m) (text_above q r h) (parting (text_above p r m) (text_above q r h) k)) →
        (same : Bool) → bytes_eq (text_above p r m (suc k)) (text_above q r h (suc k)) ≡ same →
        PartAt (text_above p r m) (text_above q r h) (parting (text_above p r m) (text_above q r h) (suc k))
    by lower true e =
        let texts = (bytes_eq-Decides (text_above p r m (suc k)) (text_above q r h (suc k))).0 e in
        let long = length-climbed p r m k ∙ sym (length-climbed q r h k) in
        let below = texts-same (r / 2 ^ k) (p k) (q k) (climbed p r (leaf_of m) k) (climbed q r (leaf_of h) k)
        (paths k (omega arith)) long (sym (text_more p r m k) ∙ texts ∙ text_more q r h k) in
        rw e (lower below)
    by lower false e =
        let texts = text_above p r m (suc k) in
        let others = text_above q r h (suc k) in
        let here : PartAt (text_above p r m) (text_above q r h) (suc k) = record {
          differ = not_from_Decides (bytes_eq texts others) (bytes_eq-Decides texts others) e;
          same = way-digest p r m (suc k) ∙ meet ∙ sym (way-digest q r h (suc k));
        } in
        rw e here

-- a signature of good form names a leaf of its tree
pub formed-place : (signature : List ℕ) → is_formed signature ≡ true → place_in signature < 2 ^ depth_in signature
formed-place signature h = grind (arith, common_steps)

-- and has its path
pub formed-path : (signature : List ℕ) → is_formed signature ≡ true → 2 + 32 * depth_in signature ≤ length signature
formed-path signature h = grind (arith, common_steps)
