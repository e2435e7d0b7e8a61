-- A key uses each number once, and each top leaf for one bottom key.
use Rattle.std.proofs.Common.{◌≡◌, ℕ, zero, suc, ◌+◌, ◌<◌, nat_lt, Bool, true, false, List, [], ◌∷◌, ◌++◌}
use Rattle.std.proofs.Common.{length, get_or, take, drop, if◌then◌else◌, refl, sym, ap, ◌∙◌, append_assoc, arith}
use Rattle.std.specs.Int.{w32, to_be_bytes}
use Rattle.std.proofs.lemmas.Bool.{ltb-true}
use Rattle.std.proofs.lemmas.List.{take_at, drop_at, drop-drop, length-append}
use Rattle.std.proofs.lemmas.Nat.{from_be_bytes-to_be_bytes_4}
use Rattle.lms_sign.specs.Sets.{leaves_of, size_of}
use Rattle.lms_sign.specs.Signing.{signature_of}
use Rattle.lms_sign.specs.Verifying.{number_at}
use Rattle.hss_sign.specs.declared.material.Material.{Material}
use Rattle.hss_sign.specs.Keys.{HssState, numbers_of, after_signing, top_leaf_of, bottom_leaf_of}
use Rattle.hss_sign.specs.Keys.{bottom_tree, bottom_key, top_signature, heading_of, hss_signature_of}
use Rattle.hss_sign.specs.Laws.{signatures_of, signature_at, top_leaf_in, bottom_key_in}
use Rattle.hss_sign.specs.Laws.{bottom_leaf_in, SignsOncePerNumber, OneKeyPerTopLeaf}
use Rattle.lms_sign.proofs.PartLaws.{leaves-fit, leaf-in_made}
use Rattle.hss_sign.proofs.NumberLaws.{same-number, top-below, bottom-below}
use Rattle.hss_sign.proofs.SizeLaws.{length-top_signature, length-bottom_key}

-- the signature of some message with a number that is below the count of numbers
record Made (m : Material) (number : ℕ) (signature : List ℕ) : Type 0 where
  message : List ℕ
  is : signature ≡ hss_signature_of m number message
  below : number < numbers_of m

made-head : (key : HssState) (message : List ℕ) (later : List (List ℕ))
    → ((i : ℕ) → i < length later → Made key.material (key.next + 1 + i) (get_or later i []))
    → (left : Bool) → nat_lt key.next (numbers_of key.material) ≡ left
    → (i : ℕ) → i < length (if left then hss_signature_of key.material key.next message ∷ later else [])
    → Made key.material (key.next + i) (get_or (if left then hss_signature_of key.material key.next message ∷ later else []) i [])
made-head key message later made false e i lt = absurd (omega arith)
made-head key message later made true e zero lt =
    let same : key.next + 0 ≡ key.next = omega arith in
    record {
      message = message;
      is = ap (λ (n : ℕ). hss_signature_of key.material n message) (sym same);
      below = let b = ltb-true key.next (numbers_of key.material) e in omega (arith, b);
    }
made-head key message later made true e (suc i) lt =
    let one = made i (omega arith) in
    let same : key.next + 1 + i ≡ key.next + suc i = omega arith in
    record {
      message = one.message;
      is = one.is ∙ ap (λ (n : ℕ). hss_signature_of key.material n one.message) same;
      below = let b = one.below in omega (arith, b);
    }

-- the signature with an index has the number that comes so many after the next
made-at : (key : HssState) (messages : List (List ℕ)) (i : ℕ) → i < length (signatures_of key messages)
    → Made key.material (key.next + i) (signature_at key messages i)
made-at key [] i lt = absurd (omega arith)
made-at key (message ∷ later) i lt =
    made-head key message (signatures_of (after_signing key) later) (made-at (after_signing key) later)
    (nat_lt key.next (numbers_of key.material)) refl i lt

-- the parts of a signature
top-leaf_headed : (m : Material) (q : ℕ) (rest : List ℕ) → q < leaves_of m.top → number_at (heading_of m q ++ rest) 4 ≡ q
unfolding heading_of top_signature
top-leaf_headed m q rest lt = from_be_bytes-to_be_bytes_4 q (omega (arith, lt, leaves-fit m.top))

heading-parts : (m : Material) (q : ℕ) (rest : List ℕ) →
    heading_of m q ++ rest ≡ (to_be_bytes w32 1 ++ top_signature m q) ++ (bottom_key m q ++ rest)
unfolding heading_of
heading-parts m q rest = append_assoc (to_be_bytes w32 1 ++ top_signature m q) (bottom_key m q) rest

past-top : (m : Material) (q : ℕ) (rest : List ℕ) → drop (4 + size_of m.top) (heading_of m q ++ rest) ≡ bottom_key m q ++ rest
past-top m q rest =
    let front = to_be_bytes w32 1 ++ top_signature m q in
    let long : length front ≡ 4 + size_of m.top =
    length-append (to_be_bytes w32 1) (top_signature m q) ∙ ap (λ (k : ℕ). 4 + k) (length-top_signature m q) in
    ap (drop (4 + size_of m.top)) (heading-parts m q rest) ∙ drop_at front (bottom_key m q ++ rest) (4 + size_of m.top) long

bottom-key_headed : (m : Material) (q : ℕ) (rest : List ℕ) → bottom_key_in m (heading_of m q ++ rest) ≡ bottom_key m q
bottom-key_headed m q rest = ap (take 56) (past-top m q rest) ∙ take_at (bottom_key m q) rest 56 (length-bottom_key m q)

past-heading : (m : Material) (q : ℕ) (rest : List ℕ) → drop (60 + size_of m.top) (heading_of m q ++ rest) ≡ rest
past-heading m q rest =
    let whole = heading_of m q ++ rest in
    let two : 60 + size_of m.top ≡ 4 + size_of m.top + 56 = omega arith in
    ap (λ (n : ℕ). drop n whole) two ∙ sym (drop-drop 56 (4 + size_of m.top) whole) ∙ ap (drop 56) (past-top m q rest)
    ∙ drop_at (bottom_key m q) rest 56 (length-bottom_key m q)

top-leaf_made : (m : Material) (number : ℕ) (signature : List ℕ) → Made m number signature → top_leaf_in signature ≡ top_leaf_of m number
unfolding hss_signature_of
top-leaf_made m number signature made =
    ap top_leaf_in made.is ∙ top-leaf_headed m (top_leaf_of m number) _ (top-below m.top m.bottom number made.below)

bottom-key_made : (m : Material) (number : ℕ) (signature : List ℕ) →
    Made m number signature → bottom_key_in m signature ≡ bottom_key m (top_leaf_of m number)
unfolding hss_signature_of
bottom-key_made m number signature made = ap (bottom_key_in m) made.is ∙ bottom-key_headed m (top_leaf_of m number) _

bottom-leaf_made : (m : Material) (number : ℕ) (signature : List ℕ) →
    Made m number signature → bottom_leaf_in m signature ≡ bottom_leaf_of m number
unfolding hss_signature_of
bottom-leaf_made m number signature made =
    let q = top_leaf_of m number in
    let last = signature_of (bottom_tree m q) (bottom_leaf_of m number) made.message in
    ap (bottom_leaf_in m) made.is ∙ ap (λ (t : List ℕ). number_at t 0) (past-heading m q last)
    ∙ leaf-in_made (bottom_tree m q) (bottom_leaf_of m number) made.message (bottom-below m.bottom number)

pub once_per_number : SignsOncePerNumber
once_per_number key messages i j before inside top bottom =
    let m = key.material in
    let first = made-at key messages i (omega arith) in
    let second = made-at key messages j inside in
    let tops : top_leaf_of m (key.next + i) ≡ top_leaf_of m (key.next + j) =
    sym (top-leaf_made m (key.next + i) _ first) ∙ top ∙ top-leaf_made m (key.next + j) _ second in
    let bottoms : bottom_leaf_of m (key.next + i) ≡ bottom_leaf_of m (key.next + j) =
    sym (bottom-leaf_made m (key.next + i) _ first) ∙ bottom ∙ bottom-leaf_made m (key.next + j) _ second in
    let one : key.next + i ≡ key.next + j = same-number m.bottom (key.next + i) (key.next + j) tops bottoms in
    omega arith

pub one_key : OneKeyPerTopLeaf
one_key key messages i j first_inside second_inside top =
    let m = key.material in
    let first = made-at key messages i first_inside in
    let second = made-at key messages j second_inside in
    let tops : top_leaf_of m (key.next + i) ≡ top_leaf_of m (key.next + j) =
    sym (top-leaf_made m (key.next + i) _ first) ∙ top ∙ top-leaf_made m (key.next + j) _ second in
    bottom-key_made m (key.next + i) _ first ∙ ap (bottom_key m) tops ∙ sym (bottom-key_made m (key.next + j) _ second)
