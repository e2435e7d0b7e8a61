-- What no test of a level refuses is what its keys sign.
use Rattle.std.proofs.Common.{◌≡◌, ℕ, zero, suc, ◌+◌, ◌-◌, ◌^◌, ◌<◌, ◌≤◌, ◌==◌, nat_le, Bool, true, false}
use Rattle.std.proofs.Common.{◌&&◌, List, [], ◌∷◌, ◌++◌, take, drop, length, get_or, Option, Some, None}
use Rattle.std.proofs.Common.{is_some, option_map, unwrap_or, IsOk, ◌↔◌, refl, sym, ap, ◌∙◌, eq-eqb, arith}
use Rattle.std.specs.Int.{w32, to_be_bytes}
use Rattle.std.proofs.lemmas.List.{take_at, drop_at, take_all, take-append-drop, drop-drop, length-append, length-drop, length-take-le}
use Rattle.std.proofs.lemmas.Nat.{from_be_bytes-to_be_bytes_4, be_bytes_4}
use Rattle.std.proofs.lemmas.Bool.{eqb-true, le-leb, leb-true}
use Rattle.basil_types.specs.Built.{or_else}
use Rattle.lms_sign.specs.declared.sets.LmsSet.{LmsSet}
use Rattle.lms_sign.specs.declared.verifying.LmsRefusal.{LmsRefusal}
use Rattle.lms_sign.specs.Sets.{size_of}
use Rattle.lms_sign.specs.Verifying.{Valid, number_at, set_in, first_refusal as lms_refusal}
use Rattle.hss_sign.specs.declared.verifying.HssRefusal.{HssRefusal}
use Rattle.hss_sign.specs.declared.verifying.HssRefusal.TheVariants.{Lms}
use Rattle.hss_sign.specs.Verifying.{Level, spelled, Signs, HssValid, unless, size_under, signature_in, next_key_in, rest_after}
use Rattle.hss_sign.specs.Verifying.{refusal_at, refusal_above, refusal_last, refusal_from, first_refusal, answer_of}
use Rattle.lms_sign.proofs.ValidLaws.{valid-unrefused, unrefused-valid}

-- a test that refuses nothing was passed, and so were the later ones
passed : (b : Bool) (refusal : HssRefusal) (later : Option HssRefusal) → unless b refusal later ≡ None → (b ≡ true) × (later ≡ None)
passed true refusal later h = (refl, h)
passed false refusal later h = absurd (cc)

neither : (a b : Option HssRefusal) → or_else a b ≡ None → (a ≡ None) × (b ≡ None)
neither None b h = (refl, h)
neither (Some e) b h = absurd (cc)

both : (a b : Bool) → (a && b) ≡ true → (a ≡ true) × (b ≡ true)
both true true h = (refl, refl)
both true false h = absurd (cc)
both false b h = absurd (cc)

unmapped : (level : ℕ) (o : Option LmsRefusal) → option_map (Lms level) o ≡ None → o ≡ None
unmapped level None h = refl
unmapped level (Some e) h = absurd (cc)

-- a level that refuses nothing signs
at-valid : (level : ℕ) (key message signature : List ℕ) → refusal_at level key message signature ≡ None → Valid key message signature
at-valid level key message signature none = unrefused-valid key message signature (unmapped level (lms_refusal key message signature) none)

valid-at : (level : ℕ) (key message signature : List ℕ) → Valid key message signature → refusal_at level key message signature ≡ None
valid-at level key message signature v = ap (option_map (Lms level)) (valid-unrefused key message signature v)

-- the levels that are spelled in what is left of a signature
record Signed (below : ℕ) (key message rest : List ℕ) : Type 0 where
  levels : List Level
  last : List ℕ
  count : length levels ≡ below
  spells : rest ≡ spelled levels last
  signs : Signs key levels last message

parted : (n m : ℕ) (rest : List ℕ) → rest ≡ take n rest ++ (take m (drop n rest) ++ drop (n + m) rest)
parted n m rest =
    sym (take-append-drop n rest)
    ∙ ap (λ (t : List ℕ). take n rest ++ t)
    (sym (take-append-drop m (drop n rest)) ∙ ap (λ (t : List ℕ). take m (drop n rest) ++ t) (drop-drop m n rest))

unrefused-signed : (below level : ℕ) (key message rest : List ℕ) →
    refusal_from below level key message rest ≡ None → Signed below key message rest
unrefused-signed zero level key message rest none =
    let tests = passed _ _ _ none in
    record { levels = []; last = rest; count = refl; spells = refl; signs = at-valid level key message rest tests.1 }
unrefused-signed (suc below) level key message rest none =
    let two = neither _ _ none in
    let type = passed _ _ _ two.0 in
    let room = passed _ _ _ type.1 in
    let more = unrefused-signed below (level + 1) (next_key_in key rest) message (rest_after key rest) two.1 in
    record {
      levels = record { signature = signature_in key rest; next_key = next_key_in key rest } ∷ more.levels;
      last = more.last;
      count = ap suc more.count;
      spells = parted (size_under key) 56 rest ∙ ap (λ (t : List ℕ). signature_in key rest ++ (next_key_in key rest ++ t)) more.spells;
      signs = (at-valid level key (next_key_in key rest) (signature_in key rest) room.1, more.signs);
    }

length-key : (key : List ℕ) (levels : List Level) (last message : List ℕ) → Signs key levels last message → length key ≡ 56
length-key key [] last message signs = signs.key_length
length-key key (level ∷ levels) last message signs = signs.0.key_length

-- the parts of what is spelled
size-valid : (key message signature : List ℕ) → Valid key message signature → size_under key ≡ length signature
size-valid key message signature v = ap (λ (o : Option LmsSet). unwrap_or (option_map size_of o) 0) v.key_types ∙ sym v.signature_length

set-valid : (key message signature : List ℕ) → Valid key message signature → is_some (set_in key) ≡ true
set-valid key message signature v = ap is_some v.key_types

signed-unrefused : (level : ℕ) (key message : List ℕ) (levels : List Level) (last : List ℕ) → Signs key levels last message
    → refusal_from (length levels) level key message (spelled levels last) ≡ None
signed-unrefused level key message [] last signs = rw (set-valid key message last signs) (valid-at level key message last signs)
signed-unrefused level key message (one ∷ levels) last signs =
    let v = signs.0 in
    let size = size-valid key one.next_key one.signature v in
    let next = length-key one.next_key levels last message signs.1 in
    let tail = spelled levels last in
    let rest = one.signature ++ (one.next_key ++ tail) in
    let mine : signature_in key rest ≡ one.signature = take_at one.signature (one.next_key ++ tail) (size_under key) (sym size) in
    let behind : drop (size_under key) rest ≡ one.next_key ++ tail =
    drop_at one.signature (one.next_key ++ tail) (size_under key) (sym size) in
    let key_is : next_key_in key rest ≡ one.next_key = ap (take 56) behind ∙ take_at one.next_key tail 56 next in
    let tail_is : rest_after key rest ≡ tail =
    sym (drop-drop 56 (size_under key) rest) ∙ ap (drop 56) behind ∙ drop_at one.next_key tail 56 next in
    let long : length rest ≡ length one.signature + (length one.next_key + length tail) =
    length-append one.signature (one.next_key ++ tail) ∙ ap (λ (k : ℕ). length one.signature + k) (length-append one.next_key tail) in
    let room : nat_le (size_under key + 56) (length rest) ≡ true = le-leb _ _ (omega arith) in
    let here : refusal_at level key (next_key_in key rest) (signature_in key rest) ≡ None =
    rw (key_is, mine) (valid-at level key one.next_key one.signature v) in
    let later = signed-unrefused (level + 1) one.next_key message levels last signs.1 in
    let above : refusal_above level key rest ≡ None = rw (set-valid key one.next_key one.signature v, room) here in
    rw (above, key_is, tail_is) later

-- one level further, where a level above the last refuses
pub refuses_here : (below level : ℕ) (key message rest : List ℕ) (refusal : HssRefusal) → level < below
    → refusal_above level key rest ≡ Some refusal → refusal_from (below - level) level key message rest ≡ Some refusal
refuses_here below level key message rest refusal lt refused =
    let e : below - level ≡ suc (below - (level + 1)) = omega arith in
    rw (e, refused) refl

-- and where it does not
pub goes_on : (below level : ℕ) (key message rest : List ℕ) (size : ℕ) →
    level < below → refusal_above level key rest ≡ None → size ≡ size_under key
    → refusal_from (below - level) level key message rest
    ≡ refusal_from (below - (level + 1))
    (level + 1) (take 56 (drop size rest)) message (take (length rest - (size + 56)) (drop (size + 56) rest))
goes_on below level key message rest size lt none is =
    let e : below - level ≡ suc (below - (level + 1)) = omega arith in
    let all : take (length rest - (size + 56)) (drop (size + 56) rest) ≡ drop (size + 56) rest =
    take_all (length rest - (size + 56)) (drop (size + 56) rest) (omega (arith, length-drop (size + 56) rest)) in
    rw (e, none, all, is) refl

-- at the last level
pub ends : (below level : ℕ) (key message rest : List ℕ) → level ≤ below → below ≤ level
    → refusal_from (below - level) level key message rest ≡ refusal_last below key message rest
ends below level key message rest le ge =
    let e : below - level ≡ 0 = omega arith in
    let same : level ≡ below = omega arith in
    rw (e, same) refl

ok-none : (o : Option HssRefusal) → IsOk (answer_of o) → o ≡ None
ok-none None h = refl
ok-none (Some e) h = cc

-- a level whose LMS signature refuses
pub above_refused : (level : ℕ) (key rest : List ℕ) (size : ℕ) (refusal : HssRefusal) → is_some (set_in key) ≡ true → size ≡ size_under key
    → size + 56 ≤ length rest → refusal_at level key (take (size + 56 - size) (drop size rest)) (take size rest) ≡ Some refusal
    → refusal_above level key rest ≡ Some refusal
above_refused level key rest size refusal set is room refused =
    let fits : nat_le (size_under key + 56) (length rest) ≡ true = le-leb _ _ (omega arith) in
    let wide : 56 ≡ size + 56 - size = omega arith in
    let same : refusal_at level key (next_key_in key rest) (signature_in key rest) ≡ Some refusal =
    ap (λ (n : ℕ). refusal_at level key (take 56 (drop n rest)) (take n rest)) (sym is)
    ∙ ap (λ (n : ℕ). refusal_at level key (take n (drop size rest)) (take size rest)) wide ∙ refused in
    rw (set, fits) same

-- what refuses nothing passed each test
both_true : (a b : Bool) → a ≡ true → b ≡ true → (a && b) ≡ true
both_true a b p q = rw (p, q) refl

all-passed : (public message signature : List ℕ) → (length public == 60) ≡ true
    → (nat_le 1 (number_at public 0) && nat_le (number_at public 0) 8) ≡ true
    → (nat_le 4 (length signature) && number_at signature 0 == number_at public 0 - 1) ≡ true
    → refusal_from (number_at public 0 - 1) 0 (take 56 (drop 4 public)) message (drop 4 signature) ≡ None
    → first_refusal public message signature ≡ None
unfolding first_refusal
all-passed public message signature long levels count none = rw (long, levels, count) none

number-first : (n : ℕ) (tail : List ℕ) → n < 2 ^ 32 → number_at (to_be_bytes w32 n ++ tail) 0 ≡ n
number-first n tail lt = from_be_bytes-to_be_bytes_4 n lt

length-first : (n : ℕ) (tail : List ℕ) → length (to_be_bytes w32 n ++ tail) ≡ 4 + length tail
length-first n tail = length-append (to_be_bytes w32 n) tail

-- what is spelled is refused by no test
spelled-unrefused : (key message : List ℕ) (levels : List Level) (last : List ℕ) → length levels < 8 → Signs key levels last message
    → first_refusal (to_be_bytes w32 (length levels + 1) ++ key) message (to_be_bytes w32 (length levels) ++ spelled levels last) ≡ None
spelled-unrefused key message levels last few signs =
    let n = length levels in
    let public = to_be_bytes w32 (n + 1) ++ key in
    let tail = spelled levels last in
    let signature = to_be_bytes w32 n ++ tail in
    let key_long = length-key key levels last message signs in
    let long : length public ≡ 60 = length-first (n + 1) key ∙ omega arith in
    let named : number_at public 0 ≡ n + 1 = number-first (n + 1) key (omega arith) in
    let counted : number_at signature 0 ≡ n = number-first n tail (omega arith) in
    let counts : number_at signature 0 ≡ number_at public 0 - 1 = omega arith in
    let enough : 4 ≤ length signature = omega (arith, length-first n tail) in
    let below : number_at public 0 - 1 ≡ n = omega arith in
    let signed = signed-unrefused 0 key message levels last signs in
    let from : refusal_from (number_at public 0 - 1) 0 (take 56 key) message tail ≡ None =
    ap (λ (k : ℕ). refusal_from k 0 (take 56 key) message tail) below
    ∙ ap (λ (k : List ℕ). refusal_from n 0 k message tail) (take_all 56 key (omega arith)) ∙ signed in
    all-passed public message signature (eq-eqb _ _ long)
    (both_true _ _ (le-leb 1 (number_at public 0) (omega arith)) (le-leb (number_at public 0) 8 (omega arith)))
    (both_true _ _ (le-leb 4 (length signature) enough) (eq-eqb _ _ counts))
    from

valid-unrefused_all : (public message signature : List ℕ) →
    HssValid public message signature → first_refusal public message signature ≡ None
valid-unrefused_all public message signature v =
    ap (λ (p : List ℕ). first_refusal p message signature) v.public_is
    ∙ ap (first_refusal (to_be_bytes w32 (length v.levels + 1) ++ v.key) message) v.signature_is
    ∙ spelled-unrefused v.key message v.levels v.last v.at_most_eight v.signs

-- the first four bytes spell their number
bytes-take : (n : ℕ) (bytes : List ℕ) → ((i : ℕ) → get_or bytes i 0 < 256) → (i : ℕ) → get_or (take n bytes) i 0 < 256
bytes-take zero bytes below i = omega arith
bytes-take (suc n) [] below i = omega arith
bytes-take (suc n) (b ∷ bytes) below zero = below zero
bytes-take (suc n) (b ∷ bytes) below (suc i) = bytes-take n bytes (λ k. below (suc k)) i

spells-number : (n : ℕ) (bytes : List ℕ) → ((i : ℕ) → get_or bytes i 0 < 256) → 4 ≤ length bytes → number_at bytes 0 ≡ n
    → bytes ≡ to_be_bytes w32 n ++ drop 4 bytes
spells-number n bytes below long is =
    let front : to_be_bytes w32 n ≡ take 4 bytes =
    be_bytes_4 (take 4 bytes) n (length-take-le 4 bytes long) (bytes-take 4 bytes below) (sym is) in
    sym (take-append-drop 4 bytes) ∙ ap (λ (t : List ℕ). t ++ drop 4 bytes) (sym front)

unrefused-valid_all : (public message signature : List ℕ) → ((i : ℕ) → get_or public i 0 < 256) → ((i : ℕ) → get_or signature i 0 < 256)
    → first_refusal public message signature ≡ None → HssValid public message signature
unfolding first_refusal
unrefused-valid_all public message signature public_bytes signature_bytes none =
    let long = passed _ _ _ none in
    let levels = passed _ _ _ long.1 in
    let count = passed _ _ _ levels.1 in
    let range = both _ _ levels.0 in
    let counts = both _ _ count.0 in
    let n = number_at public 0 in
    let length_is : length public ≡ 60 = eqb-true _ _ long.0 in
    let least : 1 ≤ n = leb-true _ _ range.0 in
    let most : n ≤ 8 = leb-true _ _ range.1 in
    let enough : 4 ≤ length signature = leb-true _ _ counts.0 in
    let counted : number_at signature 0 ≡ n - 1 = eqb-true _ _ counts.1 in
    let signed = unrefused-signed (n - 1) 0 (take 56 (drop 4 public)) message (drop 4 signature) count.1 in
    let levels_are = signed.count in
    let all : take 56 (drop 4 public) ≡ drop 4 public = take_all 56 (drop 4 public) (omega (arith, length-drop 4 public)) in
    record {
      key = take 56 (drop 4 public);
      levels = signed.levels;
      last = signed.last;
      at_most_eight = omega arith;
      public_is = spells-number (length signed.levels + 1) public public_bytes (omega arith) (omega arith)
          ∙ ap (λ (t : List ℕ). to_be_bytes w32 (length signed.levels + 1) ++ t) (sym all);
      signature_is = spells-number (length signed.levels) signature signature_bytes enough (counted ∙ sym levels_are)
          ∙ ap (λ (t : List ℕ). to_be_bytes w32 (length signed.levels) ++ t) signed.spells;
      signs = signed.signs;
    }

-- the answer is Ok exactly where the signature is valid
pub ok_valid : (public message signature : List ℕ) → ((i : ℕ) → get_or public i 0 < 256) → ((i : ℕ) → get_or signature i 0 < 256)
    → IsOk (answer_of (first_refusal public message signature)) ↔ HssValid public message signature
ok_valid public message signature public_bytes signature_bytes = (
  λ ok. unrefused-valid_all public message signature public_bytes signature_bytes (ok-none (first_refusal public message signature) ok),
  λ v. rw (valid-unrefused_all public message signature v) refl,
)
