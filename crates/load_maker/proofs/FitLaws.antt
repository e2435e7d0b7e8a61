-- The fields of each line of a load are in their ranges, and no line is long or has a newline.
use Rattle.std.proofs.Common.{◌≡◌, ℕ, zero, suc, ◌+◌, ◌-◌, ◌*◌, ◌%◌, ◌^◌, ◌<◌, ◌≤◌, ◌==◌, List, [], ◌∷◌, ◌++◌, Bool}
use Rattle.std.proofs.Common.{true, false, codes, length, get_or, refl, ap, ◌∙◌, sym, subst, if◌then◌else◌, arith}
use Rattle.std.proofs.lemmas.List.Elements.{All-nil, All-cons, All-append, All-map, All-replicate}
use Rattle.std.proofs.lemmas.List.FromFn.{length-range_with_len, get_or-range_with_len}
use Rattle.std.specs.Fmt.{decimal}
use Rattle.std.specs.List.{All, flat_map, join_with_byte, list_all}
use Rattle.rand_chacha.specs.ChaCha.{ChaCha}
use Rattle.schedule_text.specs.declared.line.Line.{Line}
use Rattle.schedule_text.specs.declared.line.Line.TheVariants.{Begin, Read, Round}
use Rattle.schedule_text.specs.Fitting.{Fits, IsClient, SpellingIsRead}
use Rattle.line_fields.specs.Limits.{longest_line}
use Rattle.schedule_text.specs.Spelling.{key_token, line_tokens, spelling, value_token}
use Rattle.load_maker.specs.declared.draws.Draw.{Draw}
use Rattle.load_maker.specs.Draws.{draw_from, draw_of, stream_at, word}
use Rattle.load_maker.specs.Laws.{LinesAreRead}
use Rattle.load_maker.specs.Loads as Loads
use Rattle.load_maker.proofs.TokenLaws.{AllTidy, IsTidy, decimal-tidy, is_inside, joined-inside, joined-short}
use Rattle.load_maker.proofs.TokenLaws.{key-fits, key-tidy, labelled-tidy, name-tidy, named, value-fits, value-tidy}

-- ---- what is drawn

record IsDrawn (draw : Draw) : Type 0 where
  some : 1 ≤ draw.client
  few : draw.client ≤ 8
  key : draw.key < 16
  other : draw.other < 16

drawn-by : (a b c d : ℕ) → IsDrawn (record { client = 1 + a % 8; key = b % 16; other = c % 16; rounds = d % 4 })
drawn-by a b c d = record { some = omega arith; few = omega arith; key = omega arith; other = omega arith }

drawn-fits : (stream : ChaCha) → IsDrawn (draw_from stream)
drawn-fits s = drawn-by (word s 0) (word s 1) (word s 2) (word s 3)

-- ---- lines

pub record IsGood (line : Line) : Type 0 where
  pub fits : Fits line
  pub short : length (spelling line) ≤ longest_line
  pub inside : list_all is_inside (spelling line) ≡ true

-- a line of tidy tokens
by-tokens : (line : Line) (first : List ℕ) (rest : List (List ℕ)) → line_tokens line ≡ first ∷ rest → length rest ≤ 9 →
    Fits line → IsTidy first → AllTidy rest → IsGood line
by-tokens line first rest tokens few fits t h =
    let spelt : spelling line ≡ join_with_byte 32 (first ∷ rest) = ap (λ (ws : List (List ℕ)). join_with_byte 32 ws) tokens in
    record {
      fits = fits;
      short = omega (arith, ap length spelt, joined-short first rest t h);
      inside = ap (list_all is_inside) spelt ∙ joined-inside first rest t h;
    }

client-fits : (draw : Draw) → IsDrawn draw → IsClient draw.client
client-fits draw d = (d.some, omega (arith, d.few))

client-tidy : (draw : Draw) → IsDrawn draw → IsTidy (decimal draw.client)
client-tidy draw d = decimal-tidy draw.client (omega (arith, d.few))

header-fits : Fits Loads.header
header-fits = (
  record {
    faulty = omega arith;
    some = omega arith;
    few = omega arith;
    enough = omega arith;
    correct = omega arith;
  },
  omega arith,
  omega arith,
)

text-tidy : (text : List ℕ) → length text ≤ 33 → list_all is_inside text ≡ true → IsTidy text
text-tidy text s h = record { short = s; inside = h }

-- a label of the header, and its number
label-tidy : (label : List ℕ) (n : ℕ) → length label ≤ 23 → list_all is_inside label ≡ true → n ≤ 1000000 → IsTidy (label ++ decimal n)
label-tidy label n s t h = labelled-tidy label n s t (omega arith)

header-good : IsGood Loads.header
unfolding line_tokens
header-good =
    by-tokens Loads.header (codes "basil")
    (codes "1" ∷ (codes "f=" ++ decimal 1) ∷ (codes "shards=" ++ decimal 2) ∷ (codes "reads=" ++ decimal 2)
    ∷ (codes "delta=" ++ decimal 1000000) ∷ (codes "clock=" ++ decimal 0) ∷ codes "keys=plain" ∷ [])
    refl (omega arith) header-fits (text-tidy (codes "basil") (omega arith) refl) (
      text-tidy (codes "1") (omega arith) refl,
      (
        label-tidy (codes "f=") 1 (omega arith) refl (omega arith),
        (
          label-tidy (codes "shards=") 2 (omega arith) refl (omega arith),
          (
            label-tidy (codes "reads=") 2 (omega arith) refl (omega arith),
            (
              label-tidy (codes "delta=") 1000000 (omega arith) refl (omega arith),
              (
                label-tidy (codes "clock=") 0 (omega arith) refl (omega arith),
                (text-tidy (codes "keys=plain") (omega arith) refl, tt),
              ),
            ),
          ),
        ),
      ),
    )

begin-good : (i : ℕ) (draw : Draw) → i < 2 ^ 32 → IsDrawn draw → IsGood (Begin (Loads.name_of i) draw.client i)
unfolding line_tokens
begin-good i draw h d =
    by-tokens (Begin (Loads.name_of i) draw.client i) (codes "begin")
    (Loads.name_of i ∷ decimal draw.client ∷ decimal i ∷ []) refl (omega arith)
    (named i h, client-fits draw d, omega arith) (text-tidy (codes "begin") (omega arith) refl)
    (name-tidy i h, (client-tidy draw d, (decimal-tidy i h, tt)))

read-good : (i k : ℕ) → i < 2 ^ 32 → k < 16 → IsGood (Read (Loads.name_of i) (Loads.key_of k))
unfolding line_tokens
read-good i k h l =
    by-tokens (Read (Loads.name_of i) (Loads.key_of k))
    (codes "read") (Loads.name_of i ∷ key_token (Loads.key_of k) ∷ []) refl (omega arith)
    (named i h, key-fits k l) (text-tidy (codes "read") (omega arith) refl) (name-tidy i h, (key-tidy k l, tt))

write-good : (i k : ℕ) → i < 2 ^ 32 → k < 16 → IsGood (Loads.write_line i k)
unfolding line_tokens
write-good i k h l =
    by-tokens (Loads.write_line i k) (codes "write")
    (Loads.name_of i ∷ key_token (Loads.key_of k) ∷ value_token (Loads.value_of i) ∷ []) refl (omega arith)
    (named i h, key-fits k l, value-fits i h) (text-tidy (codes "write") (omega arith) refl)
    (name-tidy i h, (key-tidy k l, (value-tidy i h, tt)))

prepare-good : (i : ℕ) → i < 2 ^ 32 → IsGood (Loads.prepare_line i)
unfolding line_tokens
prepare-good i h =
    by-tokens (Loads.prepare_line i) (codes "prepare") (Loads.name_of i ∷ []) refl (omega arith) (named i h)
    (text-tidy (codes "prepare") (omega arith) refl) (name-tidy i h, tt)

settle-good : (i : ℕ) (draw : Draw) → i < 2 ^ 32 → IsDrawn draw → IsGood (Loads.settle_line i draw.client)
unfolding line_tokens
settle-good i draw h d =
    by-tokens (Loads.settle_line i draw.client) (codes "settle") (Loads.name_of i ∷ decimal draw.client ∷ []) refl (omega arith)
    (named i h, client-fits draw d) (text-tidy (codes "settle") (omega arith) refl) (name-tidy i h, (client-tidy draw d, tt))

round-good : IsGood Round
unfolding line_tokens
round-good = by-tokens Round (codes "round") [] refl (omega arith) tt (text-tidy (codes "round") (omega arith) refl) tt

-- ---- transactions

rounds-good : (count : ℕ) → All IsGood (Loads.rounds count)
rounds-good count = All-replicate IsGood count Round round-good

reads-good : (i : ℕ) (draw : Draw) → i < 2 ^ 32 → IsDrawn draw → All IsGood (Loads.read_lines i draw)
reads-good i draw h d =
    let read : Line = Read (Loads.name_of i) (Loads.key_of draw.key) in
    All-cons IsGood (Begin (Loads.name_of i) draw.client i) (read ∷ Loads.rounds 2) (begin-good i draw h d)
    (All-cons IsGood read (Loads.rounds 2) (read-good i draw.key h d.key) (rounds-good 2))

unless : (b : Bool) (line : Line) → IsGood line → All IsGood (if b then [] else line ∷ [])
unless true line h = All-nil IsGood
unless false line h = All-cons IsGood line [] h (All-nil IsGood)

writes-good : (i : ℕ) (draw : Draw) → i < 2 ^ 32 → IsDrawn draw → All IsGood (Loads.write_lines i draw)
writes-good i draw h d =
    let other : Line = Loads.write_line i draw.other in
    All-cons IsGood (Loads.write_line i draw.key) (if draw.other == draw.key then [] else other ∷ []) (write-good i draw.key h d.key)
    (unless (draw.other == draw.key) other (write-good i draw.other h d.other))

transaction-good : (i : ℕ) (draw : Draw) → i < 2 ^ 32 → IsDrawn draw → All IsGood (Loads.transaction_lines i draw)
transaction-good i draw h d =
    let reads : List Line = Loads.read_lines i draw in
    let writes : List Line = Loads.write_lines i draw in
    let rest : List Line = Loads.prepare_line i ∷ Loads.rounds draw.rounds in
    All-append IsGood (reads ++ writes) rest
    (All-append IsGood reads writes (reads-good i draw h d) (writes-good i draw h d))
    (All-cons IsGood (Loads.prepare_line i) (Loads.rounds draw.rounds) (prepare-good i h) (rounds-good draw.rounds))

-- ---- the whole

all-flat : {X Y : Type 0} (P : Y → Type 0) (f : X → List Y) (xs : List X) → All (λ x. All P (f x)) xs → All P (flat_map f xs)
all-flat P f [] h = All-nil P
all-flat P f (x ∷ xs) h =
    All-append P (f x) (flat_map f xs) (h zero x (omega arith)) (all-flat P f xs (λ k d l. h (suc k) d (omega arith)))

-- what holds of the numbers from one to this one holds of each in their list
all-one_to : (P : ℕ → Type 0) (count : ℕ) → ((i : ℕ) → i ≤ count → P i) → All P (Loads.one_to count)
all-one_to P count h = λ k d l.
    let below : k < count = omega (arith, length-range_with_len 1 count) in
    subst P (sym (get_or-range_with_len 1 count k d below)) (h (1 + k) (omega arith))

pub load-good : (seed count : ℕ) → count < 2 ^ 32 → All IsGood (Loads.load_of seed count)
load-good seed count h =
    let lines : ℕ → List Line = λ i. Loads.transaction_lines i (draw_of seed i) in
    let settle : ℕ → Line = λ i. Loads.settle_line i (draw_of seed i).client in
    let drawn : (i : ℕ) → IsDrawn (draw_of seed i) = λ i. drawn-fits (stream_at seed (4 * (i - 1))) in
    let transactions : All IsGood (Loads.transactions seed count) =
    all-flat IsGood lines (Loads.one_to count)
    (all-one_to (λ i. All IsGood (lines i)) count (λ i l. transaction-good i (draw_of seed i) (omega arith) (drawn i))) in
    let settles : All IsGood (Loads.settles seed count) =
    All-map IsGood settle (Loads.one_to count)
    (all-one_to (λ i. IsGood (settle i)) count (λ i l. settle-good i (draw_of seed i) (omega arith) (drawn i))) in
    let front : List Line = Loads.header ∷ Loads.transactions seed count in
    All-append IsGood (front ++ Loads.settles seed count) (Loads.rounds 4)
    (All-append IsGood front (Loads.settles seed count)
    (All-cons IsGood Loads.header (Loads.transactions seed count) header-good transactions) settles)
    (rounds-good 4)

-- a line that is good is read as itself
pub lines-are-read : SpellingIsRead → LinesAreRead
lines-are-read read seed count number h late = λ k d l.
    let good = load-good seed count h k d l in
    read (get_or (Loads.load_of seed count) k d) number good.fits good.short late
