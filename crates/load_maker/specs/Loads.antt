-- The schedule that a number and a count of transactions give.
use Rattle.std.specs.Prelude.{ℕ, ◌==◌, List, [], ◌∷◌, ◌++◌, map, replicate, codes, decimal, false, if◌then◌else◌}
use Rattle.std.specs.List.{flat_map, range_with_len}
use Rattle.line_fields.specs.declared.keys_kind.KeysKind.TheVariants.{Plain}
use Rattle.schedule_text.specs.declared.line.Line.{Line}
use Rattle.schedule_text.specs.declared.line.Line.TheVariants.{Header, Begin, Read, Write, Prepare, Settle, Round}
use Rattle.schedule_text.specs.Spelling.{spelling}
use Rattle.load_maker.specs.declared.draws.Draw.{Draw}
use Rattle.load_maker.specs.Draws.{draw_of}

-- ---- names

-- `t1`, `t2` and so on
abbrev pub name_of : ℕ → List ℕ
name_of i = codes "t" ++ decimal i

-- `v1`, `v2` and so on
abbrev pub value_of : ℕ → List ℕ
value_of i = codes "v" ++ decimal i

-- `k0` to `k15`
abbrev pub key_of : ℕ → List ℕ
key_of number = codes "k" ++ decimal number

-- ---- lines

-- `basil 1 f=1 shards=2 reads=2 delta=1000000 clock=0 keys=plain`
abbrev pub header : Line
header = Header (record { f = 1; shards = 2; reads = 2; delta = 1000000 }) 0 Plain false

abbrev pub rounds : ℕ → List Line
rounds count = replicate count Round

-- it begins at the time of its number, and reads its key; two rounds bring the answers
abbrev pub read_lines : (i : ℕ) → Draw → List Line
read_lines i draw = Begin (name_of i) draw.client i ∷ Read (name_of i) (key_of draw.key) ∷ rounds 2

abbrev pub write_line : (i key : ℕ) → Line
write_line i key = Write (name_of i) (key_of key) (value_of i)

-- it writes its key, and the other one where that isn't the same
abbrev pub write_lines : (i : ℕ) → Draw → List Line
write_lines i draw = write_line i draw.key ∷ (if draw.other == draw.key then [] else write_line i draw.other ∷ [])

abbrev pub prepare_line : ℕ → Line
prepare_line i = Prepare (name_of i)

-- the i-th transaction, of what is drawn
abbrev pub transaction_lines : (i : ℕ) → Draw → List Line
transaction_lines i draw = read_lines i draw ++ write_lines i draw ++ prepare_line i ∷ rounds draw.rounds

-- its client settles it
abbrev pub settle_line : (i client : ℕ) → Line
settle_line i client = Settle (name_of i) client

-- ---- the whole

-- the numbers from 1 to this one
abbrev pub one_to : ℕ → List ℕ
one_to count = range_with_len 1 count

-- the transactions, in the order of their numbers
abbrev pub transactions : (seed count : ℕ) → List Line
transactions seed count = flat_map (λ i. transaction_lines i (draw_of seed i)) (one_to count)

-- each is settled, in the same order
abbrev pub settles : (seed count : ℕ) → List Line
settles seed count = map (λ i. settle_line i (draw_of seed i).client) (one_to count)

abbrev pub load_of : (seed count : ℕ) → List Line
load_of seed count = header ∷ transactions seed count ++ settles seed count ++ rounds 4

-- the one spelling of a line, and its newline
abbrev pub line_text : Line → List ℕ
line_text line = spelling line ++ 10 ∷ []

abbrev pub text_of : List Line → List ℕ
text_of lines = flat_map line_text lines

abbrev pub text_of_load : (seed count : ℕ) → List ℕ
text_of_load seed count = text_of (load_of seed count)
