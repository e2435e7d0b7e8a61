-- A load grows line by line.
use Rattle.std.proofs.Common.{◌≡◌, ℕ, suc, zero, ◌+◌, ◌*◌, List, [], ◌∷◌, ◌++◌, map, ap, sym, ◌∙◌, arith, append-nil, append_assoc, add-one}
use Rattle.std.proofs.lemmas.Grind.{flat_map-append}
use Rattle.std.proofs.lemmas.List.{map-append, replicate-append-replicate}
use Rattle.std.specs.List.{flat_map, range_with_len}
use Rattle.rand_chacha.specs.ChaCha.{ChaCha}
use Rattle.schedule_text.specs.declared.line.Line.{Line}
use Rattle.schedule_text.specs.declared.line.Line.TheVariants.{Round}
use Rattle.load_maker.specs.declared.draws.Draw.{Draw}
use Rattle.load_maker.specs.Draws.{draw_from, draw_of, stream_at}
use Rattle.load_maker.specs.Loads.{header, line_text, text_of, text_of_load, rounds, one_to}
use Rattle.load_maker.specs.Loads.{transaction_lines, transactions, settle_line, settles}

-- the text of lines, and then of others
pub text-append : (a b : List Line) → text_of (a ++ b) ≡ text_of a ++ text_of b
text-append a b = flat_map-append line_text a b

text-more : (lines : List Line) (line : Line) → text_of (lines ++ line ∷ []) ≡ text_of lines ++ line_text line
text-more lines line = text-append lines (line ∷ []) ∙ ap (λ t. text_of lines ++ t) (append-nil (line_text line))

-- one round more
pub rounds-more : (n : ℕ) → text_of (rounds (n + 1)) ≡ text_of (rounds n) ++ line_text Round
rounds-more n = ap text_of (sym (replicate-append-replicate n 1 Round)) ∙ text-more (rounds n) Round

-- one number more
numbers-more : (a n : ℕ) → range_with_len a (suc n) ≡ range_with_len a n ++ (a + n) ∷ []
numbers-more a zero = ap (λ k. k ∷ []) (omega arith)
numbers-more a (suc n) = ap (λ t. a ∷ t) (numbers-more (a + 1) n ∙ ap (λ k. range_with_len (a + 1) n ++ k ∷ []) (omega arith))

one_to-more : (n : ℕ) → one_to (n + 1) ≡ one_to n ++ (n + 1) ∷ []
one_to-more n = ap one_to (add-one n) ∙ numbers-more 1 n ∙ ap (λ k. one_to n ++ k ∷ []) (omega arith)

-- the words of a transaction stand behind those of the transactions before it
drawn-next : (seed n : ℕ) → draw_of seed (n + 1) ≡ draw_from (stream_at seed (4 * n))
drawn-next seed n = ap (λ k. draw_from (stream_at seed (4 * k))) (omega arith)

-- one transaction more
pub transactions-more : (seed n : ℕ) →
    text_of (transactions seed (n + 1))
    ≡ text_of (transactions seed n) ++ text_of (transaction_lines (n + 1) (draw_from (stream_at seed (4 * n))))
transactions-more seed n =
    let f : ℕ → List Line = λ i. transaction_lines i (draw_of seed i) in
    let one : flat_map f ((n + 1) ∷ []) ≡ transaction_lines (n + 1) (draw_from (stream_at seed (4 * n))) =
    append-nil (f (n + 1)) ∙ ap (transaction_lines (n + 1)) (drawn-next seed n) in
    ap (λ t. text_of (flat_map f t)) (one_to-more n)
    ∙ ap text_of (flat_map-append f (one_to n) ((n + 1) ∷ []) ∙ ap (λ t. flat_map f (one_to n) ++ t) one)
    ∙ text-append (transactions seed n) (transaction_lines (n + 1) (draw_from (stream_at seed (4 * n))))

-- one settle more
pub settles-more : (seed n : ℕ) →
    text_of (settles seed (n + 1)) ≡ text_of (settles seed n) ++ line_text (settle_line (n + 1) (draw_from (stream_at seed (4 * n))).client)
settles-more seed n =
    let f : ℕ → Line = λ i. settle_line i (draw_of seed i).client in
    ap (λ t. text_of (map f t)) (one_to-more n)
    ∙ ap text_of (map-append f (one_to n) ((n + 1) ∷ []))
    ∙ text-more (settles seed n) (f (n + 1))
    ∙ ap (λ d. text_of (settles seed n) ++ line_text (settle_line (n + 1) d.client)) (drawn-next seed n)

parts-of : (line : Line) (a b c : List Line) → text_of (line ∷ a ++ b ++ c) ≡ line_text line ++ text_of a ++ text_of b ++ text_of c
parts-of line a b c = text-append (line ∷ a ++ b) c ∙ ap (λ t. t ++ text_of c) (text-append (line ∷ a) b)

-- the whole, part by part
pub load-parts : (seed count : ℕ) →
    text_of_load seed count ≡ line_text header ++ text_of (transactions seed count) ++ text_of (settles seed count) ++ text_of (rounds 4)
load-parts seed count = parts-of header (transactions seed count) (settles seed count) (rounds 4)

pub ruleset growing = (rounds-more)

pub ruleset parts = (load-parts)

-- ---- one more transaction is drawn and written

drawn-as : (seed n : ℕ) (stream : ChaCha) (draw : Draw) → stream ≡ stream_at seed (4 * n) → draw ≡ draw_from stream →
    draw ≡ draw_from (stream_at seed (4 * n))
drawn-as seed n stream draw at drawn = drawn ∙ ap draw_from at

pub text-grows : (seed n : ℕ) (stream : ChaCha) (draw : Draw) (front old new : List ℕ) →
    stream ≡ stream_at seed (4 * n) → draw ≡ draw_from stream → old ≡ front ++ text_of (transactions seed n) →
    new ≡ old ++ text_of (transaction_lines (n + 1) draw) → new ≡ front ++ text_of (transactions seed (n + 1))
text-grows seed n stream draw front old new at drawn was put =
    put
    ∙ ap (λ t. t ++ text_of (transaction_lines (n + 1) draw)) was
    ∙ append_assoc front (text_of (transactions seed n)) (text_of (transaction_lines (n + 1) draw))
    ∙ ap (λ d. front ++ (text_of (transactions seed n) ++ text_of (transaction_lines (n + 1) d))) (drawn-as seed n stream draw at drawn)
    ∙ ap (λ t. front ++ t) (sym (transactions-more seed n))

pub settles-grow : (seed n : ℕ) (stream : ChaCha) (draw : Draw) (old new : List ℕ) →
    stream ≡ stream_at seed (4 * n) → draw ≡ draw_from stream → old ≡ text_of (settles seed n) →
    new ≡ old ++ line_text (settle_line (n + 1) draw.client) → new ≡ text_of (settles seed (n + 1))
settles-grow seed n stream draw old new at drawn was put =
    put
    ∙ ap (λ t. t ++ line_text (settle_line (n + 1) draw.client)) was
    ∙ ap (λ d. text_of (settles seed n) ++ line_text (settle_line (n + 1) d.client)) (drawn-as seed n stream draw at drawn)
    ∙ sym (settles-more seed n)

pub stream-moves : (seed n : ℕ) (old new : ChaCha) →
    old ≡ stream_at seed (4 * n) → new ≡ record old { word_pos = old.word_pos + 4 } → new ≡ stream_at seed (4 * (n + 1))
stream-moves seed n old new at moved =
    let on : ChaCha → ChaCha = λ s. record s { word_pos = s.word_pos + 4 } in
    moved ∙ ap on at ∙ ap (stream_at seed) (omega arith)
