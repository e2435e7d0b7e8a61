-- The lines of a load's text are the spellings of its lines.
use Rattle.std.proofs.Common.{◌≡◌, ℕ, suc, ◌==◌, List, [], ◌∷◌, ◌++◌, Bool, true, false}
use Rattle.std.proofs.Common.{not, map, get_or, refl, ap, ◌∙◌, arith, append_assoc}
use Rattle.std.proofs.lemmas.List.Splits.{slice_split_at}
use Rattle.std.proofs.lemmas.List.Sums.{AllPass-from_list_all}
use Rattle.std.specs.List.{All, list_all, slice_split}
use Rattle.schedule_text.specs.declared.line.Line.{Line}
use Rattle.schedule_text.specs.Spelling.{spelling}
use Rattle.line_fields.specs.TextLines.{but_empty_last}
use Rattle.load_maker.specs.Laws.{TextHasItsLines}
use Rattle.load_maker.specs.Loads.{load_of, text_of}
use Rattle.load_maker.proofs.FitLaws.{IsGood, load-good}
use Rattle.load_maker.proofs.TokenLaws.{is_inside}

abbrev ends : ℕ → Bool
ends b = b == 10

not-true : (b : Bool) → not b ≡ true → b ≡ false
not-true true h = cc
not-true false h = refl

no-end : (text : List ℕ) → list_all is_inside text ≡ true → All (λ b. ends b ≡ false) text
no-end text h = λ k d l. not-true (ends (get_or text k d)) (AllPass-from_list_all is_inside text h k d l)

-- cut at newlines, it gives each spelling, and nothing behind the last newline
cut : (lines : List Line) → All IsGood lines → slice_split ends (text_of lines) ≡ map spelling lines ++ [] ∷ []
cut [] h = refl
cut (line ∷ lines) h =
    let inside : list_all is_inside (spelling line) ≡ true = (h 0 line (omega arith)).inside in
    ap (slice_split ends) (append_assoc (spelling line) (10 ∷ []) (text_of lines))
    ∙ slice_split_at ends (spelling line) 10 (text_of lines) (no-end (spelling line) inside) refl
    ∙ ap (λ t. spelling line ∷ t) (cut lines (λ k d l. h (suc k) d (omega arith)))

dropped : (pieces : List (List ℕ)) → but_empty_last (pieces ++ [] ∷ []) ≡ pieces
dropped [] = refl
dropped (p ∷ []) = refl
dropped (p ∷ q ∷ ps) = ap (λ t. p ∷ t) (dropped (q ∷ ps))

pub text-has-its-lines : TextHasItsLines
text-has-its-lines seed count h =
    ap but_empty_last (cut (load_of seed count) (load-good seed count h)) ∙ dropped (map spelling (load_of seed count))
