-- Where the lines of bytes end.
use Rattle.std.proofs.Common.{◌≡◌, ◌⊎◌, ℕ, ◌+◌, ◌-◌, ◌<◌, List, [], ◌∷◌, ◌++◌, ◌||◌}
use Rattle.std.proofs.Common.{length, take, drop, get_or, Bool, true, false, Some, None}
use Rattle.std.proofs.Common.{inl, inr, refl, sym, ap, ◌∙◌, arith, append_assoc, append-nil}
use Rattle.std.specs.Prelude.{◌==◌, position}
use Rattle.std.specs.List.{onto_first}
use Rattle.std.proofs.lemmas.Grind.{common_steps}
use Rattle.std.proofs.lemmas.List.Folds.{list_any-append, list_any_none}
use Rattle.std.proofs.lemmas.List.Quantifiers.{position-Some}
use Rattle.std.proofs.lemmas.List.Splits.{slice_split-cons_no, slice_split-cons_yes}
use Rattle.std.proofs.lemmas.List.Sums.{prefix_len_passes}
use Rattle.schedule_commands.specs.Behind.{IsCut}
use Rattle.schedule_commands.specs.TextLines.{ended_lines, has_newline, open_line, pieces_of}

-- ---- the pieces of bytes, and of what begins with them

-- bytes are cut into lines that ended and an open one
record Cut (bytes : List ℕ) : Type 0 where
  ended : List (List ℕ)
  last : List ℕ
  is : pieces_of bytes ≡ ended ++ last ∷ []
  whole : has_newline last ≡ false
  more : (others : List ℕ) → pieces_of (bytes ++ others) ≡ ended ++ pieces_of (last ++ others)

cut_ended : (b : ℕ) (bs : List ℕ) → (b == 10) ≡ true → Cut bs → Cut (b ∷ bs)
cut_ended b bs e c = record {
  ended = [] ∷ c.ended;
  last = c.last;
  is = slice_split-cons_yes (λ b. b == 10) b bs e ∙ ap (λ (ps : List (List ℕ)). [] ∷ ps) c.is;
  whole = c.whole;
  more = λ others.
      slice_split-cons_yes (λ b. b == 10) b (bs ++ others) e ∙ ap (λ (ps : List (List ℕ)). [] ∷ ps) (c.more others);
}

cut_longer : (b : ℕ) (bs : List ℕ) → (b == 10) ≡ false → (ended : List (List ℕ)) (last : List ℕ) →
    pieces_of bs ≡ ended ++ last ∷ [] → has_newline last ≡ false →
    ((others : List ℕ) → pieces_of (bs ++ others) ≡ ended ++ pieces_of (last ++ others)) → Cut (b ∷ bs)
cut_longer b bs e [] last is whole more = record {
  ended = [];
  last = b ∷ last;
  is = slice_split-cons_no (λ b. b == 10) b bs e ∙ ap (onto_first b) is;
  whole = ap (λ (x : Bool). x || has_newline last) e ∙ whole;
  more = λ others.
      slice_split-cons_no (λ b. b == 10) b (bs ++ others) e ∙ ap (onto_first b) (more others)
      ∙ sym (slice_split-cons_no (λ b. b == 10) b (last ++ others) e);
}
cut_longer b bs e (p ∷ ps) last is whole more = record {
  ended = (b ∷ p) ∷ ps;
  last = last;
  is = slice_split-cons_no (λ b. b == 10) b bs e ∙ ap (onto_first b) is;
  whole = whole;
  more = λ others. slice_split-cons_no (λ b. b == 10) b (bs ++ others) e ∙ ap (onto_first b) (more others);
}

cut : (bytes : List ℕ) → Cut bytes
cut [] = record { ended = []; last = []; is = refl; whole = refl; more = λ others. refl }
cut (b ∷ bs) = by (b == 10) refl (cut bs)
  where
    by : (x : Bool) → (b == 10) ≡ x → Cut bs → Cut (b ∷ bs)
    by true e c = cut_ended b bs e c
    by false e c = cut_longer b bs e c.ended c.last c.is c.whole c.more

but_last : (ps : List (List ℕ)) (p : List ℕ) → take (length (ps ++ p ∷ []) - 1) (ps ++ p ∷ []) ≡ ps
but_last ps p = grind (arith, common_steps)

last_of : (ps : List (List ℕ)) (p : List ℕ) → get_or (ps ++ p ∷ []) (length (ps ++ p ∷ []) - 1) [] ≡ p
last_of ps p = grind (arith, common_steps)

-- whatever pieces stand before the last, they are the lines that ended
ended_are : (bytes : List ℕ) (ps : List (List ℕ)) (p : List ℕ) → pieces_of bytes ≡ ps ++ p ∷ [] → ended_lines bytes ≡ ps
ended_are bytes ps p e = ap (λ (qs : List (List ℕ)). take (length qs - 1) qs) e ∙ but_last ps p

open_is : (bytes : List ℕ) (ps : List (List ℕ)) (p : List ℕ) → pieces_of bytes ≡ ps ++ p ∷ [] → open_line bytes ≡ p
open_is bytes ps p e = ap (λ (qs : List (List ℕ)). get_or qs (length qs - 1) []) e ∙ last_of ps p

pub split_is : (bytes : List ℕ) → pieces_of bytes ≡ ended_lines bytes ++ open_line bytes ∷ []
split_is bytes =
    let c = cut bytes in
    let e = ended_are bytes c.ended c.last c.is in
    let o = open_is bytes c.ended c.last c.is in
    c.is ∙ sym (ap (λ (ps : List (List ℕ)). ps ++ open_line bytes ∷ []) e ∙ ap (λ (p : List ℕ). c.ended ++ p ∷ []) o)

pub open_whole : (bytes : List ℕ) → has_newline (open_line bytes) ≡ false
open_whole bytes = let c = cut bytes in ap has_newline (open_is bytes c.ended c.last c.is) ∙ c.whole

pub pieces_more : (bytes more : List ℕ) → pieces_of (bytes ++ more) ≡ ended_lines bytes ++ pieces_of (open_line bytes ++ more)
pieces_more bytes more =
    let c = cut bytes in
    let e = ended_are bytes c.ended c.last c.is in
    let o = open_is bytes c.ended c.last c.is in
    c.more more
    ∙ sym (ap (λ (ps : List (List ℕ)). ps ++ pieces_of (open_line bytes ++ more)) e
    ∙ ap (λ (p : List ℕ). c.ended ++ pieces_of (p ++ more)) o)

more_are : (bytes more : List ℕ) → pieces_of (bytes ++ more)
    ≡ (ended_lines bytes ++ ended_lines (open_line bytes ++ more)) ++ open_line (open_line bytes ++ more) ∷ []
more_are bytes more =
    pieces_more bytes more ∙ ap (λ (ps : List (List ℕ)). ended_lines bytes ++ ps) (split_is (open_line bytes ++ more))
    ∙ sym (append_assoc (ended_lines bytes) (ended_lines (open_line bytes ++ more)) (open_line (open_line bytes ++ more) ∷ []))

-- behind bytes, the lines go on from the open one
ended_more : (bytes more : List ℕ) → ended_lines (bytes ++ more) ≡ ended_lines bytes ++ ended_lines (open_line bytes ++ more)
ended_more bytes more =
    ended_are (bytes ++ more) (ended_lines bytes ++ ended_lines (open_line bytes ++ more))
    (open_line (open_line bytes ++ more)) (more_are bytes more)

open_more : (bytes more : List ℕ) → open_line (bytes ++ more) ≡ open_line (open_line bytes ++ more)
open_more bytes more =
    open_is (bytes ++ more) (ended_lines bytes ++ ended_lines (open_line bytes ++ more))
    (open_line (open_line bytes ++ more)) (more_are bytes more)

-- ---- bytes without a newline

or_first : (a b : Bool) → (a || b) ≡ false → a ≡ false
or_first true b e = absurd cc
or_first false b e = refl

or_second : (a b : Bool) → (a || b) ≡ false → b ≡ false
or_second true b e = absurd cc
or_second false b e = e

whole_more : (xs ys : List ℕ) → has_newline xs ≡ false → has_newline ys ≡ false → has_newline (xs ++ ys) ≡ false
whole_more xs ys e f = list_any-append (λ b. b == 10) xs ys ∙ ap (λ (x : Bool). x || has_newline ys) e ∙ f

-- bytes before the first piece
onto : List ℕ → List (List ℕ) → List (List ℕ)
onto w [] = w ∷ []
onto w (p ∷ ps) = (w ++ p) ∷ ps

onto-first : (b : ℕ) (w : List ℕ) (ps : List (List ℕ)) → onto_first b (onto w ps) ≡ onto (b ∷ w) ps
unfolding onto
onto-first b w [] = refl
onto-first b w (p ∷ ps) = refl

onto-none : (es : List (List ℕ)) (o : List ℕ) → es ++ o ∷ [] ≡ onto [] (es ++ o ∷ [])
unfolding onto
onto-none [] o = refl
onto-none (e ∷ es) o = refl

pieces_onto : (w xs : List ℕ) → has_newline w ≡ false → pieces_of (w ++ xs) ≡ onto w (pieces_of xs)
pieces_onto [] xs h = split_is xs ∙ onto-none (ended_lines xs) (open_line xs) ∙ ap (onto []) (sym (split_is xs))
pieces_onto (b ∷ w) xs h =
    slice_split-cons_no (λ b. b == 10) b (w ++ xs) (or_first (b == 10) (has_newline w) h)
    ∙ ap (onto_first b) (pieces_onto w xs (or_second (b == 10) (has_newline w) h))
    ∙ onto-first b w (pieces_of xs)

-- the pieces of bytes that begin so: the first of them, and the others
pub record Begun (w xs : List ℕ) : Type 0 where
  pub more : List ℕ
  pub others : List (List ℕ)
  pub is : pieces_of (w ++ xs) ≡ (w ++ more) ∷ others

pub begun : (w xs : List ℕ) → has_newline w ≡ false → Begun w xs
unfolding onto
begun w xs h = by (ended_lines xs) (open_line xs) (split_is xs)
  where
    by : (es : List (List ℕ)) (o : List ℕ) → pieces_of xs ≡ es ++ o ∷ [] → Begun w xs
    by [] o e = record { more = o; others = []; is = pieces_onto w xs h ∙ ap (onto w) e }
    by (p ∷ ps) o e = record { more = p; others = ps ++ o ∷ []; is = pieces_onto w xs h ∙ ap (onto w) e }

pub pieces_whole : (w : List ℕ) → has_newline w ≡ false → pieces_of w ≡ w ∷ []
unfolding onto
pieces_whole w h =
    ap pieces_of (sym (append-nil w)) ∙ pieces_onto w [] h ∙ ap (λ (v : List ℕ). v ∷ []) (append-nil w)

none_ended : (w : List ℕ) → has_newline w ≡ false → ended_lines w ≡ []
none_ended w h = ended_are w [] w (pieces_whole w h)

all_open : (w : List ℕ) → has_newline w ≡ false → open_line w ≡ w
all_open w h = open_is w [] w (pieces_whole w h)

pub pieces_ended : (w : List ℕ) → has_newline w ≡ false → pieces_of (w ++ 10 ∷ []) ≡ (w ∷ []) ++ [] ∷ []
unfolding onto
pieces_ended w h = pieces_onto w (10 ∷ []) h ∙ ap (λ (v : List ℕ). v ∷ ([] ∷ [])) (append-nil w)

one_ended : (w : List ℕ) → has_newline w ≡ false → ended_lines (w ++ 10 ∷ []) ≡ w ∷ []
one_ended w h = ended_are (w ++ 10 ∷ []) (w ∷ []) [] (pieces_ended w h)

none_open : (w : List ℕ) → has_newline w ≡ false → open_line (w ++ 10 ∷ []) ≡ []
none_open w h = open_is (w ++ 10 ∷ []) (w ∷ []) [] (pieces_ended w h)

pub joined : (a b c : List ℕ) → a ++ (b ++ c) ≡ (a ++ b) ++ c
joined a b c = sym (append_assoc a b c)

-- ---- what more bytes do to lines

-- a line ends
pub ended_line : (read last : List ℕ) → has_newline last ≡ false →
    ended_lines (read ++ (last ++ 10 ∷ [])) ≡ ended_lines read ++ (open_line read ++ last) ∷ []
ended_line read last h =
    ended_more read (last ++ 10 ∷ [])
    ∙ ap (λ (bytes : List ℕ). ended_lines read ++ ended_lines bytes) (joined (open_line read) last (10 ∷ []))
    ∙ ap (λ (lines : List (List ℕ)). ended_lines read ++ lines)
    (one_ended (open_line read ++ last) (whole_more (open_line read) last (open_whole read) h))

pub fresh_line : (read last : List ℕ) → has_newline last ≡ false → open_line (read ++ (last ++ 10 ∷ [])) ≡ []
fresh_line read last h =
    open_more read (last ++ 10 ∷ [])
    ∙ ap open_line (joined (open_line read) last (10 ∷ []))
    ∙ none_open (open_line read ++ last) (whole_more (open_line read) last (open_whole read) h)

-- the open line grows
pub same_ended : (read piece : List ℕ) → has_newline piece ≡ false → ended_lines (read ++ piece) ≡ ended_lines read
same_ended read piece h =
    ended_more read piece
    ∙ ap (λ (lines : List (List ℕ)). ended_lines read ++ lines)
    (none_ended (open_line read ++ piece) (whole_more (open_line read) piece (open_whole read) h))
    ∙ append-nil (ended_lines read)

pub longer_line : (read piece : List ℕ) → has_newline piece ≡ false → open_line (read ++ piece) ≡ open_line read ++ piece
longer_line read piece h =
    open_more read piece ∙ all_open (open_line read ++ piece) (whole_more (open_line read) piece (open_whole read) h)

-- whatever follows, the open line grows, or ends longer
pub record Grown (read more : List ℕ) : Type 0 where
  pub some : List ℕ
  pub others : List (List ℕ)
  pub is :
      ((ended_lines (read ++ more) ≡ ended_lines read) × (open_line (read ++ more) ≡ open_line read ++ some))
      ⊎ (ended_lines (read ++ more) ≡ ended_lines read ++ (open_line read ++ some) ∷ others)

pub grown : (read more : List ℕ) → Grown read more
unfolding onto
grown read more = by (ended_lines more) (open_line more) (split_is more)
  where
    by : (es : List (List ℕ)) (o : List ℕ) → pieces_of more ≡ es ++ o ∷ [] → Grown read more
    by [] o e =
        let p : pieces_of (open_line read ++ more) ≡ [] ++ (open_line read ++ o) ∷ [] =
        pieces_onto (open_line read) more (open_whole read) ∙ ap (onto (open_line read)) e in
        record {
          some = o;
          others = [];
          is =
              inl (
                ended_more read more
                    ∙ ap (λ (lines : List (List ℕ)). ended_lines read ++ lines)
                    (ended_are (open_line read ++ more) [] (open_line read ++ o) p)
                    ∙ append-nil (ended_lines read),
                open_more read more ∙ open_is (open_line read ++ more) [] (open_line read ++ o) p,
              );
        }
    by (l ∷ ls) o e =
        let p : pieces_of (open_line read ++ more) ≡ ((open_line read ++ l) ∷ ls) ++ o ∷ [] =
        pieces_onto (open_line read) more (open_whole read) ∙ ap (onto (open_line read)) e in
        record {
          some = l;
          others = ls;
          is =
              inr
              (ended_more read more
              ∙ ap (λ (lines : List (List ℕ)). ended_lines read ++ lines)
              (ended_are (open_line read ++ more) ((open_line read ++ l) ∷ ls) o p));
        }

-- ---- the first newline

unmarked : (bytes : List ℕ) → position (λ b. b == 10) bytes ≡ None → (k d : ℕ) → k < length bytes → (get_or bytes k d == 10) ≡ false
unmarked bytes e k d h = grind (arith, common_steps, prefix_len_passes)

pub uncut : (bytes : List ℕ) → position (λ b. b == 10) bytes ≡ None → has_newline bytes ≡ false
uncut bytes e = list_any_none (λ b. b == 10) bytes (λ k d l. unmarked bytes e k d l)

is-newline : (b : ℕ) → (b == 10) ≡ true → b ≡ 10
is-newline b e = grind (arith, common_steps)

parted : (bytes : List ℕ) (at : ℕ) → at < length bytes → bytes ≡ take at bytes ++ get_or bytes at 0 ∷ drop (at + 1) bytes
parted bytes at h = grind (arith, common_steps)

before : (bytes : List ℕ) (at k d : ℕ) → at < length bytes → ((j : ℕ) → j < at → (get_or bytes j 0 == 10) ≡ false) →
    k < length (take at bytes) → (get_or (take at bytes) k d == 10) ≡ false
before bytes at k d l h m =
    let within : k < at = grind (arith, common_steps) in
    let same : get_or (take at bytes) k d ≡ get_or bytes k 0 = grind (arith, common_steps) in
    ap (λ (b : ℕ). b == 10) same ∙ h k within

cut_at : (bytes : List ℕ) (at : ℕ) → position (λ b. b == 10) bytes ≡ Some at → IsCut bytes (take at bytes) (drop (at + 1) bytes)
cut_at bytes at e =
    let h = position-Some (λ (b : ℕ). b == 10) bytes at 0 e in
    record {
      is = parted bytes at h.0 ∙ ap (λ (b : ℕ). take at bytes ++ b ∷ drop (at + 1) bytes) (is-newline (get_or bytes at 0) h.1);
      whole = list_any_none (λ b. b == 10) (take at bytes) (λ k d l. before bytes at k d h.0 h.2 l);
    }

pub cut_so : (bytes : List ℕ) (at : ℕ) (line rest : List ℕ) → position (λ b. b == 10) bytes ≡ Some at → line ≡ take at bytes →
    rest ≡ drop (at + 1) bytes → IsCut bytes line rest
cut_so bytes at line rest e l r =
    let c = cut_at bytes at e in
    record {
      is = c.is ∙ sym (ap (λ (x : List ℕ). x ++ 10 ∷ rest) l ∙ ap (λ (x : List ℕ). take at bytes ++ 10 ∷ x) r);
      whole = ap has_newline l ∙ c.whole;
    }
