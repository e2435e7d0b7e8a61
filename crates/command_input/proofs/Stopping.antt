-- Fewer bytes than a piece are taken of a source beyond those that decide.
use Rattle.std.proofs.Common.{◌≡◌, ◌⊎◌, ℕ, ◌+◌, ◌<◌, ◌≤◌, List, [], ◌++◌, length, take, drop, Bool, true, false}
use Rattle.std.proofs.Common.{Option, Some, None, inl, inr, refl, sym, ap, ◌∙◌, arith}
use Rattle.std.specs.Prelude.{nat_lt, IfSome}
use Rattle.std.specs.Io.KnownBytes.{Consumes, IsAtEnd, Keeps}
use Rattle.std.proofs.Math.Seq.{take-append_seam}
use Rattle.std.proofs.lemmas.Grind.{common_steps}
use Rattle.std.proofs.lemmas.List.{append_cancel_right, length-append, length-take, take-append-drop, take-append-le}
use Rattle.command_ends.specs.Outcome.{longest_input, is_too_long}
use Rattle.command_input.specs.Reading.{IsReadThrough, StopsSoon, longest_piece}

-- no front of the bytes decides
abbrev pub NotYet : (List ℕ → Bool) → List ℕ → Type 0
NotYet enough before = (decided more : List ℕ) → before ≡ decided ++ more → enough decided ≡ true → ⊥

lt-of : (m n : ℕ) → nat_lt m n ≡ true → m < n
lt-of m n e = grind (arith, common_steps)

pub short : (all : List ℕ) → length all ≤ longest_input → NotYet is_too_long all
short all l decided more is h =
    let long : longest_input < length decided = lt-of longest_input (length decided) h in
    let whole : length all ≡ length decided + length more = ap length is ∙ length-append decided more in
    absurd (omega (arith, long, whole, l))

front : (decided beyond before piece : List ℕ) → before ++ piece ≡ decided ++ beyond → length decided ≤ length before
    → before ≡ decided ++ drop (length decided) before
front decided beyond before piece e l =
    sym (take-append-drop (length decided) before)
    ∙ ap (λ z. z ++ drop (length decided) before)
    (sym (take-append-le (length decided) before piece l) ∙ ap (take (length decided)) e ∙ take-append_seam decided beyond)

either : (m n : ℕ) → (m ≤ n) ⊎ (n < m)
either m n = by (nat_lt n m) refl
  where
    by : (less : Bool) → nat_lt n m ≡ less → (m ≤ n) ⊎ (n < m)
    by true e = inr (lt-of n m e)
    by false e = inl (grind (arith, common_steps))

soon : (enough : List ℕ → Bool) (before piece decided beyond : List ℕ) → NotYet enough before → length piece ≤ longest_piece
    → before ++ piece ≡ decided ++ beyond → enough decided ≡ true → length beyond < longest_piece
soon enough before piece decided beyond not_yet fits e h = by (either (length decided) (length before))
  where
    by : (length decided ≤ length before) ⊎ (length before < length decided) → length beyond < longest_piece
    by (inl within) = absurd (not_yet decided (drop (length decided) before) (front decided beyond before piece e within) h)
    by (inr past) =
        let sizes : length before + length piece ≡ length decided + length beyond =
        sym (length-append before piece) ∙ ap length e ∙ length-append decided beyond in
        omega (arith, past, sizes, fits)

-- behind bytes of which no front decides, one more piece was taken
stops_soon : (enough : List ℕ → Bool) (old mid new : Option (List ℕ)) (before piece : List ℕ) → NotYet enough before
    → length piece ≤ longest_piece → Consumes old mid before → Consumes mid new piece
    → IfSome old (λ bytes. StopsSoon enough bytes new)
stops_soon enough None mid new before piece not_yet fits a b = tt
stops_soon enough (Some bytes) None new before piece not_yet fits a b = absurd a
stops_soon enough (Some bytes) (Some ys) None before piece not_yet fits a b = absurd b
stops_soon enough (Some bytes) (Some ys) (Some zs) before piece not_yet fits a b = record {
  soon = λ decided beyond rest e left h.
      let same : zs ≡ rest = cc in
      let all : (before ++ piece) ++ zs ≡ (decided ++ beyond) ++ zs = grind (arith, common_steps, a, b, e, same) in
      soon enough before piece decided beyond not_yet fits (append_cancel_right (before ++ piece) (decided ++ beyond) zs all) h;
}

-- the same where the piece stands in a buffer
pub stops_behind : (enough : List ℕ → Bool) (old mid new : Option (List ℕ)) (before buf : List ℕ) (count : ℕ) → NotYet enough before
    → length buf ≤ longest_piece → Consumes old mid before → Consumes mid new (take count buf)
    → IfSome old (λ bytes. StopsSoon enough bytes new)
stops_behind enough old mid new before buf count not_yet fits a b =
    let within : length (take count buf) ≤ longest_piece = omega (arith, fits, length-take count buf) in
    stops_soon enough old mid new before (take count buf) not_yet within a b

kept : (mid new : Option (List ℕ)) → Keeps mid new → Consumes mid new []
kept None new k = tt
kept (Some xs) None k = absurd k
kept (Some xs) (Some ys) k = sym k

keeps : (known : Option (List ℕ)) → Keeps known known
keeps None = tt
keeps (Some xs) = refl

pub nothing_read : (known : Option (List ℕ)) → Consumes known known []
nothing_read known = kept known known (keeps known)

-- or a read failed
pub stops_failed : (enough : List ℕ → Bool) (old mid new : Option (List ℕ)) (before : List ℕ) → NotYet enough before
    → Consumes old mid before → Keeps mid new → IfSome old (λ bytes. StopsSoon enough bytes new)
stops_failed enough old mid new before not_yet a k = stops_soon enough old mid new before [] not_yet (omega arith) a (kept mid new k)

-- or nothing more was read
pub stops_there : (enough : List ℕ → Bool) (old new : Option (List ℕ)) (before : List ℕ) → NotYet enough before
    → Consumes old new before → IfSome old (λ bytes. StopsSoon enough bytes new)
stops_there enough old new before not_yet a = stops_failed enough old new new before not_yet a (keeps new)

-- nothing was taken
pub untaken : (enough : List ℕ → Bool) (left : Option (List ℕ)) → IfSome left (λ bytes. StopsSoon enough bytes left)
untaken enough None = tt
untaken enough (Some bytes) = record {
  soon = λ decided beyond rest e left h.
      let same : bytes ≡ rest = cc in
      let sizes : length bytes ≡ (length decided + length beyond) + length rest =
      ap length e ∙ length-append (decided ++ beyond) rest ∙ ap (λ n. n + length rest) (length-append decided beyond) in
      omega (arith, sizes, ap length same);
}

-- ---- how far was read

pub consumes-more : (old mid new : Option (List ℕ)) (all piece more : List ℕ) → more ≡ all ++ piece → Consumes old mid all →
    Consumes mid new piece → Consumes old new more
consumes-more None mid new all piece more e a b = tt
consumes-more (Some xs) None new all piece more e a b = absurd a
consumes-more (Some xs) (Some ys) None all piece more e a b = absurd b
consumes-more (Some xs) (Some ys) (Some zs) all piece more e a b = grind (arith, common_steps, e, a, b)

-- enough of the bytes were read
pub enough_through : (enough : List ℕ → Bool) (old new : Option (List ℕ)) (read : List ℕ) → Consumes old new read →
    enough read ≡ true → IfSome old (λ bytes. IsReadThrough enough bytes new)
enough_through enough None new read c e = tt
enough_through enough (Some bytes) None read c e = absurd c
enough_through enough (Some bytes) (Some rest) read c e =
    record { read = read; is = record { rest = rest; is = c; left_is = refl; far = inr e } }

-- or all of them
pub all_through : (enough : List ℕ → Bool) (old new : Option (List ℕ)) (read : List ℕ) → Consumes old new read → IsAtEnd new →
    IfSome old (λ bytes. IsReadThrough enough bytes new)
all_through enough None new read c e = tt
all_through enough (Some bytes) None read c e = absurd c
all_through enough (Some bytes) (Some rest) read c e =
    record { read = read; is = record { rest = rest; is = c; left_is = refl; far = inl e } }

pub too-long : (read : List ℕ) → longest_input < length read → is_too_long read ≡ true
too-long read h = grind (arith, common_steps)
