-- Behind bytes that decide, nothing changes what a schedule leads to.
use Rattle.std.proofs.Common.{◌≡◌, ◌⊎◌, ℕ, ◌+◌, ◌<◌, ◌≤◌, List, [], ◌∷◌, ◌++◌, length, Bool, true, false, Result, Ok, Err}
use Rattle.std.proofs.Common.{inl, inr, refl, sym, ap, subst, ◌∙◌, arith, cond, append-nil, add-zero}
use Rattle.std.specs.Prelude.{◌==◌, ◌||◌, nat_lt, nat_le, is_err}
use Rattle.std.proofs.lemmas.Grind.{common_steps}
use Rattle.basil_types.specs.Steps.{◌>>=◌}
use Rattle.schedule_replay.specs.Lines.{later_reason}
use Rattle.schedule_replay.specs.Outcomes.{outcome_on}
use Rattle.schedule_replay.specs.Reports.{report}
use Rattle.schedule_replay.specs.Stages.{Stage, Begins, Opens, Runs, ended, read_line, run_lines, stage_step}
use Rattle.report_lines.specs.declared.fault.ReplayFault.{ReplayFault}
use Rattle.report_lines.specs.declared.fault.ReplayFault.TheVariants.{BadInput}
use Rattle.line_fields.specs.Limits.{longest_line}
use Rattle.schedule_text.specs.Reading.{is_skipped, line_at}
use Rattle.line_fields.specs.TextLines.{but_empty_last, lines_of}
use Rattle.schedule_text.specs.declared.line.LineFault.TheVariants.{BadLine}
use Rattle.line_fields.specs.declared.reason.Reason.{Reason}
use Rattle.line_fields.specs.declared.reason.Reason.TheVariants.{NoHeader, OutOfSize}
use Rattle.command_input.proofs.Stopping.{NotYet}
use Rattle.schedule_commands.specs.TextLines.{ended_lines, has_newline, is_settled, open_line, pieces_of}
use Rattle.schedule_commands.proofs.LineEnds.{begun, grown, open_whole, pieces_ended, pieces_more, pieces_whole}
use Rattle.schedule_replay.specs.Roads.{Road}

-- ---- lines, one after another

Rests : List (List ℕ) → ℕ → Result Stage ReplayFault → Result Stage ReplayFault
Rests lines number r = r >>= run_lines lines number

pub run_append : (xs ys : List (List ℕ)) (number : ℕ) (stage : Stage) →
    run_lines (xs ++ ys) number stage ≡ (run_lines xs number stage >>= run_lines ys (number + length xs))
run_append [] ys number stage = sym (ap (λ (n : ℕ). run_lines ys n stage) (add-zero number))
run_append (x ∷ xs) ys number stage = by (stage_step stage x number) (λ t. run_append xs ys (number + 1) t)
  where
    by : (r : Result Stage ReplayFault) →
        ((t : Stage) → run_lines (xs ++ ys) (number + 1) t ≡ (run_lines xs (number + 1) t >>= run_lines ys (number + 1 + length xs))) →
        (r >>= run_lines (xs ++ ys) (number + 1)) ≡ ((r >>= run_lines xs (number + 1)) >>= run_lines ys (number + length (x ∷ xs)))
    by (Ok t) rest =
        let same : number + 1 + length xs ≡ number + length (x ∷ xs) = omega arith in
        rest t ∙ ap (λ (n : ℕ). run_lines xs (number + 1) t >>= run_lines ys n) same
    by (Err e) rest = refl

-- ---- lines that are too long

lt-yes : (m n : ℕ) → m < n → nat_lt m n ≡ true
lt-yes m n h = grind (arith, common_steps)

lt-of : (m n : ℕ) → nat_lt m n ≡ true → m < n
lt-of m n e = grind (arith, common_steps)

le-no : (m n : ℕ) → n < m → nat_le m n ≡ false
le-no m n h = grind (arith, common_steps)

too_long : (line : List ℕ) (number : ℕ) → longest_line < length line → line_at line number ≡ Err (BadLine number OutOfSize)
unfolding line_at
too_long line number h = rw (lt-yes longest_line (length line) h) refl

later-long : (line : List ℕ) → longest_line < length line → later_reason line OutOfSize ≡ OutOfSize
later-long line h = rw (le-no (length line) longest_line h) refl

-- why such a line is refused: whether it is skipped shows in its first byte
long_fault : Stage → (skipped : Bool) → ℕ → ReplayFault
long_fault (Begins road) skipped number = BadInput number (cond skipped OutOfSize NoHeader)
long_fault stage skipped number = BadInput number OutOfSize

step_long : (stage : Stage) (line : List ℕ) (number : ℕ) → longest_line < length line →
    stage_step stage line number ≡ Err (long_fault stage (is_skipped line) number)
unfolding long_fault
step_long (Begins road) line number h = ap (read_line (Begins road) line number) (too_long line number h)
step_long (Opens o faulty road) line number h =
    ap (read_line (Opens o faulty road) line number) (too_long line number h)
    ∙ ap (λ (reason : Reason). Err (BadInput number reason)) (later-long line h)
step_long (Runs r) line number h =
    ap (read_line (Runs r) line number) (too_long line number h)
    ∙ ap (λ (reason : Reason). Err (BadInput number reason)) (later-long line h)

-- what lines lead to where one that is too long stands behind them
Refused : Result Stage ReplayFault → (skipped : Bool) → ℕ → Result Stage ReplayFault
Refused r skipped number = r >>= λ stage. Err (long_fault stage skipped number)

run_long : (road : Road) (xs : List (List ℕ)) (line : List ℕ) (ys : List (List ℕ)) → longest_line < length line →
    run_lines (xs ++ line ∷ ys) 1 (Begins road) ≡ Refused (run_lines xs 1 (Begins road)) (is_skipped line) (1 + length xs)
unfolding Refused
run_long road xs line ys h = run_append xs (line ∷ ys) 1 (Begins road) ∙ by (run_lines xs 1 (Begins road))
  where
    by : (r : Result Stage ReplayFault) →
        (r >>= run_lines (line ∷ ys) (1 + length xs)) ≡ (r >>= λ stage. Err (long_fault stage (is_skipped line) (1 + length xs)))
    by (Ok stage) =
        ap (λ (x : Result Stage ReplayFault). x >>= run_lines ys (1 + length xs + 1)) (step_long stage line (1 + length xs) h)
    by (Err e) = refl

refused_err : (r : Result Stage ReplayFault) (skipped : Bool) (number : ℕ) → is_err (Refused r skipped number) ≡ true
unfolding Refused
refused_err (Ok stage) skipped number = refl
refused_err (Err e) skipped number = refl

pub no_long : (road : Road) (xs : List (List ℕ)) (line : List ℕ) (stage : Stage) → longest_line < length line →
    run_lines (xs ++ line ∷ []) 1 (Begins road) ≡ Ok stage → ⊥
no_long road xs line stage h e =
    let err : is_err (run_lines (xs ++ line ∷ []) 1 (Begins road)) ≡ true =
    ap is_err (run_long road xs line [] h) ∙ refused_err (run_lines xs 1 (Begins road)) (is_skipped line) (1 + length xs) in
    let ok : is_err (run_lines (xs ++ line ∷ []) 1 (Begins road)) ≡ false = ap is_err e in
    absurd cc

-- ---- the lines of a whole schedule

by_last : (es : List (List ℕ)) (p : List ℕ) (ps : List (List ℕ)) → but_empty_last (es ++ p ∷ ps) ≡ es ++ but_empty_last (p ∷ ps)
by_last [] p ps = refl
by_last (e ∷ []) p ps = refl
by_last (e ∷ f ∷ es) p ps = ap (λ (ls : List (List ℕ)). e ∷ ls) (by_last (f ∷ es) p ps)

pub lines_more : (read more : List ℕ) → lines_of (read ++ more) ≡ ended_lines read ++ lines_of (open_line read ++ more)
lines_more read more =
    let b = begun (open_line read) more (open_whole read) in
    ap but_empty_last (pieces_more read more ∙ ap (λ (ps : List (List ℕ)). ended_lines read ++ ps) b.is)
    ∙ by_last (ended_lines read) (open_line read ++ b.more) b.others
    ∙ ap (λ (ps : List (List ℕ)). ended_lines read ++ but_empty_last ps) (sym b.is)

not-empty : (w more : List ℕ) → 0 < length w → (length (w ++ more) == 0) ≡ false
not-empty w more some = grind (arith, common_steps)

-- the first line begins with the open one
record First (w xs : List ℕ) : Type 0 where
  more : List ℕ
  others : List (List ℕ)
  is : lines_of (w ++ xs) ≡ (w ++ more) ∷ others

first_line : (w xs : List ℕ) → has_newline w ≡ false → 0 < length w → First w xs
first_line w xs h some = let b = begun w xs h in by b.more b.others b.is
  where
    by : (more : List ℕ) (others : List (List ℕ)) → pieces_of (w ++ xs) ≡ (w ++ more) ∷ others → First w xs
    by more [] e = record {
      more = more;
      others = [];
      is = ap but_empty_last e ∙ ap (λ (b : Bool). cond b [] ((w ++ more) ∷ [])) (not-empty w more some);
    }
    by more (p ∷ ps) e = record { more = more; others = but_empty_last (p ∷ ps); is = ap but_empty_last e }

one_ended : (w : List ℕ) → has_newline w ≡ false → lines_of (w ++ 10 ∷ []) ≡ w ∷ []
one_ended w h = ap but_empty_last (pieces_ended w h)

one_open : (w : List ℕ) → has_newline w ≡ false → 0 < length w → lines_of w ≡ w ∷ []
one_open w h some =
    ap but_empty_last (pieces_whole w h)
    ∙ ap (λ (v : List ℕ). cond (length v == 0) [] (w ∷ [])) (sym (append-nil w))
    ∙ ap (λ (b : Bool). cond b [] (w ∷ [])) (not-empty w [] some)

-- the lines of bytes that end with a newline
pub whole_line : (read : List ℕ) → open_line read ≡ [] → lines_of read ≡ ended_lines read
whole_line read o =
    ap lines_of (sym (append-nil read)) ∙ lines_more read []
    ∙ ap (λ (w : List ℕ). ended_lines read ++ lines_of (w ++ [])) o
    ∙ append-nil (ended_lines read)

-- behind an open line a newline changes nothing
pub one_line : (read : List ℕ) → 0 < length (open_line read) → lines_of (read ++ 10 ∷ []) ≡ lines_of read
one_line read some =
    lines_more read (10 ∷ [])
    ∙ ap (λ (ls : List (List ℕ)). ended_lines read ++ ls)
    (one_ended (open_line read) (open_whole read) ∙ sym (one_open (open_line read) (open_whole read) some)
    ∙ ap lines_of (sym (append-nil (open_line read))))
    ∙ sym (ap lines_of (sym (append-nil read)) ∙ lines_more read [])

-- ---- outcomes

Outcome_of : Result Stage ReplayFault → Result (List ℕ) ReplayFault
Outcome_of r = (r >>= ended) >>= λ r. Ok (report r)

-- a line that ended and led to a fault decides
pub faulty_outcome : (road : Road) (read more : List ℕ) (f : ReplayFault) → run_lines (ended_lines read) 1 (Begins road) ≡ Err f →
    outcome_on road (read ++ more) ≡ Err f
unfolding Outcome_of
faulty_outcome road read more f h =
    let others = lines_of (open_line read ++ more) in
    ap (λ (lines : List (List ℕ)). Outcome_of (run_lines lines 1 (Begins road))) (lines_more read more)
    ∙ ap Outcome_of (run_append (ended_lines read) others 1 (Begins road))
    ∙ ap (λ (r : Result Stage ReplayFault). Outcome_of (r >>= run_lines others (1 + length (ended_lines read)))) h

skipped_alike : (w more : List ℕ) → 0 < length w → is_skipped (w ++ more) ≡ is_skipped w
skipped_alike [] more some = absurd (omega (arith, some))
skipped_alike (b ∷ w) more some = refl

-- so does an open line that is too long
pub long_outcome : (road : Road) (read more : List ℕ) →
    longest_line < length (open_line read) → outcome_on road (read ++ more) ≡ outcome_on road (read ++ 10 ∷ [])
unfolding Outcome_of
long_outcome road read more h =
    let w = open_line read in
    let some : 0 < length (open_line read) = omega arith in
    let f = first_line (open_line read) more (open_whole read) some in
    let longer : longest_line < length (open_line read ++ f.more) = grind (arith, common_steps) in
    let here : lines_of (read ++ more) ≡ ended_lines read ++ (open_line read ++ f.more) ∷ f.others =
    lines_more read more ∙ ap (λ (ls : List (List ℕ)). ended_lines read ++ ls) f.is in
    let there : lines_of (read ++ 10 ∷ []) ≡ ended_lines read ++ open_line read ∷ [] =
    lines_more read (10 ∷ []) ∙ ap (λ (ls : List (List ℕ)). ended_lines read ++ ls) (one_ended (open_line read) (open_whole read)) in
    let number = 1 + length (ended_lines read) in
    let one : run_lines (lines_of (read ++ more)) 1 (Begins road)
    ≡ Refused (run_lines (ended_lines read) 1 (Begins road)) (is_skipped (open_line read ++ f.more)) number =
    ap (λ (ls : List (List ℕ)). run_lines ls 1 (Begins road)) here
    ∙ run_long road (ended_lines read) (open_line read ++ f.more) f.others longer in
    let two : run_lines (lines_of (read ++ 10 ∷ [])) 1 (Begins road)
    ≡ Refused (run_lines (ended_lines read) 1 (Begins road)) (is_skipped (open_line read)) number =
    ap (λ (ls : List (List ℕ)). run_lines ls 1 (Begins road)) there ∙ run_long road (ended_lines read) (open_line read) [] h in
    ap Outcome_of one
    ∙ ap (λ (b : Bool). Outcome_of (Refused (run_lines (ended_lines read) 1 (Begins road)) b number))
    (skipped_alike (open_line read) f.more some)
    ∙ sym (ap Outcome_of two)

-- ---- bytes that decide

or_left : (a b : Bool) → a ≡ true → (a || b) ≡ true
or_left a b e = ap (λ (x : Bool). x || b) e

or_right : (a b : Bool) → b ≡ true → (a || b) ≡ true
or_right true b e = refl
or_right false b e = e

or_either : (a b : Bool) → (a || b) ≡ true → (a ≡ true) ⊎ (b ≡ true)
or_either true b e = inl refl
or_either false b e = inr e

settled_err : (road : Road) (read : List ℕ) → is_err (run_lines (ended_lines read) 1 (Begins road)) ≡ true → is_settled road read ≡ true
settled_err road read h = or_left (is_err (run_lines (ended_lines read) 1 (Begins road))) (nat_lt longest_line (length (open_line read))) h

pub settled_fault : (road : Road) (read : List ℕ) (f : ReplayFault) →
    run_lines (ended_lines read) 1 (Begins road) ≡ Err f → is_settled road read ≡ true
settled_fault road read f h = settled_err road read (ap is_err h)

pub settled_long : (road : Road) (read : List ℕ) → longest_line < length (open_line read) → is_settled road read ≡ true
settled_long road read h =
    or_right (is_err (run_lines (ended_lines read) 1 (Begins road))) (nat_lt longest_line (length (open_line read)))
    (lt-yes longest_line (length (open_line read)) h)

still_err : (r : Result Stage ReplayFault) (f : Stage → Result Stage ReplayFault) → is_err r ≡ true → is_err (r >>= f) ≡ true
still_err (Ok stage) f h = absurd cc
still_err (Err e) f h = refl

goes_err : (road : Road) (read : List ℕ) (lines : List (List ℕ)) (more : List ℕ) → ended_lines (read ++ more) ≡ ended_lines read ++ lines →
    is_err (run_lines (ended_lines read) 1 (Begins road)) ≡ true → is_err (run_lines (ended_lines (read ++ more)) 1 (Begins road)) ≡ true
goes_err road read lines more e h =
    ap (λ (ls : List (List ℕ)). is_err (run_lines ls 1 (Begins road))) e
    ∙ ap is_err (run_append (ended_lines read) lines 1 (Begins road))
    ∙ still_err (run_lines (ended_lines read) 1 (Begins road)) (run_lines lines (1 + length (ended_lines read))) h

-- what decides does so whatever follows
pub settled_more : (road : Road) (read more : List ℕ) → is_settled road read ≡ true → is_settled road (read ++ more) ≡ true
settled_more road read more h =
    let g = grown read more in
    by g.some g.others g.is
    (or_either (is_err (run_lines (ended_lines read) 1 (Begins road))) (nat_lt longest_line (length (open_line read))) h)
  where
    by : (some : List ℕ) (others : List (List ℕ)) →
        ((ended_lines (read ++ more) ≡ ended_lines read) × (open_line (read ++ more) ≡ open_line read ++ some))
        ⊎ (ended_lines (read ++ more) ≡ ended_lines read ++ (open_line read ++ some) ∷ others) →
        (is_err (run_lines (ended_lines read) 1 (Begins road)) ≡ true) ⊎ (nat_lt longest_line (length (open_line read)) ≡ true) →
        is_settled road (read ++ more) ≡ true
    by some others (inl same) (inl err) =
        settled_err road (read ++ more) (ap (λ (ls : List (List ℕ)). is_err (run_lines ls 1 (Begins road))) same.0 ∙ err)
    by some others (inl same) (inr long) =
        let l : longest_line < length (open_line read) = lt-of longest_line (length (open_line read)) long in
        let longer : longest_line < length (open_line read ++ some) = grind (arith, common_steps) in
        settled_long road (read ++ more) (subst (λ (line : List ℕ). longest_line < length line) (sym same.1) longer)
    by some others (inr e) (inl err) =
        settled_err road (read ++ more) (goes_err road read ((open_line read ++ some) ∷ others) more e err)
    by some others (inr e) (inr long) =
        let l : longest_line < length (open_line read) = lt-of longest_line (length (open_line read)) long in
        let longer : longest_line < length (open_line read ++ some) = grind (arith, common_steps) in
        settled_err road (read ++ more)
        (ap (λ (ls : List (List ℕ)). is_err (run_lines ls 1 (Begins road))) e
        ∙ ap is_err (run_long road (ended_lines read) (open_line read ++ some) others longer)
        ∙ refused_err (run_lines (ended_lines read) 1 (Begins road)) (is_skipped (open_line read ++ some)) (1 + length (ended_lines read)))

pub unsettled : (road : Road) (read : List ℕ) (stage : Stage) → run_lines (ended_lines read) 1 (Begins road) ≡ Ok stage →
    length (open_line read) ≤ longest_line → is_settled road read ≡ false
unsettled road read stage e l =
    let short : nat_lt longest_line (length (open_line read)) ≡ false = grind (arith, common_steps) in
    ap (λ (r : Result Stage ReplayFault). is_err r || nat_lt longest_line (length (open_line read))) e ∙ short

-- bytes that don't decide have no front that does
pub not_settled : (road : Road) (read : List ℕ) → is_settled road read ≡ false → NotYet (is_settled road) read
not_settled road read e decided more is h =
    let all : is_settled road read ≡ true = ap (is_settled road) is ∙ settled_more road decided more h in
    absurd cc
