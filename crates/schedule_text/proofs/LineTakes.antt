-- What is read as a line's value is that value's spelling.
use Rattle.std.proofs.Common.{◌≡◌, ◌≤◌, inl, inr, arith, ℕ, ◌==◌, List, [], ◌∷◌, Bool, true, false, refl, sym}
use Rattle.std.proofs.Common.{ap, ◌∙◌, Result, Ok, Err, Option, Some, None, codes, length, subst, if◌then◌else◌}
use Rattle.std.specs.Prelude.{bytes_eq, nat_le, nat_lt, ◌≢◌}
use Rattle.std.proofs.lemmas.Grind.{common_steps}
use Rattle.std.specs.List.{join_with_byte}
use Rattle.std.proofs.lemmas.List.Splits.{join_with_byte-slice_split}
use Rattle.line_fields.specs.declared.complaint.Complaint.{Complaint}
use Rattle.line_fields.specs.declared.complaint.Complaint.TheVariants.{OutOfSize}
use Rattle.schedule_text.specs.declared.line.Line.{Line}
use Rattle.schedule_text.specs.declared.line.Line.TheVariants.{Skipped}
use Rattle.schedule_text.specs.declared.kinds.Kind.{Kind}
use Rattle.schedule_text.specs.declared.kinds.Kind.TheVariants as kind
use Rattle.line_fields.specs.Tokens.{Token, tokens}
use Rattle.schedule_text.specs.Kinds.{kind_of, message_kind_of}
use Rattle.line_fields.specs.Fields.{number}
use Rattle.schedule_text.specs.Lines.{line_of}
use Rattle.schedule_text.specs.Spelling.{spelling, line_tokens}
use Rattle.schedule_text.specs.declared.line.LineFault.{LineFault}
use Rattle.schedule_text.specs.declared.line.LineFault.TheVariants.{BadLine}
use Rattle.line_fields.specs.declared.reason.Reason.TheVariants as reasons
use Rattle.line_fields.specs.Limits.{longest_line, most_lines, numbered}
use Rattle.schedule_text.specs.Reading.{said, of_kind, is_skipped, line_value, line_at, answered}
use Rattle.schedule_text.specs.Fitting.{Says, GrammarIsRead, OneValue}
use Rattle.schedule_text.proofs.ResultTakes.{ok-is, some-is}
use Rattle.schedule_text.proofs.FieldTakes.{text-is, le-of}
use Rattle.schedule_text.proofs.FieldLaws.{le-yes}
use Rattle.schedule_text.proofs.LineLaws.{value-again, below-limit}
use Rattle.schedule_text.proofs.KindTakes.{Stands, faulty-takes, begin-takes, read-takes, write_of-takes, delete-takes}
use Rattle.schedule_text.proofs.KindTakes.{claim-takes, prepare-takes, settle-takes, recover-takes, invoke-takes, round-takes}
use Rattle.schedule_text.proofs.KindTakes.{deliver-takes, lose-takes, divert-takes, clock-takes, vote-takes, second-takes}
use Rattle.schedule_text.proofs.KindTakes.{logged-takes, elect-takes, decide-takes, raw-takes, show-takes, stop-takes}
use Rattle.schedule_text.proofs.HeaderTakes.{header-takes}

abbrev kind_token : Kind → Token
kind_token kind.Basil = codes "basil"
kind_token kind.Faulty = codes "faulty"
kind_token kind.Begin = codes "begin"
kind_token kind.Read = codes "read"
kind_token kind.Write = codes "write"
kind_token kind.Delete = codes "delete"
kind_token kind.Claim = codes "claim"
kind_token kind.Prepare = codes "prepare"
kind_token kind.Settle = codes "settle"
kind_token kind.Recover = codes "recover"
kind_token kind.Invoke = codes "invoke"
kind_token kind.Round = codes "round"
kind_token kind.Deliver = codes "deliver"
kind_token kind.Lose = codes "lose"
kind_token kind.Divert = codes "divert"
kind_token kind.Clock = codes "clock"
kind_token kind.Vote = codes "vote"
kind_token kind.Second = codes "second"
kind_token kind.Logged = codes "logged"
kind_token kind.Elect = codes "elect"
kind_token kind.Decide = codes "decide"
kind_token kind.Raw = codes "raw"
kind_token kind.Show = codes "show"
kind_token kind.Stop = codes "stop"

if-kind : (w token : Token) (k' : Kind) (other : Option Kind) (k : Kind) →
    token ≡ kind_token k' → (other ≡ Some k → w ≡ kind_token k) → (if bytes_eq w token then Some k' else other) ≡ Some k → w ≡ kind_token k
if-kind w token k' other k e next h = tested (bytes_eq w token) refl h
  where
    tested : (b : Bool) → bytes_eq w token ≡ b → (if b then Some k' else other) ≡ Some k → w ≡ kind_token k
    tested true i h = text-is w token i ∙ e ∙ ap kind_token (some-is k' k h)
    tested false i h = next h

message_kind-takes : (w : Token) (k : Kind) → message_kind_of w ≡ Some k → w ≡ kind_token k
unfolding message_kind_of
message_kind-takes w k h = if-kind w (codes "round") kind.Round _ k refl
    (λ h. if-kind w (codes "deliver") kind.Deliver _ k refl
    (λ h. if-kind w (codes "lose") kind.Lose _ k refl
    (λ h. if-kind w (codes "divert") kind.Divert _ k refl
    (λ h. if-kind w (codes "clock") kind.Clock _ k refl
    (λ h. if-kind w (codes "vote") kind.Vote _ k refl
    (λ h. if-kind w (codes "second") kind.Second _ k refl
    (λ h. if-kind w (codes "logged") kind.Logged _ k refl
    (λ h. if-kind w (codes "elect") kind.Elect _ k refl
    (λ h. if-kind w (codes "decide") kind.Decide _ k refl
    (λ h. if-kind w (codes "raw") kind.Raw _ k refl
    (λ h. if-kind w (codes "show") kind.Show _ k refl
    (λ h. if-kind w (codes "stop") kind.Stop _ k refl
    (λ h. cc h) h) h) h) h) h) h) h) h) h) h) h) h) h

kind-takes : (w : Token) (k : Kind) → kind_of w ≡ Some k → w ≡ kind_token k
unfolding kind_of
kind-takes w k h = if-kind w (codes "basil") kind.Basil _ k refl
    (λ h. if-kind w (codes "faulty") kind.Faulty _ k refl
    (λ h. if-kind w (codes "begin") kind.Begin _ k refl
    (λ h. if-kind w (codes "read") kind.Read _ k refl
    (λ h. if-kind w (codes "write") kind.Write _ k refl
    (λ h. if-kind w (codes "delete") kind.Delete _ k refl
    (λ h. if-kind w (codes "claim") kind.Claim _ k refl
    (λ h. if-kind w (codes "prepare") kind.Prepare _ k refl
    (λ h. if-kind w (codes "settle") kind.Settle _ k refl
    (λ h. if-kind w (codes "recover") kind.Recover _ k refl
    (λ h. if-kind w (codes "invoke") kind.Invoke _ k refl
    (λ h. message_kind-takes w k h) h) h) h) h) h) h) h) h) h) h) h

line-takes : (k : Kind) (ws : List Token) (v : Line) → line_of k ws ≡ Ok v → Stands (kind_token k ∷ ws) v
unfolding line_of
line-takes kind.Basil ws v h = header-takes ws v h
line-takes kind.Faulty ws v h = faulty-takes ws v h
line-takes kind.Begin ws v h = begin-takes ws v h
line-takes kind.Read ws v h = read-takes ws v h
line-takes kind.Write ws v h = write_of-takes ws v h
line-takes kind.Delete ws v h = delete-takes ws v h
line-takes kind.Claim ws v h = claim-takes ws v h
line-takes kind.Prepare ws v h = prepare-takes ws v h
line-takes kind.Settle ws v h = settle-takes ws v h
line-takes kind.Recover ws v h = recover-takes ws v h
line-takes kind.Invoke ws v h = invoke-takes ws v h
line-takes kind.Round ws v h = round-takes ws v h
line-takes kind.Deliver ws v h = deliver-takes ws v h
line-takes kind.Lose ws v h = lose-takes ws v h
line-takes kind.Divert ws v h = divert-takes ws v h
line-takes kind.Clock ws v h = clock-takes ws v h
line-takes kind.Vote ws v h = vote-takes ws v h
line-takes kind.Second ws v h = second-takes ws v h
line-takes kind.Logged ws v h = logged-takes ws v h
line-takes kind.Elect ws v h = elect-takes ws v h
line-takes kind.Decide ws v h = decide-takes ws v h
line-takes kind.Raw ws v h = raw-takes ws v h
line-takes kind.Show ws v h = show-takes ws v h
line-takes kind.Stop ws v h = stop-takes ws v h

said-takes : (ws : List Token) (v : Line) → said ws ≡ Ok v → Stands ws v
unfolding said
said-takes [] v h = cc h
said-takes (first ∷ rest) v h = known (kind_of first) refl h
  where
    known : (o : Option Kind) → kind_of first ≡ o → of_kind o rest ≡ Ok v → Stands (first ∷ rest) v
    known None i h = cc h
    known (Some k) i h = subst (λ (z : Token). Stands (z ∷ rest) v) (sym (kind-takes first k i)) (line-takes k rest v h)

joined-again : (line : List ℕ) (v : Line) → Stands (tokens line) v → spelling v ≡ line
joined-again line v s = ap (λ (z : List Token). join_with_byte 32 z) s.0 ∙ join_with_byte-slice_split 32 line

-- what a line without a comment says
not-skipped : (b : ℕ) (line : List ℕ) (v : Line) → Stands (tokens (b ∷ line)) v → v ≢ Skipped
unfolding line_tokens
not-skipped b line v s e = cc (joined-again (b ∷ line) Skipped (subst (Stands (tokens (b ∷ line))) e s))

value-says : (line : List ℕ) (v : Line) → line_value line ≡ Ok v → Says line v
unfolding line_value
value-says [] v h = inl (sym (ok-is Skipped v h), refl)
value-says (b ∷ line) v h = tested (b == 35) refl h
  where
    tested : (q : Bool) → (b == 35) ≡ q → (if q then Ok Skipped else said (tokens (b ∷ line))) ≡ Ok v → Says (b ∷ line) v
    tested true i h = inl (sym (ok-is Skipped v h), i)
    tested false i h =
        let s = said-takes (tokens (b ∷ line)) v h in
        inr (not-skipped b line v s, s.1, joined-again (b ∷ line) v s)

skips : (line : List ℕ) → is_skipped line ≡ true → line_value line ≡ Ok Skipped
unfolding line_value
skips [] h = refl
skips (b ∷ line) h = rw h refl

says-value : (line : List ℕ) (v : Line) → Says line v → line_value line ≡ Ok v
says-value line v (inl s) = skips line s.1 ∙ ap (λ (z : Line). Ok z) (sym s.0)
says-value line v (inr s) = ap line_value (sym s.2) ∙ value-again v s.1

line-fault-is : (a b : Line) → ◌≡◌ {A = Result Line LineFault} (Ok a) (Ok b) → a ≡ b
line-fault-is a b h = cc

answered-takes : (number : ℕ) (r : Result Line Complaint) (v : Line) → answered number (numbered number r) ≡ Ok v
    → (r ≡ Ok v) × (number ≤ most_lines)
answered-takes number (Err c) v h = cc h
answered-takes number (Ok x) v h = tested (nat_le number most_lines) refl h
  where
    tested : (q : Bool) → nat_le number most_lines ≡ q → answered number (if q then Ok x else Err OutOfSize) ≡ Ok v
        → (◌≡◌ {A = Result Line Complaint} (Ok x) (Ok v)) × (number ≤ most_lines)
    tested true i h = (ap (λ (z : Line). Ok z) (line-fault-is x v h), le-of number most_lines i)
    tested false i h = cc h

within-limit : (line : List ℕ) → nat_lt longest_line (length line) ≡ false → length line ≤ longest_line
within-limit line h = grind (arith, common_steps)

read-says : (line : List ℕ) (number : ℕ) (v : Line) → line_at line number ≡ Ok v
    → Says line v × (length line ≤ longest_line) × (number ≤ most_lines)
unfolding line_at
read-says line number v h = tested (nat_lt longest_line (length line)) refl h
  where
    tested : (q : Bool) → nat_lt longest_line (length line) ≡ q
        → (if q then Err (BadLine number reasons.OutOfSize) else answered number (numbered number (line_value line))) ≡ Ok v
        → Says line v × (length line ≤ longest_line) × (number ≤ most_lines)
    tested true i h = cc h
    tested false i h =
        let a = answered-takes number (line_value line) v h in
        (value-says line v a.0, within-limit line i, a.1)

says-read : (line : List ℕ) (number : ℕ) (v : Line) → Says line v → length line ≤ longest_line → number ≤ most_lines
    → line_at line number ≡ Ok v
unfolding line_at
says-read line number v s long late = rw (below-limit line long, says-value line v s, le-yes number most_lines late) refl

pub grammar-is-read : GrammarIsRead
grammar-is-read line number v = (read-says line number v, λ h. says-read line number v h.0 h.1 h.2)

pub one-value : OneValue
one-value line a b sa sb = ok-is a b (sym (says-value line a sa) ∙ says-value line b sb)
