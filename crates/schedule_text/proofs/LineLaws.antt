-- The spelling of a line is read as that line.
use Rattle.std.proofs.Common.{◌≡◌, ℕ, ◌≤◌, List, [], ◌∷◌, ◌++◌, Bool, true, false, not, ◌==◌, refl, ap, ◌∙◌, arith, Ok, codes, length}
use Rattle.std.specs.Prelude.{nat_lt}
use Rattle.std.proofs.lemmas.Grind.{common_steps}
use Rattle.std.specs.List.{join_with_byte}
use Rattle.std.specs.Fmt.{decimal}
use Rattle.hex.specs.Hex.{encode_lower}
use Rattle.schedule_text.specs.declared.line.Line.{Line}
use Rattle.schedule_text.specs.declared.line.Line.TheVariants.{Header, Skipped, Faulty, Begin, Read, Write, Delete, Claim}
use Rattle.schedule_text.specs.declared.line.Line.TheVariants.{Prepare, Settle, Recover, Invoke, Round, Deliver, Lose, Divert}
use Rattle.schedule_text.specs.declared.line.Line.TheVariants.{Clock, Vote, Second, Logged, Elect, Decide, Raw, Show, Stop}
use Rattle.line_fields.specs.Tokens.{Token, tokens}
use Rattle.line_fields.specs.Limits.{longest_line, most_lines}
use Rattle.schedule_text.specs.Reading.{said, line_value, line_at}
use Rattle.schedule_text.specs.Spelling.{line_tokens, spelling, key_token, value_token, writer_token, party_tokens, decision_token}
use Rattle.schedule_text.specs.Fitting.{Fits, SpellingIsRead}
use Rattle.schedule_text.proofs.TokenLaws.{tokens-again, all_clean, not-true}
use Rattle.schedule_text.proofs.FieldLaws.{le-yes}
use Rattle.schedule_text.proofs.KindLaws.{said-begin, clean-begin, said-read, clean-read, said-write, clean-write, said-delete}
use Rattle.schedule_text.proofs.KindLaws.{clean-delete, said-claim, clean-claim, said-prepare, clean-prepare, said-settle}
use Rattle.schedule_text.proofs.KindLaws.{clean-settle, said-recover, clean-recover, said-invoke, clean-invoke, said-round}
use Rattle.schedule_text.proofs.KindLaws.{clean-round, said-deliver, clean-deliver, said-lose, clean-lose, said-clock, clean-clock}
use Rattle.schedule_text.proofs.KindLaws.{said-vote, clean-vote, said-second, clean-second, said-logged, clean-logged, said-elect}
use Rattle.schedule_text.proofs.KindLaws.{clean-elect, said-decide, clean-decide, said-show, clean-show, said-stop, clean-stop}
use Rattle.schedule_text.proofs.KindLaws.{said-faulty, clean-faulty, said-divert, clean-divert, said-raw, clean-raw}
use Rattle.schedule_text.proofs.HeaderLaws.{said-header, clean-header, header_rest}

-- the token is no comment's
abbrev begins : Token → Bool
begins [] = false
begins (b ∷ w) = not (b == 35)

pub no-comment : (b : ℕ) → not (b == 35) ≡ true → (b == 35) ≡ false
no-comment b h = not-true (b == 35) h

said-again : (first : Token) (rest : List Token) (v : Line) →
    all_clean (first ∷ rest) ≡ true → said (first ∷ rest) ≡ Ok v → said (tokens (join_with_byte 32 (first ∷ rest))) ≡ Ok v
said-again first rest v c s = ap said (tokens-again first rest c) ∙ s

cut-again : (first : Token) (rest : List Token) (v : Line) → begins first ≡ true →
    all_clean (first ∷ rest) ≡ true → said (first ∷ rest) ≡ Ok v → line_value (join_with_byte 32 (first ∷ rest)) ≡ Ok v
unfolding line_value
cut-again [] rest v b c s = cc
cut-again (x ∷ w) [] v b c s = rw (no-comment x b) (said-again (x ∷ w) [] v c s)
cut-again (x ∷ w) (r ∷ rest) v b c s = rw (no-comment x b) (said-again (x ∷ w) (r ∷ rest) v c s)

nothing : line_value [] ≡ Ok Skipped
unfolding line_value
nothing = refl

pub value-again : (v : Line) → Fits v → line_value (spelling v) ≡ Ok v
unfolding line_tokens
value-again Skipped h = nothing
value-again (Begin n c t) h =
    cut-again (codes "begin") (n ∷ decimal c ∷ decimal t ∷ []) (Begin n c t) refl (clean-begin n c t h) (said-begin n c t h)
value-again (Read n k) h = cut-again (codes "read") (n ∷ key_token k ∷ []) (Read n k) refl (clean-read n k h) (said-read n k h)
value-again (Write n k v) h =
    cut-again (codes "write") (n ∷ key_token k ∷ value_token v ∷ []) (Write n k v) refl (clean-write n k v h) (said-write n k v h)
value-again (Delete n k) h = cut-again (codes "delete") (n ∷ key_token k ∷ []) (Delete n k) refl (clean-delete n k h) (said-delete n k h)
value-again (Claim n k w) h =
    cut-again (codes "claim") (n ∷ key_token k ∷ writer_token w ∷ []) (Claim n k w) refl (clean-claim n k w h) (said-claim n k w h)
value-again (Prepare n) h = cut-again (codes "prepare") (n ∷ []) (Prepare n) refl (clean-prepare n h) (said-prepare n h)
value-again (Settle n c) h = cut-again (codes "settle") (n ∷ decimal c ∷ []) (Settle n c) refl (clean-settle n c h) (said-settle n c h)
value-again (Recover n c) h = cut-again (codes "recover") (n ∷ decimal c ∷ []) (Recover n c) refl (clean-recover n c h) (said-recover n c h)
value-again (Invoke n c) h = cut-again (codes "invoke") (n ∷ decimal c ∷ []) (Invoke n c) refl (clean-invoke n c h) (said-invoke n c h)
value-again Round h = cut-again (codes "round") [] Round refl clean-round said-round
value-again (Deliver i) h = cut-again (codes "deliver") (decimal i ∷ []) (Deliver i) refl (clean-deliver i h) (said-deliver i h)
value-again (Lose i) h = cut-again (codes "lose") (decimal i ∷ []) (Lose i) refl (clean-lose i h) (said-lose i h)
value-again (Clock s r t) h =
    cut-again (codes "clock") (decimal s ∷ decimal r ∷ decimal t ∷ []) (Clock s r t) refl (clean-clock s r t h) (said-clock s r t h)
value-again (Vote s r n d c) h = cut-again (codes "vote")
    (decimal s ∷ decimal r ∷ n ∷ decision_token d ∷ decimal c ∷ []) (Vote s r n d c) refl (clean-vote s r n d c h) (said-vote s r n d c h)
value-again (Second n d r) h =
    cut-again (codes "second") (n ∷ decision_token d ∷ decimal r ∷ []) (Second n d r) refl (clean-second n d r h) (said-second n d r h)
value-again (Logged s r n d v w c) h = cut-again (codes "logged") (decimal s ∷ decimal r ∷ n ∷ decision_token d
    ∷ decimal v ∷ decimal w ∷ decimal c ∷ []) (Logged s r n d v w c) refl (clean-logged s r n d v w c h) (said-logged s r n d v w c h)
value-again (Elect s r n d v) h = cut-again (codes "elect")
    (decimal s ∷ decimal r ∷ n ∷ decision_token d ∷ decimal v ∷ [])
    (Elect s r n d v) refl (clean-elect s r n d v h) (said-elect s r n d v h)
value-again (Decide s r n d v q) h = cut-again (codes "decide") (decimal s ∷ decimal r ∷ n ∷ decision_token d ∷ decimal v ∷ decimal q ∷ [])
    (Decide s r n d v q) refl (clean-decide s r n d v q h) (said-decide s r n d v q h)
value-again (Show f) h = cut-again (codes "show") (encode_lower f ∷ []) (Show f) refl (clean-show f h) (said-show f h)
value-again (Stop s r i w b) h = cut-again (codes "stop") (decimal s ∷ decimal r ∷ decimal i ∷ decimal w ∷ encode_lower b ∷ [])
    (Stop s r i w b) refl (clean-stop s r i w b h) (said-stop s r i w b h)
value-again (Faulty p) h = cut-again (codes "faulty") (party_tokens p) (Faulty p) refl (clean-faulty p h) (said-faulty p h)
value-again (Divert i p) h =
    cut-again (codes "divert") (decimal i ∷ party_tokens p) (Divert i p) refl (clean-divert i p h) (said-divert i p h)
value-again (Raw a b f) h =
    cut-again (codes "raw") (party_tokens a ++ party_tokens b ++ encode_lower f ∷ [])
    (Raw a b f) refl (clean-raw a b f h) (said-raw a b f h)
value-again (Header s c k j) h =
    cut-again (codes "basil") (header_rest s c k j) (Header s c k j) refl (clean-header s c k j h) (said-header s c k j h)

pub below-limit : (line : List ℕ) → length line ≤ longest_line → nat_lt longest_line (length line) ≡ false
below-limit line h = grind (arith, common_steps)

pub spelling-is-read : SpellingIsRead
unfolding line_at
spelling-is-read value number fits long late =
    rw (below-limit (spelling value) long, value-again value fits, le-yes number most_lines late) refl
