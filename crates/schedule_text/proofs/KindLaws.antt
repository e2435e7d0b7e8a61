-- What the spelling of a line is read as, kind by kind.
use Rattle.std.proofs.Common.{◌≡◌, ℕ, ◌<◌, ◌≤◌, ◌^◌, List, [], ◌∷◌, ◌++◌, true, refl, arith, Ok, Option, Some, None, codes, append_assoc}
use Rattle.std.specs.Fmt.{decimal}
use Rattle.std.proofs.lemmas.List.Folds.{list_all-append}
use Rattle.hex.specs.Hex.{encode_lower}
use Rattle.basil_types.specs.declared.party.Party.{Party}
use Rattle.basil_types.specs.declared.party.Decision.{Decision}
use Rattle.basil_types.specs.declared.party.Decision.TheVariants.{Commit, Abort}
use Rattle.schedule_text.specs.declared.line.Line.TheVariants.{Faulty, Begin, Read, Write, Delete, Claim, Prepare}
use Rattle.schedule_text.specs.declared.line.Line.TheVariants.{Settle, Recover, Invoke, Round, Deliver, Lose, Divert}
use Rattle.schedule_text.specs.declared.line.Line.TheVariants.{Clock, Vote, Second, Logged, Elect, Decide, Raw, Show, Stop}
use Rattle.line_fields.specs.Tokens.{one_of, two_of, three_of, four_of, five_of, six_of, seven_of}
use Rattle.line_fields.specs.Complaints.{all3, all4, all5}
use Rattle.schedule_text.specs.Kinds.{kind_of, message_kind_of}
use Rattle.schedule_text.specs.Lines.{line_of, begin, read, write_of, delete, claim, prepare, call, settle, recover, invoke, round}
use Rattle.schedule_text.specs.Lines.{deliver, lose, divert, faulty, clock, vote, second, logged, elect, decide, raw, show, stop}
use Rattle.schedule_text.specs.Reading.{said}
use Rattle.schedule_text.specs.Spelling.{key_token, value_token, writer_token, party_tokens, decision_token}
use Rattle.schedule_text.specs.Fitting.{Fits, IsWriter, IsClient}
use Rattle.schedule_text.proofs.TokenLaws.{all_clean, clean, clean-decimal}
use Rattle.schedule_text.proofs.FieldLaws.{number-again, number_in-again, client-again, replica-again, place-again}
use Rattle.schedule_text.proofs.FieldLaws.{view-again, views-again, name-again, name-clean, writer-again, decision-again}
use Rattle.schedule_text.proofs.EscapeLaws.{text-again, value-again, key-clean, value-clean, hex-again, hex-clean, frame-again}
use Rattle.schedule_text.proofs.PartyLaws.{party-again, only_party-again, party-clean}

client-small : (n : ℕ) → IsClient n → n < 2 ^ 64
client-small n h = omega arith

replica-small : (n : ℕ) → n ≤ 30 → n < 2 ^ 64
replica-small n h = omega arith

shard-small : (n : ℕ) → n ≤ 7 → n < 2 ^ 64
shard-small n h = omega arith

write-small : (w : ℕ) → w ≤ 2 → w < 2 ^ 64
write-small w h = omega arith

decision-clean : (d : Decision) → clean (decision_token d) ≡ true
decision-clean Commit = refl
decision-clean Abort = refl

writer-clean : (w : Option (List ℕ)) → IsWriter w → clean (writer_token w) ≡ true
writer-clean None h = refl
writer-clean (Some w) h = name-clean w h

pub said-begin : (n : List ℕ) (c : ℕ) (t : ℕ) →
    Fits (Begin n c t) → said (codes "begin" ∷ n ∷ decimal c ∷ decimal t ∷ []) ≡ Ok (Begin n c t)
unfolding said kind_of message_kind_of line_of begin all3 three_of two_of one_of
said-begin n c t h = rw (name-again n h.0, client-again c h.1, number-again t h.2) refl

pub clean-begin : (n : List ℕ) (c : ℕ) (t : ℕ) → Fits (Begin n c t) → all_clean (codes "begin" ∷ n ∷ decimal c ∷ decimal t ∷ []) ≡ true
clean-begin n c t h = rw (name-clean n h.0, clean-decimal c (client-small c h.1), clean-decimal t h.2) refl

pub said-read : (n : List ℕ) (k : List ℕ) → Fits (Read n k) → said (codes "read" ∷ n ∷ key_token k ∷ []) ≡ Ok (Read n k)
unfolding said kind_of message_kind_of line_of read two_of one_of
said-read n k h = rw (name-again n h.0, text-again 64 k h.1) refl

pub clean-read : (n : List ℕ) (k : List ℕ) → Fits (Read n k) → all_clean (codes "read" ∷ n ∷ key_token k ∷ []) ≡ true
clean-read n k h = rw (name-clean n h.0, key-clean k h.1.2) refl

pub said-write : (n : List ℕ) (k : List ℕ) (v : List ℕ) →
    Fits (Write n k v) → said (codes "write" ∷ n ∷ key_token k ∷ value_token v ∷ []) ≡ Ok (Write n k v)
unfolding said kind_of message_kind_of line_of write_of all3 three_of two_of one_of
said-write n k v h = rw (name-again n h.0, text-again 64 k h.1, value-again v h.2) refl

pub clean-write : (n : List ℕ) (k : List ℕ) (v : List ℕ) →
    Fits (Write n k v) → all_clean (codes "write" ∷ n ∷ key_token k ∷ value_token v ∷ []) ≡ true
clean-write n k v h = rw (name-clean n h.0, key-clean k h.1.2, value-clean v h.2.2) refl

pub said-delete : (n : List ℕ) (k : List ℕ) → Fits (Delete n k) → said (codes "delete" ∷ n ∷ key_token k ∷ []) ≡ Ok (Delete n k)
unfolding said kind_of message_kind_of line_of delete two_of one_of
said-delete n k h = rw (name-again n h.0, text-again 64 k h.1) refl

pub clean-delete : (n : List ℕ) (k : List ℕ) → Fits (Delete n k) → all_clean (codes "delete" ∷ n ∷ key_token k ∷ []) ≡ true
clean-delete n k h = rw (name-clean n h.0, key-clean k h.1.2) refl

pub said-claim : (n : List ℕ) (k : List ℕ) (w : Option (List ℕ)) →
    Fits (Claim n k w) → said (codes "claim" ∷ n ∷ key_token k ∷ writer_token w ∷ []) ≡ Ok (Claim n k w)
unfolding said kind_of message_kind_of line_of claim all3 three_of two_of one_of
said-claim n k w h = rw (name-again n h.0, text-again 64 k h.1, writer-again w h.2) refl

pub clean-claim : (n : List ℕ) (k : List ℕ) (w : Option (List ℕ)) →
    Fits (Claim n k w) → all_clean (codes "claim" ∷ n ∷ key_token k ∷ writer_token w ∷ []) ≡ true
clean-claim n k w h = rw (name-clean n h.0, key-clean k h.1.2, writer-clean w h.2) refl

pub said-prepare : (n : List ℕ) → Fits (Prepare n) → said (codes "prepare" ∷ n ∷ []) ≡ Ok (Prepare n)
unfolding said kind_of message_kind_of line_of prepare one_of
said-prepare n h = rw (name-again n h) refl

pub clean-prepare : (n : List ℕ) → Fits (Prepare n) → all_clean (codes "prepare" ∷ n ∷ []) ≡ true
clean-prepare n h = rw (name-clean n h) refl

pub said-settle : (n : List ℕ) (c : ℕ) → Fits (Settle n c) → said (codes "settle" ∷ n ∷ decimal c ∷ []) ≡ Ok (Settle n c)
unfolding said kind_of message_kind_of line_of settle call two_of one_of
said-settle n c h = rw (name-again n h.0, client-again c h.1) refl

pub clean-settle : (n : List ℕ) (c : ℕ) → Fits (Settle n c) → all_clean (codes "settle" ∷ n ∷ decimal c ∷ []) ≡ true
clean-settle n c h = rw (name-clean n h.0, clean-decimal c (client-small c h.1)) refl

pub said-recover : (n : List ℕ) (c : ℕ) → Fits (Recover n c) → said (codes "recover" ∷ n ∷ decimal c ∷ []) ≡ Ok (Recover n c)
unfolding said kind_of message_kind_of line_of recover call two_of one_of
said-recover n c h = rw (name-again n h.0, client-again c h.1) refl

pub clean-recover : (n : List ℕ) (c : ℕ) → Fits (Recover n c) → all_clean (codes "recover" ∷ n ∷ decimal c ∷ []) ≡ true
clean-recover n c h = rw (name-clean n h.0, clean-decimal c (client-small c h.1)) refl

pub said-invoke : (n : List ℕ) (c : ℕ) → Fits (Invoke n c) → said (codes "invoke" ∷ n ∷ decimal c ∷ []) ≡ Ok (Invoke n c)
unfolding said kind_of message_kind_of line_of invoke call two_of one_of
said-invoke n c h = rw (name-again n h.0, client-again c h.1) refl

pub clean-invoke : (n : List ℕ) (c : ℕ) → Fits (Invoke n c) → all_clean (codes "invoke" ∷ n ∷ decimal c ∷ []) ≡ true
clean-invoke n c h = rw (name-clean n h.0, clean-decimal c (client-small c h.1)) refl

pub said-round : said (codes "round" ∷ []) ≡ Ok Round
unfolding said kind_of message_kind_of line_of round
said-round = refl

pub clean-round : all_clean (codes "round" ∷ []) ≡ true
clean-round = refl

pub said-deliver : (i : ℕ) → Fits (Deliver i) → said (codes "deliver" ∷ decimal i ∷ []) ≡ Ok (Deliver i)
unfolding said kind_of message_kind_of line_of deliver one_of
said-deliver i h = rw (number-again i h) refl

pub clean-deliver : (i : ℕ) → Fits (Deliver i) → all_clean (codes "deliver" ∷ decimal i ∷ []) ≡ true
clean-deliver i h = rw (clean-decimal i h) refl

pub said-lose : (i : ℕ) → Fits (Lose i) → said (codes "lose" ∷ decimal i ∷ []) ≡ Ok (Lose i)
unfolding said kind_of message_kind_of line_of lose one_of
said-lose i h = rw (number-again i h) refl

pub clean-lose : (i : ℕ) → Fits (Lose i) → all_clean (codes "lose" ∷ decimal i ∷ []) ≡ true
clean-lose i h = rw (clean-decimal i h) refl

pub said-clock : (s : ℕ) (r : ℕ) (t : ℕ) →
    Fits (Clock s r t) → said (codes "clock" ∷ decimal s ∷ decimal r ∷ decimal t ∷ []) ≡ Ok (Clock s r t)
unfolding said kind_of message_kind_of line_of clock three_of two_of one_of
said-clock s r t h = rw (place-again s r h.0, number-again t h.1) refl

pub clean-clock : (s : ℕ) (r : ℕ) (t : ℕ) → Fits (Clock s r t) → all_clean (codes "clock" ∷ decimal s ∷ decimal r ∷ decimal t ∷ []) ≡ true
clean-clock s r t h = rw (clean-decimal s (shard-small s h.0.0), clean-decimal r (replica-small r h.0.1), clean-decimal t h.1) refl

pub said-vote : (s : ℕ) (r : ℕ) (n : List ℕ) (d : Decision) (c : ℕ) →
    Fits (Vote s r n d c) → said (codes "vote" ∷ decimal s ∷ decimal r ∷ n ∷ decision_token d ∷ decimal c ∷ []) ≡ Ok (Vote s r n d c)
unfolding said kind_of message_kind_of line_of vote all4 all3 five_of four_of three_of two_of one_of
said-vote s r n d c h = rw (place-again s r h.0, name-again n h.1, decision-again d, client-again c h.2) refl

pub clean-vote : (s : ℕ) (r : ℕ) (n : List ℕ) (d : Decision) (c : ℕ) →
    Fits (Vote s r n d c) → all_clean (codes "vote" ∷ decimal s ∷ decimal r ∷ n ∷ decision_token d ∷ decimal c ∷ []) ≡ true
clean-vote s r n d c h = rw (
  clean-decimal s (shard-small s h.0.0),
  clean-decimal r (replica-small r h.0.1),
  name-clean n h.1,
  decision-clean d,
  clean-decimal c (client-small c h.2),
) refl

pub said-second : (n : List ℕ) (d : Decision) (r : ℕ) →
    Fits (Second n d r) → said (codes "second" ∷ n ∷ decision_token d ∷ decimal r ∷ []) ≡ Ok (Second n d r)
unfolding said kind_of message_kind_of line_of second all3 three_of two_of one_of
said-second n d r h = rw (name-again n h.0, decision-again d, replica-again r h.1) refl

pub clean-second : (n : List ℕ) (d : Decision) (r : ℕ) →
    Fits (Second n d r) → all_clean (codes "second" ∷ n ∷ decision_token d ∷ decimal r ∷ []) ≡ true
clean-second n d r h = rw (name-clean n h.0, decision-clean d, clean-decimal r (replica-small r h.1)) refl

pub said-logged : (s : ℕ) (r : ℕ) (n : List ℕ) (d : Decision) (v : ℕ) (w : ℕ) (c : ℕ) → Fits (Logged s r n d v w c) →
    said (codes "logged" ∷ decimal s ∷ decimal r ∷ n ∷ decision_token d ∷ decimal v ∷ decimal w ∷ decimal c ∷ [])
    ≡ Ok (Logged s r n d v w c)
unfolding said kind_of message_kind_of line_of logged all5 all4 all3 seven_of six_of five_of four_of three_of two_of one_of
said-logged s r n d v w c h = rw (place-again s r h.0, name-again n h.1, decision-again d, views-again v w h.2 h.3, client-again c h.4) refl

pub clean-logged : (s : ℕ) (r : ℕ) (n : List ℕ) (d : Decision) (v : ℕ) (w : ℕ) (c : ℕ) → Fits (Logged s r n d v w c) →
    all_clean (codes "logged" ∷ decimal s ∷ decimal r ∷ n ∷ decision_token d ∷ decimal v ∷ decimal w ∷ decimal c ∷ []) ≡ true
clean-logged s r n d v w c h =
    rw (
      clean-decimal s (shard-small s h.0.0),
      clean-decimal r (replica-small r h.0.1),
      name-clean n h.1,
      decision-clean d,
      clean-decimal v
          (let a : v ≤ w = h.2 in let b : w < 2 ^ 64 = h.3 in omega arith),
      clean-decimal w h.3,
      clean-decimal c (client-small c h.4),
    ) refl

pub said-elect : (s : ℕ) (r : ℕ) (n : List ℕ) (d : Decision) (v : ℕ) →
    Fits (Elect s r n d v) → said (codes "elect" ∷ decimal s ∷ decimal r ∷ n ∷ decision_token d ∷ decimal v ∷ []) ≡ Ok (Elect s r n d v)
unfolding said kind_of message_kind_of line_of elect all4 all3 five_of four_of three_of two_of one_of
said-elect s r n d v h = rw (place-again s r h.0, name-again n h.1, decision-again d, view-again v h.2 h.3) refl

pub clean-elect : (s : ℕ) (r : ℕ) (n : List ℕ) (d : Decision) (v : ℕ) →
    Fits (Elect s r n d v) → all_clean (codes "elect" ∷ decimal s ∷ decimal r ∷ n ∷ decision_token d ∷ decimal v ∷ []) ≡ true
clean-elect s r n d v h = rw (
  clean-decimal s (shard-small s h.0.0),
  clean-decimal r (replica-small r h.0.1),
  name-clean n h.1,
  decision-clean d,
  clean-decimal v h.3,
) refl

pub said-decide : (s : ℕ) (r : ℕ) (n : List ℕ) (d : Decision) (v : ℕ) (q : ℕ) → Fits (Decide s r n d v q) →
    said (codes "decide" ∷ decimal s ∷ decimal r ∷ n ∷ decision_token d ∷ decimal v ∷ decimal q ∷ []) ≡ Ok (Decide s r n d v q)
unfolding said kind_of message_kind_of line_of decide all5 all4 all3 six_of five_of four_of three_of two_of one_of
said-decide s r n d v q h = rw (place-again s r h.0, name-again n h.1, decision-again d, view-again v h.2 h.3, replica-again q h.4) refl

pub clean-decide : (s : ℕ) (r : ℕ) (n : List ℕ) (d : Decision) (v : ℕ) (q : ℕ) →
    Fits (Decide s r n d v q) → all_clean
    (codes "decide" ∷ decimal s ∷ decimal r ∷ n ∷ decision_token d ∷ decimal v ∷ decimal q ∷ []) ≡ true
clean-decide s r n d v q h = rw (
  clean-decimal s (shard-small s h.0.0),
  clean-decimal r (replica-small r h.0.1),
  name-clean n h.1,
  decision-clean d,
  clean-decimal v h.3,
  clean-decimal q (replica-small q h.4),
) refl

pub said-show : (f : List ℕ) → Fits (Show f) → said (codes "show" ∷ encode_lower f ∷ []) ≡ Ok (Show f)
unfolding said kind_of message_kind_of line_of show one_of
said-show f h = rw (frame-again f h) refl

pub clean-show : (f : List ℕ) → Fits (Show f) → all_clean (codes "show" ∷ encode_lower f ∷ []) ≡ true
clean-show f h = rw (hex-clean f h.2) refl

pub said-stop : (s : ℕ) (r : ℕ) (i : ℕ) (w : ℕ) (b : List ℕ) →
    Fits (Stop s r i w b) → said (codes "stop" ∷ decimal s ∷ decimal r ∷ decimal i ∷ decimal w ∷ encode_lower b ∷ []) ≡ Ok (Stop s r i w b)
unfolding said kind_of message_kind_of line_of stop all4 all3 five_of four_of three_of two_of one_of
said-stop s r i w b h =
    rw (place-again s r h.0, number-again i h.1, number_in-again 1 2 w h.2 h.3 (write-small w h.3), hex-again b h.4 h.5) refl

pub clean-stop : (s : ℕ) (r : ℕ) (i : ℕ) (w : ℕ) (b : List ℕ) →
    Fits (Stop s r i w b) → all_clean (codes "stop" ∷ decimal s ∷ decimal r ∷ decimal i ∷ decimal w ∷ encode_lower b ∷ []) ≡ true
clean-stop s r i w b h = rw (
  clean-decimal s (shard-small s h.0.0),
  clean-decimal r (replica-small r h.0.1),
  clean-decimal i h.1,
  clean-decimal w (write-small w h.3),
  hex-clean b h.5,
) refl

pub said-faulty : (p : Party) → Fits (Faulty p) → said (codes "faulty" ∷ party_tokens p) ≡ Ok (Faulty p)
unfolding said kind_of message_kind_of line_of faulty
said-faulty p h = rw (only_party-again p h) refl

pub clean-faulty : (p : Party) → Fits (Faulty p) → all_clean (codes "faulty" ∷ party_tokens p) ≡ true
clean-faulty p h = party-clean p h

pub said-divert : (i : ℕ) (p : Party) → Fits (Divert i p) → said (codes "divert" ∷ decimal i ∷ party_tokens p) ≡ Ok (Divert i p)
unfolding said kind_of message_kind_of line_of divert
said-divert i p h = rw (number-again i h.0, only_party-again p h.1) refl

pub clean-divert : (i : ℕ) (p : Party) → Fits (Divert i p) → all_clean (codes "divert" ∷ decimal i ∷ party_tokens p) ≡ true
clean-divert i p h = rw (clean-decimal i h.0, party-clean p h.1) refl

pub said-raw : (a b : Party) (f : List ℕ) →
    Fits (Raw a b f) → said (codes "raw" ∷ (party_tokens a ++ party_tokens b ++ encode_lower f ∷ [])) ≡ Ok (Raw a b f)
unfolding said kind_of message_kind_of line_of raw all3 one_of
said-raw a b f h =
    rw (
      append_assoc (party_tokens a) (party_tokens b) (encode_lower f ∷ []),
      party-again a (party_tokens b ++ encode_lower f ∷ []) h.0,
      party-again b (encode_lower f ∷ []) h.1,
      frame-again f h.2,
    ) refl

pub clean-raw : (a b : Party) (f : List ℕ) →
    Fits (Raw a b f) → all_clean (codes "raw" ∷ (party_tokens a ++ party_tokens b ++ encode_lower f ∷ [])) ≡ true
clean-raw a b f h =
    rw (
      list_all-append clean (party_tokens a ++ party_tokens b) (encode_lower f ∷ []),
      list_all-append clean (party_tokens a) (party_tokens b),
      party-clean a h.0,
      party-clean b h.1,
      hex-clean f h.2.2,
    ) refl
