-- Lines add messages.
use Rattle.std.proofs.Common.{◌≡◌, ℕ, ◌+◌, ◌≤◌, ◌<◌, List, [], ◌∷◌, length, Option, Some, None, Result, Ok, Err}
use Rattle.std.proofs.Common.{subst, arith}
use Rattle.std.proofs.lemmas.List.{length-append}
use Rattle.batch_sign.specs.Batches.{add_fault}
use Rattle.batch_sign.specs.declared.batch.BatchFault.{BatchFault}
use Rattle.line_fields.specs.Refusals.{Refusal, on_line}
use Rattle.line_fields.specs.Fields.{hex}
use Rattle.line_fields.specs.declared.complaint.Complaint.{Complaint}
use Rattle.line_fields.specs.declared.reason.Reason.{Reason}
use Rattle.batch_text.specs.Texts.{batch_on, go_on, taken, with_lines, with_message}

-- as many messages as those at least
abbrev pub Keeps : (messages : List (List ℕ)) → Result (List (List ℕ)) Refusal → Type 0
Keeps messages (Ok more) = length messages ≤ length more
Keeps messages (Err bad) = Unit {0}

-- one message more
abbrev pub Grows : (messages : List (List ℕ)) → Result (List (List ℕ)) Reason → Type 0
Grows messages (Ok more) = length messages < length more
Grows messages (Err reason) = Unit {0}

taken-grows : (messages : List (List ℕ)) (message : List ℕ) (fault : Option BatchFault) → Grows messages (taken messages message fault)
taken-grows messages message None = omega (arith, length-append messages (message ∷ []))
taken-grows messages message (Some fault) = tt

message-grows : (messages : List (List ℕ)) (bytes : Result (List ℕ) Complaint) → Grows messages (with_message messages bytes)
message-grows messages (Ok message) = taken-grows messages message (add_fault messages message)
message-grows messages (Err complaint) = tt

weaker : (a b : List (List ℕ)) (r : Result (List (List ℕ)) Refusal) → length a ≤ length b → Keeps b r → Keeps a r
weaker a b (Ok more) le h = omega arith
weaker a b (Err bad) le h = tt

pub lines-keep : (lines : List (List ℕ)) (number : ℕ) (messages : List (List ℕ)) → Keeps messages (with_lines lines number messages)
lines-keep [] number messages = omega arith
lines-keep (line ∷ lines) number messages =
    by (λ more. lines-keep lines (number + 1) more) (with_message messages (hex line)) (message-grows messages (hex line))
  where
    by : ((more : List (List ℕ)) → Keeps more (with_lines lines (number + 1) more)) →
        (r : Result (List (List ℕ)) Reason) → Grows messages r →
        Keeps messages (go_on (on_line number r) (λ more. with_lines lines (number + 1) more))
    by rest (Ok more) h = weaker messages more (with_lines lines (number + 1) more) (omega arith) (rest more)
    by rest (Err reason) h = tt

-- a line adds one
pub line-grows : (line : List ℕ) (lines : List (List ℕ)) (number : ℕ) (messages more : List (List ℕ)) →
    with_lines (line ∷ lines) number messages ≡ Ok more → length messages < length more
line-grows line lines number messages more e = by (with_message messages (hex line)) (message-grows messages (hex line)) e
  where
    by : (r : Result (List (List ℕ)) Reason) → Grows messages r →
        go_on (on_line number r) (λ ms. with_lines lines (number + 1) ms) ≡ Ok more → length messages < length more
    by (Ok some) h e =
        let kept : Keeps some (Ok more) = subst (Keeps some) e (lines-keep lines (number + 1) some) in
        omega arith
    by (Err reason) h e = absurd cc

pub batch-some : (lines : List (List ℕ)) (messages : List (List ℕ)) → batch_on lines ≡ Ok messages → 0 < length messages
batch-some [] messages e = absurd cc
batch-some (line ∷ lines) messages e = line-grows line lines 1 [] messages e
