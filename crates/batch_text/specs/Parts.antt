-- What a text led to.
use Rattle.std.specs.Prelude.{◌≡◌, ℕ, List, Result, Ok, Err, ⊤}
use Rattle.line_fields.specs.Refusals.{Refusal}
use Rattle.batch_text.specs.declared.reading.BatchTextFault.{BatchTextFault}
use Rattle.batch_text.specs.declared.reading.BatchTextFault.TheVariants.{BadLine, NoMemory}
use Rattle.batch_text.specs.declared.reading.Kept.{Kept}

-- the fault is the refused line, or want of memory
abbrev pub FaultOf : {A : Type 0} → BatchTextFault → Result A Refusal → Type 0
FaultOf (BadLine line reason) should = should ≡ Err (record { line = line; reason = reason })
FaultOf NoMemory should = ⊤

abbrev pub Ran : Result (Unit {0}) BatchTextFault → (new : List (List ℕ)) → Result (List (List ℕ)) Refusal → Type 0
Ran (Ok _) new should = should ≡ Ok new
Ran (Err fault) new should = FaultOf fault should

abbrev pub IsMessage : Result (List ℕ) BatchTextFault → Result (List ℕ) Refusal → Type 0
IsMessage (Ok message) should = should ≡ Ok message
IsMessage (Err fault) should = FaultOf fault should

abbrev pub IsBatch : Result (List (List ℕ)) BatchTextFault → Result (List (List ℕ)) Refusal → Type 0
IsBatch (Ok messages) should = should ≡ Ok messages
IsBatch (Err fault) should = FaultOf fault should

abbrev pub IsKept : Result Kept BatchTextFault → Result Kept Refusal → Type 0
IsKept (Ok kept) should = should ≡ Ok kept
IsKept (Err fault) should = FaultOf fault should
