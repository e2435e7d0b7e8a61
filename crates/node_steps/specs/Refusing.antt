-- The first refusal, in an order of tests.
use Rattle.std.specs.Prelude.{Bool, Option, Some, None, Result, Ok, Err, if◌then◌else◌}

-- a refusal that holds under this condition
abbrev pub when : {E : Type 0} → Bool → E → Option E
when condition refusal = if condition then Some refusal else None

-- a refusal that holds unless this does
abbrev pub needs : {E : Type 0} → Bool → E → Option E
needs condition refusal = if condition then None else Some refusal

-- the refusal, or what is done without one
abbrev pub unless : {A E : Type 0} → Option E → A → Result A E
unless (Some refusal) done = Err refusal
unless None done = Ok done

-- the refusal, or the answer, which may refuse for itself
abbrev pub unless_refused : {A E : Type 0} → Option E → Result A E → Result A E
unless_refused (Some refusal) answer = Err refusal
unless_refused None answer = answer
