-- What the parts of the code answer, beside the definitions.
use Rattle.std.specs.Prelude.{◌≡◌, ℕ, List, [], ◌∷◌, Result, Ok, Err, Vec, ⊤}
use Rattle.audit_text.specs.Listing.{Names, ListingValue}
use Rattle.audit_text.specs.declared.stop.Stop.{Stop}
use Rattle.audit_text.specs.declared.stop.Stop.TheVariants as stop
use Rattle.audit_text.specs.declared.stop.Failure.{Failure}
use Rattle.audit_text.specs.declared.stop.Failure.TheVariants as failure
use Rattle.audit_text.specs.declared.line.AuditLine.{AuditLine}
use Rattle.basil_types.specs.declared.version.Version.{Version}
use Rattle.line_fields.specs.Refusals.{Refusal}
use Rattle.line_fields.specs.declared.reason.Reason.{Reason}

-- what a line's value did, where this is what it should do
abbrev pub Did : Result (Unit {0}) Stop → ListingValue → Result ListingValue Reason → Type 0
Did (Ok _) new should = should ≡ Ok new
Did (Err (stop.Refused reason)) new should = should ≡ Err reason
Did (Err stop.NoMemory) new should = ⊤

-- what lines did
abbrev pub Ran : Result (Unit {0}) Failure → ListingValue → Result ListingValue Refusal → Type 0
Ran (Ok _) new should = should ≡ Ok new
Ran (Err (failure.Refused line reason)) new should = should ≡ Err (record { line = line; reason = reason })
Ran (Err failure.NoMemory) new should = ⊤

-- and what they list
abbrev pub Lists : Result ListingValue Failure → Result ListingValue Refusal → Type 0
Lists (Ok st) should = should ≡ Ok st
Lists (Err (failure.Refused line reason)) should = should ≡ Err (record { line = line; reason = reason })
Lists (Err failure.NoMemory) should = ⊤

-- what was read of a line
abbrev pub Reads : Result AuditLine Stop → Result AuditLine Reason → Type 0
Reads (Ok line) should = should ≡ Ok line
Reads (Err (stop.Refused reason)) should = should ≡ Err reason
Reads (Err stop.NoMemory) should = ⊤

-- the names of a map
abbrev pub names_in : {A : Type 0} → List (Vec ℕ A × Version) → Names
names_in [] = []
names_in (e ∷ es) = (e.0.items, e.1) ∷ names_in es
