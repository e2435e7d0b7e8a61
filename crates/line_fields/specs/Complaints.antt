-- Complaints, and which of several comes first.
use Rattle.std.specs.Prelude.{ℕ, Result, Ok, Err, nat_le, if◌then◌else◌}
use Rattle.line_fields.specs.declared.complaint.Complaint.{Complaint}
use Rattle.line_fields.specs.declared.complaint.Complaint.TheVariants.{Refused, Misspelt, OutOfRange, OutOfSize}
use Rattle.line_fields.specs.declared.reason.Reason.{Reason}
use Rattle.line_fields.specs.declared.reason.Reason.TheVariants as reasons

-- the number of a reason
abbrev pub reason_number : Reason → ℕ
reason_number reasons.NoHeader = 1
reason_number reasons.Misspelt = 2
reason_number reasons.OutOfRange = 3
reason_number reasons.WrongName = 4
reason_number reasons.CannotBeFaulty = 5
reason_number reasons.WrongParty = 6
reason_number reasons.NoMessage = 7
reason_number reasons.OutOfSize = 8
reason_number reasons.RefusedCall = 9
reason_number reasons.NoJournal = 11

-- why a line with a complaint is refused
abbrev pub reason_of : Complaint → Reason
reason_of Refused = reasons.NoHeader
reason_of Misspelt = reasons.Misspelt
reason_of OutOfRange = reasons.OutOfRange
reason_of OutOfSize = reasons.OutOfSize

-- of two complaints the one whose reason has the lesser number
abbrev pub first_of : Complaint → Complaint → Complaint
first_of a b = if nat_le (reason_number (reason_of a)) (reason_number (reason_of b)) then a else b

-- two values where both are read, else the first complaint
abbrev pub both : {A B : Type 0} → Result A Complaint → Result B Complaint → Result (A × B) Complaint
both (Ok a) (Ok b) = Ok (a, b)
both (Ok a) (Err d) = Err d
both (Err c) (Ok b) = Err c
both (Err c) (Err d) = Err (first_of c d)

-- what is made of the value that is read
abbrev pub made : {A B : Type 0} → (A → B) → Result A Complaint → Result B Complaint
made f (Ok a) = Ok (f a)
made f (Err c) = Err c

-- the same of more values
unfoldable pub all3 : {A B C : Type 0} →
    Result A Complaint → Result B Complaint → Result C Complaint → Result (A × B × C) Complaint
all3 a b c = made (λ t. (t.0, t.1.0, t.1.1)) (both a (both b c))

unfoldable pub all4 : {A B C D : Type 0} →
    Result A Complaint → Result B Complaint → Result C Complaint → Result D Complaint → Result (A × B × C × D) Complaint
all4 a b c d = made (λ t. (t.0, t.1.0, t.1.1, t.1.2)) (both a (all3 b c d))

unfoldable pub all5 : {A B C D E : Type 0} → Result A Complaint → Result B Complaint →
    Result C Complaint → Result D Complaint → Result E Complaint → Result (A × B × C × D × E) Complaint
all5 a b c d e = made (λ t. (t.0, t.1.0, t.1.1, t.1.2, t.1.3)) (both a (all4 b c d e))

-- what is made of several fields, where each is read
abbrev pub made2 : {A B Z : Type 0} → (A → B → Z) → Result A Complaint → Result B Complaint → Result Z Complaint
made2 f a b = made (λ t. f t.0 t.1) (both a b)

abbrev pub made3 : {A B C Z : Type 0} → (A → B → C → Z) →
    Result A Complaint → Result B Complaint → Result C Complaint → Result Z Complaint
made3 f a b c = made (λ t. f t.0 t.1 t.2) (all3 a b c)

abbrev pub made4 : {A B C D Z : Type 0} → (A → B → C → D → Z) →
    Result A Complaint → Result B Complaint → Result C Complaint → Result D Complaint → Result Z Complaint
made4 f a b c d = made (λ t. f t.0 t.1 t.2 t.3) (all4 a b c d)

abbrev pub made5 : {A B C D E Z : Type 0} → (A → B → C → D → E → Z) → Result A Complaint →
    Result B Complaint → Result C Complaint → Result D Complaint → Result E Complaint → Result Z Complaint
made5 f a b c d e = made (λ t. f t.0 t.1 t.2 t.3 t.4) (all5 a b c d e)
