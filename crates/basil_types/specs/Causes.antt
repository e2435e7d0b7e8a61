-- When a fault of the outside may be answered, and what was read and taken.
use Rattle.std.specs.Prelude.{◌≡◌, ℕ, ◌+◌, ◌-◌, ◌^◌, ◌≤◌, ◌++◌, min, take, length, List, [], ◌∷◌}
use Rattle.std.specs.Prelude.{Result, Ok, Err, OnOk, OnErr, Option, Some, None, ⊤, option_map, Bool, true, false, ◌==◌}
use Rattle.std.specs.List.{list_any}
use Rattle.std.specs.Result.{IsErrOf}
use Rattle.basil_types.specs.declared.links.LinkFail.{LinkFail}
use Rattle.basil_types.specs.declared.links.LinkFail.TheVariants.{Failed, NoMemory}

-- one more, or the counter's last value
abbrev pub one_more : ℕ → ℕ
one_more count = min (count + 1) (2 ^ 64 - 1)

-- the count of what never fails
abbrev pub no_faults : ℕ
no_faults = 0

-- a count rose, or stands at its last value
abbrev pub Rose : ℕ → ℕ → Type 0
Rose before now = one_more before ≤ now

-- the count never falls, rises where a call fails, and only there
pub record HasCause {T E : Type 0} (before now : ℕ) (result : Result T E) : Type 0 where
  pub later : before ≤ now
  pub failed : OnErr result (Rose before now)
  pub kept : OnOk result (now ≡ before)

-- what was told grew by some of the piece, from its front
pub record TookPrefix (old new : Option (List ℕ)) (piece : List ℕ) : Type 0 where
  pub count : ℕ
  pub within : count ≤ length piece
  pub is : new ≡ option_map (λ taken. taken ++ take count piece) old

-- what was told grew by the piece
abbrev pub TookAll : Option (List ℕ) → Option (List ℕ) → List ℕ → Type 0
TookAll old new piece = new ≡ option_map (λ taken. taken ++ piece) old

-- the moment is the first of those told, which it uses up, and 0 after the last
abbrev pub Ticks : Option (List ℕ) → Option (List ℕ) → ℕ → Type 0
Ticks None new moment = ⊤
Ticks (Some []) new moment = (moment ≡ 0) × (new ≡ Some [])
Ticks (Some (m ∷ moments)) new moment = (moment ≡ m) × (new ≡ Some moments)

-- whether the next of what is counted from 1 is listed
abbrev pub is_next : ℕ → List ℕ → Bool
is_next count listed = list_any (λ number. number == one_more count) listed

-- whether a call of a link failed; want of memory is no fault
abbrev pub has_failed : {T : Type 0} → Result T LinkFail → Bool
has_failed (Ok given) = false
has_failed (Err Failed) = true
has_failed (Err NoMemory) = false

-- the count never falls, rises where a call of a link fails, and only there
pub record HasLinkCause {T : Type 0} (before now : ℕ) (result : Result T LinkFail) : Type 0 where
  pub later : before ≤ now
  pub failed : IsErrOf result Failed → Rose before now
  pub kept : OnOk result (now ≡ before)
  pub spared : IsErrOf result NoMemory → now ≡ before
