-- What links over memory have, and what each call makes of it.
use Rattle.std.specs.Prelude.{◌≡◌, ℕ, ◌-◌, ◌≤◌, ◌++◌, List, [], ◌∷◌, length, take, drop, Vec}
use Rattle.std.specs.Prelude.{Option, Some, None, option_map, unwrap_or}
use Rattle.std.specs.Prelude.{Result, IfOk, OnErr, if◌then◌else◌, slice_set, slice_index, bit_xor}
use Rattle.basil_types.specs.Causes.{is_next}
use Rattle.basil_types.specs.declared.links.LinkFail.{LinkFail}

-- by what its reads give: the connections that open and accept will take, and what is left of the open one; the bytes
-- of all writes; in order of the calls the addresses of each open and listen, what each carry gave, and how many bytes
-- had been written before each open and accept
pub record LinkState : Type 0 where
  pub coming : List (List ℕ)
  pub rest : Option (List ℕ)
  pub written : List ℕ
  pub addresses : List (List ℕ)
  pub carried : List (List ℕ)
  pub written_before : List ℕ

-- the bytes of each
abbrev pub contents : {A : Type 0} → List (Vec ℕ A) → List (List ℕ)
contents [] = []
contents (bytes ∷ more) = bytes.items ∷ contents more

-- before the first call
abbrev pub fresh : List (List ℕ) → LinkState
fresh connections = record {
  coming = connections;
  rest = None;
  written = [];
  addresses = [];
  carried = [];
  written_before = [];
}

-- the first connection, an empty one after the last, and those behind it
abbrev pub first_of : List (List ℕ) → List ℕ
first_of [] = []
first_of (bytes ∷ connections) = bytes

abbrev pub behind_first : List (List ℕ) → List (List ℕ)
behind_first [] = []
behind_first (bytes ∷ connections) = connections

-- a carry gave this
abbrev pub carries : List ℕ → LinkState → LinkState
carries given s = record s { carried = s.carried ++ given ∷ [] }

-- the next connection was taken
abbrev pub accepts : LinkState → LinkState
accepts s = record s {
  coming = behind_first s.coming;
  rest = Some (first_of s.coming);
  written_before = s.written_before ++ length s.written ∷ [];
}

-- the address was listened at
abbrev pub listens : List ℕ → LinkState → LinkState
listens address s = record s { addresses = s.addresses ++ address ∷ [] }

-- the address was opened, by the next connection
abbrev pub opens : List ℕ → LinkState → LinkState
opens address s = accepts (listens address s)

-- so many bytes of the open connection were read
abbrev pub reads : ℕ → LinkState → LinkState
reads count s = record s { rest = option_map (drop count) s.rest }

-- the piece was written
abbrev pub writes : List ℕ → LinkState → LinkState
writes piece s = record s { written = s.written ++ piece }

-- the open connection was closed
abbrev pub closes : LinkState → LinkState
closes s = record s { rest = None }

-- the bytes that reads will give, where they are told: none where no connection is open
abbrev pub unread : Option LinkState → Option (List ℕ)
unread told = option_map (λ s. unwrap_or s.rest []) told

-- what is told changed so at Ok, and otherwise stayed
pub record Changes {T : Type 0} (change : T → LinkState → LinkState) (old new : Option LinkState)
    (result : Result T LinkFail) : Type 0 where
  pub done : IfOk result (λ given. new ≡ option_map (change given) old)
  pub as_before : OnErr result (new ≡ old)

-- some of the piece was written, from its front
pub record WrotePrefix (old new : Option LinkState) (piece : List ℕ) : Type 0 where
  pub count : ℕ
  pub within : count ≤ length piece
  pub is : new ≡ option_map (writes (take count piece)) old

-- the frame with the lowest bit of its last byte changed
abbrev pub altered : List ℕ → List ℕ
altered frame = slice_set frame (length frame - 1) (bit_xor (slice_index frame (length frame - 1)) 1)

-- what the next carry gives: those that are listed, counted from 1, change a bit
abbrev pub carried_as : List ℕ → LinkState → List ℕ → List ℕ
carried_as changed s frame = if is_next (length s.carried) changed then altered frame else frame
