-- An ask: an envelope is written to an address, and its answer read.
use Rattle.std.specs.Prelude.{◌≡◌, ℕ, ◌+◌, ◌-◌, ◌^◌, ◌≤◌, min, List, [], ◌∷◌, length, take, Option, Some, None, nat_le}
use Rattle.std.specs.Prelude.{if◌then◌else◌}
use Rattle.std.specs.Int.{w32, from_be_bytes}
use Rattle.basil_types.specs.declared.outbox.Envelope.{Envelope}
use Rattle.basil_types.specs.Links.{LinkState, closes, first_of, opens, writes}
use Rattle.basil_types.specs.Setting.{Setting}
use Rattle.node_link.specs.Dialogue.{connection_limit, dialogue_of}

-- ---- an answer

-- how many of its envelopes are read, where it tells this count
abbrev pub read_of : ℕ → ℕ
read_of count = min count 64

-- the first of these, so many; none where there are fewer
abbrev pub so_many : ℕ → List Envelope → List Envelope
so_many count envelopes = if nat_le count (length envelopes) then take count envelopes else []

-- how many bytes it may have behind its count, whose four are the connection's too
unfoldable pub answer_limit : ℕ
answer_limit = connection_limit - 4

abbrev pub envelopes_in : Setting → ℕ → List ℕ → List Envelope
envelopes_in cluster count bytes = so_many count (dialogue_of cluster (take answer_limit bytes)).envelopes

-- what is taken of it: its first four bytes are a count, and so many envelopes follow, of which 64 are read; nothing
-- where these aren't whole before the bytes end, or the rules end the connection
abbrev pub answer_in : Setting → List ℕ → List Envelope
answer_in cluster (a ∷ b ∷ c ∷ d ∷ bytes) =
    envelopes_in cluster (read_of (from_be_bytes w32 (a ∷ b ∷ c ∷ d ∷ []))) bytes
answer_in cluster _ = []

-- ---- an ask

-- it was answered; or its address wasn't opened; or a write or a read failed, behind so many bytes of its envelope
pub data Fate : Type 0 where
  Answered : Fate
  Unopened : Fate
  Cut : (written : ℕ) → Fate

-- what links have after it
abbrev pub asked : Fate → (address envelope : List ℕ) → LinkState → LinkState
asked Answered address envelope s = closes (writes envelope (opens address s))
asked Unopened address envelope s = s
asked (Cut written) address envelope s = closes (writes (take written envelope) (opens address s))

-- what is taken of its answer, which the next connection brings
abbrev pub given_by : Fate → Setting → LinkState → List Envelope
given_by Answered cluster s = answer_in cluster (first_of s.coming)
given_by Unopened cluster s = []
given_by (Cut written) cluster s = []

-- how many calls of the links failed
abbrev pub failures_of : Fate → ℕ
failures_of Answered = 0
failures_of Unopened = 1
failures_of (Cut written) = 1

-- a count rose by so many, or stands at its last value
abbrev pub RoseBy : (times before now : ℕ) → Type 0
RoseBy times before now = min (before + times) (2 ^ 64 - 1) ≤ now

-- the open connection was answered and closed, or a call of it failed and it was closed
pub data IsTalked (cluster : Setting) (bytes envelope : List ℕ) (s : LinkState) (told : Option LinkState)
    (before now : ℕ) (taken : List Envelope) : Type 0 where
  Whole : told ≡ Some (closes (writes envelope s)) → taken ≡ answer_in cluster bytes → before ≤ now →
      IsTalked cluster bytes envelope s told before now taken
  Failing : (written : ℕ) → told ≡ Some (closes (writes (take written envelope) s)) → taken ≡ [] → RoseBy 1 before now →
      IsTalked cluster bytes envelope s told before now taken

-- an ask over links that told this, and what was taken of its answer
pub record IsAsked (cluster : Setting) (address envelope : List ℕ) (s : LinkState) (told : Option LinkState)
    (before now : ℕ) (taken : List Envelope) : Type 0 where
  pub fate : Fate
  pub links : told ≡ Some (asked fate address envelope s)
  pub given : taken ≡ given_by fate cluster s
  pub failed : RoseBy (failures_of fate) before now

-- ---- the open connection

-- this is left of it
abbrev pub IsLeft : LinkState → Option LinkState → List ℕ → Type 0
IsLeft s told rest = told ≡ Some (record s { rest = Some rest })

-- something is, or nothing
pub record IsOpen (s : LinkState) (told : Option LinkState) : Type 0 where
  pub rest : List ℕ
  pub left : IsLeft s told rest

-- some of the piece was written to it, from its front
pub record IsCut (s : LinkState) (told : Option LinkState) (piece : List ℕ) : Type 0 where
  pub written : ℕ
  pub within : written ≤ length piece
  pub opened : IsOpen (writes (take written piece) s) told

-- the first of its bytes was read, if there is one
abbrev pub ReadsByte : List ℕ → Option ℕ → LinkState → Option LinkState → Type 0
ReadsByte [] byte s told = (byte ≡ None) × IsLeft s told []
ReadsByte (b ∷ bytes) byte s told = (byte ≡ Some b) × IsLeft s told bytes

-- the count of an answer was, if there are four bytes
abbrev pub ReadsCount : List ℕ → Option ℕ → LinkState → Option LinkState → Type 0
ReadsCount (a ∷ b ∷ c ∷ d ∷ bytes) count s told =
    (count ≡ Some (from_be_bytes w32 (a ∷ b ∷ c ∷ d ∷ []))) × IsLeft s told bytes
ReadsCount _ count s told = (count ≡ None) × IsOpen s told

-- the answer was
pub record ReadsAnswer (cluster : Setting) (bytes : List ℕ) (taken : List Envelope) (s : LinkState)
    (told : Option LinkState) : Type 0 where
  pub given : taken ≡ answer_in cluster bytes
  pub opened : IsOpen s told
