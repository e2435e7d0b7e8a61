-- The entry of a record: the moment at which a frame was handed, eight bytes; by whom, three; and the frame.
use Rattle.std.specs.Prelude.{ℕ, List, [], ◌∷◌, ◌++◌, Option, Some, None, option_map, ◌==◌, ◌&&◌, if◌then◌else◌}
use Rattle.std.specs.Int.{w64, from_be_bytes, to_be_bytes}
use Rattle.basil_types.specs.Parties.{party_bytes}
use Rattle.basil_types.specs.declared.party.Party.{Party}
use Rattle.basil_types.specs.declared.party.Party.TheVariants.{Replica, Client}
use Rattle.replica_laws.specs.Steps.{Handed}

unfoldable pub front_of : ℕ → Party → List ℕ
front_of now from = to_be_bytes w64 now ++ party_bytes from

-- the entry of a frame that was handed
abbrev pub entry_of : Handed → List ℕ
entry_of h = front_of h.now h.from ++ h.frame

-- ---- reading

abbrev pub party_named : (kind second number : ℕ) → Option Party
party_named kind second number =
    if kind == 0 then Some (Replica second number) else
    (if kind == 1 && second == 0 then Some (Client number) else None)

abbrev pub handed_by : (moment frame : List ℕ) → Party → Handed
handed_by moment frame from = record { now = from_be_bytes w64 moment; from = from; frame = frame }

-- what an entry says, where its bytes name a party
unfoldable pub handed_in : List ℕ → Option Handed
handed_in (a ∷ b ∷ c ∷ d ∷ e ∷ f ∷ g ∷ h ∷ kind ∷ second ∷ number ∷ frame) =
    option_map (handed_by (a ∷ b ∷ c ∷ d ∷ e ∷ f ∷ g ∷ h ∷ []) frame) (party_named kind second number)
handed_in _ = None
