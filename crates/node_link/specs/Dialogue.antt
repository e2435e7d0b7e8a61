-- The bytes of a connection: whole envelopes in order, up to the first place where the rules end it.
use Rattle.std.specs.Prelude.{ℕ, zero, suc, List, [], ◌∷◌, ◌++◌, length, take, Option, Some, None, Ok, Err, nat_le}
use Rattle.std.specs.Prelude.{if◌then◌else◌}
use Rattle.std.specs.Option.{option_or}
use Rattle.basil_types.specs.declared.outbox.Envelope.{Envelope}
use Rattle.basil_types.specs.Setting.{Setting}
use Rattle.node_link.specs.declared.cause.EndCause.{EndCause}
use Rattle.node_link.specs.declared.cause.EndCause.TheVariants as causes
use Rattle.node_link.specs.Envelopes.{Field, envelope_at}

-- how many bytes a connection may have
unfoldable pub connection_limit : ℕ
connection_limit = 16777216

-- the whole envelopes before the end, the bytes of one that isn't whole yet, and why the rules end the connection, if
-- they do
pub record Dialogue : Type 0 where
  pub envelopes : List Envelope
  pub partial : List ℕ
  pub ended : Option EndCause

-- without a whole envelope at the front: nothing is left open once the rules end it
abbrev pub without : List ℕ → Option EndCause → Dialogue
without bytes None = record { envelopes = []; partial = bytes; ended = None }
without bytes (Some cause) = record { envelopes = []; partial = []; ended = Some cause }

-- a dialogue behind these envelopes
abbrev pub behind : List Envelope → Dialogue → Dialogue
behind envelopes d = record d { envelopes = envelopes ++ d.envelopes }

abbrev pub begun : Field Envelope → List ℕ → (List ℕ → Dialogue) → Dialogue
begun (Ok first) bytes later = behind (first.0 ∷ []) (later first.1)
begun (Err cause) bytes later = without bytes cause

-- of at most so many envelopes
unfoldable pub spoken : ℕ → Setting → List ℕ → Dialogue
spoken zero cluster bytes = without bytes None
spoken (suc more) cluster bytes = begun (envelope_at cluster bytes) bytes (λ rest. spoken more cluster rest)

-- an envelope has bytes, so there are no more envelopes than bytes
unfoldable pub spoken_in : Setting → List ℕ → Dialogue
spoken_in cluster bytes = spoken (length bytes) cluster bytes

-- the first cause is that of the end: a byte too many ends what hasn't ended
abbrev pub or_connection : Option EndCause → Option EndCause
or_connection ended = option_or ended (Some causes.Connection)

abbrev pub cut_off : Dialogue → Dialogue
cut_off d = record d { partial = []; ended = or_connection d.ended }

unfoldable pub dialogue_of : Setting → List ℕ → Dialogue
dialogue_of cluster bytes =
    if nat_le (length bytes) connection_limit then spoken_in cluster bytes else
    cut_off (spoken_in cluster (take connection_limit bytes))
