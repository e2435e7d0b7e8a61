-- An answer in bytes: how many envelopes, four bytes; and each envelope, a receiver, the length of its frame and its
-- frame.
use Rattle.std.specs.Prelude.{ℕ, List, ◌++◌, length}
use Rattle.std.specs.Int.{w32, to_be_bytes}
use Rattle.std.specs.List.{flat_map}
use Rattle.basil_types.specs.Parties.{party_bytes}
use Rattle.basil_types.specs.declared.outbox.Envelope.{Envelope}

abbrev pub envelope_bytes : Envelope → List ℕ
envelope_bytes e = party_bytes e.to ++ to_be_bytes w32 (length e.frame) ++ e.frame

abbrev pub answer_bytes : List Envelope → List ℕ
answer_bytes sent = to_be_bytes w32 (length sent) ++ flat_map envelope_bytes sent
