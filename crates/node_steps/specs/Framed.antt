-- Messages in bytes.
use Rattle.basil_types.specs.declared.outbox.Envelope.{Envelope}
use Rattle.frame_views.specs.Spelling.{spelling}
use Rattle.node_steps.specs.Envelopes.{EnvelopeValue}

-- the frame of a message, on its way to the same party
abbrev pub framed : EnvelopeValue → Envelope
framed e = record { to = e.to; frame = spelling e.message }
