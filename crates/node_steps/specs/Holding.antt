-- What an outbox holds.
use Rattle.std.specs.Prelude.{◌≡◌, List, map}
use Rattle.basil_types.specs.declared.outbox.Outbox.{Outbox}
use Rattle.basil_types.specs.Words.{SignedWords, words_of}
use Rattle.node_steps.specs.Envelopes.{EnvelopeValue}
use Rattle.node_steps.specs.Framed.{framed}

-- the messages and the signed words, each in order
pub record Holds (out : Outbox) (mail : List EnvelopeValue) (said : List SignedWords) : Type 0 where
  pub messages : out.messages.items ≡ map framed mail
  pub signed : out.signed.items ≡ map words_of said
