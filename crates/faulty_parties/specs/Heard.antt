-- What was heard of a replica.
use Rattle.std.specs.Prelude.{List, All}
use Rattle.frame_views.specs.Fitting.{IsSignature}
use Rattle.frame_views.specs.Values.{WordValue}
use Rattle.faulty_parties.specs.declared.hearing.Heard.{Heard}

abbrev pub said_of : Heard → WordValue
said_of h = record { replica = h.replica; decision = h.decision; signature = h.signature.now }

-- each signature has a length that fits a frame
abbrev pub AreSigned : List WordValue → Type 0
AreSigned words = All (λ (w : WordValue). IsSignature w.signature) words
