-- What a node sends.
use Rattle.basil_types.specs.declared.party.Party.{Party}
use Rattle.frame_views.specs.Values.{MessageValue}

-- a message on its way
pub record EnvelopeValue : Type 0 where
  pub to : Party
  pub message : MessageValue
