-- What a world tells.
use Rattle.std.specs.Borrow.{Bor}
use Rattle.std.specs.Prelude.{ℕ, List}
use Rattle.basil_types.specs.declared.party.Party.{Party}
use Rattle.cluster_run.specs.Parts.{Mail}

-- the sender, the receiver and the frame of a message
abbrev pub told_mail : Party × Party × Bor (List ℕ) → Mail
told_mail m = record { from = m.0; to = m.1; frame = m.2.now }
