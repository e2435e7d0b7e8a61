-- A report, or what is open.
use Rattle.std.proofs.Common.{refl}
use Rattle.party_commands.specs.Clients.{Open, Reported}
use Rattle.party_commands.proofs.client.ending_of.Goals as goal

pub returns-in-Ok-tell-clause-ending : goal.returns-in-Ok-tell-clause-ending
returns-in-Ok-tell-clause-ending g c = Reported c.in-Ok-tell.text refl

pub returns-in-Err-Undecided-clause-ending : goal.returns-in-Err-Undecided-clause-ending
returns-in-Err-Undecided-clause-ending g c = Open c.in-Err-Undecided.replies refl
