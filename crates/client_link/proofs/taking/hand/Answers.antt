-- A frame that the client takes, with what it sends.
use Rattle.std.proofs.Common.{rules, refl}
use Rattle.client_link.proofs.TalkLaws.{handed}
use Rattle.client_link.proofs.taking.hand.Goals as goal

pub returns-in-Ok-clause-handed : goal.returns-in-Ok-clause-handed
returns-in-Ok-clause-handed g c told t at =
    handed _ _ told _ _ t c.args.frame.now _ c.speaks_twice.ensures c.in-Ok.ensures.seat at
    (c.in-Ok.ensures.answer t.client at.client_is) refl refl (search rules)
