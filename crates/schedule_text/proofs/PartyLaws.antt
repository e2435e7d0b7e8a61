-- What a party's tokens are read as.
use Rattle.std.proofs.Common.{◌≡◌, List, ◌++◌, true, refl, arith, Ok, Some}
use Rattle.basil_types.specs.declared.party.Party.{Party}
use Rattle.basil_types.specs.declared.party.Party.TheVariants.{Replica, Client}
use Rattle.line_fields.specs.Tokens.{Token}
use Rattle.line_fields.specs.Parties.{party, only_party}
use Rattle.schedule_text.specs.Spelling.{party_tokens}
use Rattle.schedule_text.specs.Fitting.{IsParty}
use Rattle.schedule_text.proofs.TokenLaws.{all_clean, clean-decimal}
use Rattle.schedule_text.proofs.FieldLaws.{shard-again, replica-again, client-again}

pub party-again : (p : Party) (rest : List Token) → IsParty p → party (party_tokens p ++ rest) ≡ Some (Ok p, rest)
unfolding party
party-again (Replica s r) rest h = rw (shard-again s h.0, replica-again r h.1) refl
party-again (Client n) rest h = rw (client-again n h) refl

pub only_party-again : (p : Party) → IsParty p → only_party (party_tokens p) ≡ Ok p
unfolding party only_party
only_party-again (Replica s r) h = rw (shard-again s h.0, replica-again r h.1) refl
only_party-again (Client n) h = rw (client-again n h) refl

pub party-clean : (p : Party) → IsParty p → all_clean (party_tokens p) ≡ true
party-clean (Replica s r) h = rw (clean-decimal s (omega arith), clean-decimal r (omega arith)) refl
party-clean (Client n) h = rw (clean-decimal n (omega arith)) refl
