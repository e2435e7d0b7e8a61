-- One more asker.
use Rattle.std.proofs.Common.{◌≡◌, Bool, true, false, List, [], ◌∷◌, ◌++◌, refl, ap, ◌∙◌, if◌then◌else◌}
use Rattle.std.specs.Prelude.{◌||◌}
use Rattle.std.specs.List.{list_any}
use Rattle.basil_types.specs.declared.party.Party.{Party}
use Rattle.basil_types.specs.declared.party.Party.TheVariants.{Replica, Client}
use Rattle.basil_types.specs.contracts.party.PartyPartialEq.TheImpl as derived
use Rattle.txn_table.specs.Entries.{Waiting, same_party, joined, asked_vote}
use Rattle.txn_table.specs.Shown.{waiting}

-- the derived equality of parties
eq_is : (p q : Party) → derived.ghosts.eq p q ≡ same_party p q
eq_is (Replica s i) (Replica t j) = refl
eq_is (Replica s i) (Client n) = refl
eq_is (Client n) (Replica s i) = refl
eq_is (Client n) (Client m) = refl

pub listed : (asker : Party) (askers : List Party)
    → list_any (λ p. derived.ghosts.eq p asker) askers ≡ list_any (λ p. same_party p asker) askers
listed asker [] = refl
listed asker (p ∷ askers) = ap (λ b. b || list_any (λ p. derived.ghosts.eq p asker) askers) (eq_is p asker)
    ∙ ap (λ b. same_party p asker || b) (listed asker askers)

-- where nobody waits yet, the first asker waits
pub asked_open : (asker : Party) (askers : List Party) → waiting (joined asker askers) ≡ asked_vote asker (waiting askers)
asked_open asker [] = refl
asked_open asker (p ∷ askers) = by (list_any (λ q. same_party q asker) (p ∷ askers))
  where
    by : (b : Bool) → waiting (if b then p ∷ askers else (p ∷ askers) ++ asker ∷ [])
        ≡ Waiting (if b then p ∷ askers else (p ∷ askers) ++ asker ∷ [])
    by true = refl
    by false = refl
