-- A signature that is a batch of one.
use Rattle.std.proofs.Common.{◌≡◌, ℕ, List, Bool, true, refl, arith}
use Rattle.std.proofs.lemmas.Grind.{common_steps}
use Rattle.basil_types.specs.declared.party.Party.{Party}
use Rattle.batch_sign.specs.Signatures.{alone, in_batch, is_formed, named, words_alone}
use Rattle.batch_sign.specs.Trees.{climbed}

alone-formed : (inner : List ℕ) → is_formed (alone inner) ≡ true
alone-formed inner = grind (arith, common_steps)

alone-named : (words inner : List ℕ) → named words (alone inner) ≡ words_alone words
unfolding climbed
alone-named words inner = refl

-- it holds of words exactly where the inner signature holds of the root words over them
pub alone-holds : (holds : Party → List ℕ → List ℕ → Bool) (party : Party) (words inner : List ℕ) →
    holds party (words_alone words) inner ≡ true → in_batch holds party words (alone inner) ≡ true
alone-holds holds party words inner h =
    let formed : is_formed (alone inner) ≡ true = alone-formed inner in
    let inside : holds party (named words (alone inner)) inner ≡ true = rw (alone-named words inner) h in
    rw (formed, inside) refl
