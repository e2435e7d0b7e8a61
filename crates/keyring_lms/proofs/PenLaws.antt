-- What pens sign.
use Rattle.std.proofs.Common.{◌≡◌, ℕ, ◌+◌, ◌&&◌, Bool, true, false, List, [], ◌∷◌, Option, Some, None, is_none, refl, arith}
use Rattle.std.proofs.lemmas.Bool.{eq-eqb}
use Rattle.std.proofs.Math.Path.{fun_ext}
use Rattle.basil_types.specs.declared.party.Party.{Party}
use Rattle.basil_types.specs.declared.party.Party.TheVariants.{Replica, Client}
use Rattle.keyring.specs.Plain.{seed_of}
use Rattle.lms_sign.specs.declared.verifying.LmsRefusal.{LmsRefusal}
use Rattle.lms_sign.specs.Tree.{Tree, public_of}
use Rattle.lms_sign.specs.Signing.{signature_of}
use Rattle.lms_sign.specs.Verifying.{Valid, first_refusal, is_valid}
use Rattle.lms_sign.proofs.PartLaws.{length-ident}
use Rattle.lms_sign.proofs.ValidLaws.{made-valid, valid-told, unrefused-valid}
use Rattle.keyring_lms.specs.Keys.{is_same, public_in, is_valid_under, lms_accepts}
use Rattle.keyring_lms.specs.Pens.{tree_holds}
use Rattle.keyring_lms.specs.Replay.{tree_in_replay}
use Rattle.keyring_lms.specs.Laws.{AcceptedIsValid, PensAgreeWithKeys, OneKeyAgreesWithItsPen}
use Rattle.keyring_lms.specs.Laws.{ReplayPensAgreeWithKeys, ReplayPensAreAccepted}

same-own : (p : Party) → is_same p p ≡ true
same-own (Replica s i) = rw (eq-eqb s s refl, eq-eqb i i refl) refl
same-own (Client n) = eq-eqb n n refl

-- a pen's relation holds of what is valid under its key, for its own party
pub signed-holds : (owner : Party) (tree : Tree) (words signature : List ℕ) → Valid (public_of tree) words signature
    → tree_holds owner tree owner words signature ≡ true
signed-holds owner tree words signature v = rw (same-own owner, valid-told (public_of tree) words signature v) refl

unrefused : (o : Option LmsRefusal) → is_none o ≡ true → o ≡ None
unrefused None h = refl
unrefused (Some refusal) h = absurd (cc)

pub pens-agree : PensAgreeWithKeys
pens-agree list party tree words signature listed = rw (same-own party, listed) refl

own-holds : (owner : Party) (public : List ℕ) (party : Party) (words signature : List ℕ) (b : Bool) → is_same owner party ≡ b
    → (is_same owner party && is_valid public words signature) ≡ lms_accepts ((owner, public) ∷ []) party words signature
own-holds owner public party words signature true e = rw e refl
own-holds owner public party words signature false e = rw e refl

pub one_key : OneKeyAgreesWithItsPen
one_key owner tree =
    fun_ext (λ party. fun_ext
    (λ words. fun_ext (λ signature. own-holds owner (public_of tree) party words signature (is_same owner party) refl)))

pub replay-agrees : ReplayPensAgreeWithKeys
replay-agrees cluster set party words signature there = rw (same-own party, there) refl

-- what is accepted of a party is what is valid under the key that is looked up
accepted-valid : (o : Option (List ℕ)) (words signature : List ℕ) → is_valid_under o words signature ≡ true
    → (public : List ℕ) × (o ≡ Some public) × Valid public words signature
accepted-valid None words signature h = absurd (cc)
accepted-valid (Some public) words signature h =
    (public, refl, unrefused-valid public words signature (unrefused (first_refusal public words signature) h))

pub accepts-valid : AcceptedIsValid
accepts-valid list party words signature = (
  λ accepted. accepted-valid (public_in list party) words signature accepted,
  λ w. rw w.1 (valid-told w.0 words signature w.2),
)

pub replay-pens : ReplayPensAreAccepted
replay-pens cluster set party place words there left =
    let tree = tree_in_replay set party in
    let valid = made-valid tree (0 + place) words (length-ident (seed_of party)) (omega (arith, left)) in
    rw there (valid-told (public_of tree) words (signature_of tree (0 + place) words) valid)
