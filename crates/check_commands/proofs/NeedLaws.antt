-- The test of a certificate needs no key but those of its signers, and none where it is refused for something else.
use Rattle.std.proofs.Common.{◌≡◌, ℕ, ◌+◌, ◌&&◌, Bool, true, not, List, [], ◌∷◌, Option, None, Some, option_map, refl, sym, ap, ◌∙◌}
use Rattle.std.proofs.lemmas.Bool.{eq-eqb}
use Rattle.basil_types.proofs.MemberLaws.{map_in, hit_from}
use Rattle.basil_types.proofs.Walks.{position-cons}
use Rattle.basil_types.specs.Built.{or_else}
use Rattle.basil_types.specs.Setting.{Setting}
use Rattle.basil_types.specs.Transaction.{TransactionValue}
use Rattle.basil_types.specs.declared.party.Party.{Party}
use Rattle.basil_types.specs.declared.party.Party.TheVariants.{Replica, Client}
use Rattle.certificates.proofs.RestLaws.{certificates_alike}
use Rattle.certificates.specs.Accepted.{Accepted, accepts, first_refused}
use Rattle.certificates.specs.Laws.{AgreeOn}
use Rattle.certificates.specs.Numbers.{number_of}
use Rattle.certificates.specs.Refusals.{decision_of, bad_signature, wrong_ids, mixed_pairs, strays, shortages, no_conflict, nested}
use Rattle.certificates.specs.declared.refusal.CertRefusal.{CertRefusal}
use Rattle.certificates.specs.declared.refusal.CertRefusal.TheVariants.{BadSignature}
use Rattle.frame_views.specs.Signed.{SignedBy, certificate_signed}
use Rattle.frame_views.specs.Values.{CertificateValue, PairValue}
use Rattle.keyring_lms.specs.Keys.{is_same}
use Rattle.keyring_lms.specs.Replay.{replay_accepts, listed_accepts}
use Rattle.lms_sign.specs.declared.sets.LmsSet.{LmsSet}
use Rattle.check_commands.specs.Checking.{proved, proved_by}
use Rattle.command_ends.specs.Outcome.{Refused}
use Rattle.check_commands.specs.Signers.{all_accepted, signer, signers, own_refusal}

-- ---- no key

none_refused : (signed : List SignedBy) → first_refused all_accepted signed ≡ None
none_refused [] = refl
none_refused (s ∷ rest) =
    position-cons (λ x. not (accepts all_accepted x)) s rest ∙ ap (option_map (λ (k : ℕ). k + 1)) (none_refused rest)

none_bad : (signed : List SignedBy) → bad_signature all_accepted signed ≡ None
none_bad signed = ap (option_map BadSignature) (none_refused signed)

other_refusal : (o d : Option CertRefusal) (r : CertRefusal) → o ≡ None → o ≡ Some r → d ≡ Some r
other_refusal None d r e h = absurd cc
other_refusal (Some x) d r e h = absurd cc

first_stays : (a b d : Option CertRefusal) (r : CertRefusal) → (b ≡ Some r → d ≡ Some r) → or_else a b ≡ Some r
    → or_else a d ≡ Some r
first_stays None b d r f h = f h
first_stays (Some x) b d r f h = h

-- what is refused where every signature is accepted is refused so whatever is accepted
refused_alike : (A : Accepted) (c : Setting) (t : TransactionValue) (x : CertificateValue) (r : CertRefusal)
    → own_refusal all_accepted c t x ≡ Some r → own_refusal A c t x ≡ Some r
refused_alike A c t x r h =
    let p : PairValue = record { transaction = t; certificate = x } in
    first_stays (wrong_ids p (nested p)) _ _ r
    (first_stays (mixed_pairs (decision_of x.body) p (nested p)) _ _ r
    (first_stays (strays c p (nested p)) _ _ r
    (first_stays (shortages c p (nested p)) _ _ r
    (first_stays (no_conflict p) _ _ r (other_refusal _ _ r (none_bad (certificate_signed x))))))) h

pub needs_no_key : (A : Accepted) (c : Setting) (t : TransactionValue) (x : CertificateValue) (r : CertRefusal)
    → own_refusal all_accepted c t x ≡ Some r → Refused (number_of r) ≡ proved_by A c t x
unfolding proved_by
needs_no_key A c t x r h = ap (proved (decision_of x.body)) (sym (refused_alike A c t x r h))

-- ---- the signers' keys

same_own : (p : Party) → is_same p p ≡ true
same_own (Replica shard index) = rw (eq-eqb shard shard refl, eq-eqb index index refl) refl
same_own (Client number) = eq-eqb number number refl

signers_agree : (cluster : Setting) (set : LmsSet) (x : CertificateValue)
    → AgreeOn (listed_accepts cluster set (signers x)) (replay_accepts cluster set) (certificate_signed x)
signers_agree cluster set x s i =
    ap (λ (b : Bool). b && replay_accepts cluster set s.party s.words s.signature)
    (hit_from (λ (one : Party). is_same one s.party) (signers x) s.party (map_in signer (certificate_signed x) s i) (same_own s.party))

by_signers : (cluster : Setting) (set : LmsSet) (t : TransactionValue) (x : CertificateValue)
    → own_refusal (listed_accepts cluster set (signers x)) cluster t x ≡ own_refusal (replay_accepts cluster set) cluster t x
by_signers cluster set t x = certificates_alike _ _ cluster t (decision_of x.body) x (signers_agree cluster set x)

-- by the keys of its signers a certificate is judged as by all keys of the replay
pub needs_signers : (A : Accepted) (cluster : Setting) (set : LmsSet) (t : TransactionValue) (x : CertificateValue) (listed : List Party)
    → listed ≡ signers x → A ≡ listed_accepts cluster set listed
    → proved_by A cluster t x ≡ proved_by (replay_accepts cluster set) cluster t x
unfolding proved_by
needs_signers A cluster set t x listed l e =
    ap (proved (decision_of x.body))
    (ap (λ (B : Accepted). own_refusal B cluster t x) (e ∙ ap (listed_accepts cluster set) l) ∙ by_signers cluster set t x)
