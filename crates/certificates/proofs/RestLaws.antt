-- What a refusal rests on: of what is accepted, its own signatures alone.
use Rattle.std.proofs.Common.{◌≡◌, ℕ, ◌+◌, Bool, true, cond, not, ◌&&◌, List, [], ◌∷◌, Option, None, Some, refl, sym, ap, ◌∙◌}
use Rattle.std.specs.Prelude.{option_map}
use Rattle.std.specs.List.{list_all}
use Rattle.std.proofs.lemmas.Bool.{and_parts}
use Rattle.basil_types.proofs.MemberLaws.{in_head, in_tail}
use Rattle.basil_types.proofs.Walks.{position-cons}
use Rattle.basil_types.specs.Built.{or_else}
use Rattle.basil_types.specs.declared.party.Decision.TheVariants.{Commit}
use Rattle.basil_types.specs.Setting.{Setting, IsSetting}
use Rattle.basil_types.specs.Transaction.{id}
use Rattle.frame_views.specs.Fitting.{FitsCertificate, bounds_of}
use Rattle.frame_views.specs.Signed.{SignedBy, certificate_signed, tallies_signed}
use Rattle.frame_views.specs.Spelling.{certificate_bytes}
use Rattle.frame_views.specs.Stored.{certificate_in}
use Rattle.frame_views.specs.Values.{CertificateValue, PairValue}
use Rattle.certificates.specs.declared.refusal.CertRefusal.{CertRefusal}
use Rattle.certificates.specs.declared.refusal.CertRefusal.TheVariants.{BadSignature}
use Rattle.certificates.specs.Accepted.{Accepted, accepts, first_refused}
use Rattle.certificates.specs.Laws.{AgreeOn, AcceptsMoreOf, CertificatesOfBytes, CertificatesAlike, TalliesAlike, ConflictsAlike}
use Rattle.certificates.specs.Laws.{CertificatesCarry, TalliesCarry, ConflictsCarry}
use Rattle.certificates.specs.Refusals.{bad_signature, wrong_id, mixed, not_involved, too_few, no_conflict, nested, wrong_ids, mixed_pairs}
use Rattle.certificates.specs.Refusals.{strays, shortages, ill_formed, no_rival, stray_tallies, few_listed}
use Rattle.certificates.specs.Refusals.{tally_needs}
use Rattle.certificates.proofs.CountLaws.{none_refused, refused_none}

-- ---- signatures

same_first : (A B : Accepted) (signed : List SignedBy) → AgreeOn A B signed → first_refused A signed ≡ first_refused B signed
same_first A B [] h = refl
same_first A B (s ∷ rest) h =
    position-cons (λ x. not (accepts A x)) s rest
    ∙ ap (λ (b : Bool). cond (not b) (Some 0) (option_map (λ k. k + 1) (first_refused A rest))) (h s (in_head s rest))
    ∙ ap (λ (o : Option ℕ). cond (not (accepts B s)) (Some 0) (option_map (λ k. k + 1) o))
    (same_first A B rest (λ x i. h x (in_tail s rest x i)))
    ∙ sym (position-cons (λ x. not (accepts B x)) s rest)

same_signatures : (A B : Accepted) (signed : List SignedBy) → AgreeOn A B signed → bad_signature A signed ≡ bad_signature B signed
same_signatures A B signed h = ap (option_map BadSignature) (same_first A B signed h)

and_join : (a b : Bool) → a ≡ true → b ≡ true → (a && b) ≡ true
and_join a b h k = ap (λ c. c && b) h ∙ k

all_more : (A B : Accepted) (signed : List SignedBy) → AcceptsMoreOf A B signed → list_all (accepts A) signed ≡ true
    → list_all (accepts B) signed ≡ true
all_more A B [] m h = refl
all_more A B (s ∷ rest) m h =
    let both = and_parts (accepts A s) (list_all (accepts A) rest) h in
    and_join _ _ (m s (in_head s rest) both.0) (all_more A B rest (λ x i. m x (in_tail s rest x i)) both.1)

none_carries : (A B : Accepted) (signed : List SignedBy) → AcceptsMoreOf A B signed → bad_signature A signed ≡ None
    → bad_signature B signed ≡ None
none_carries A B signed m h = refused_none B signed (all_more A B signed m (none_refused A signed h))

-- ---- the same refusal

pub certificates_alike : CertificatesAlike
certificates_alike A B c t d x h =
    let p : PairValue = record { transaction = t; certificate = x } in
    ap (λ (o : Option CertRefusal). or_else (wrong_ids p (nested p)) (or_else (mixed_pairs d p (nested p))
    (or_else (strays c p (nested p)) (or_else (shortages c p (nested p)) (or_else (no_conflict p) o)))))
    (same_signatures A B (certificate_signed x) h)

-- what is kept as bytes is viewed again as what it was
pub same_bytes : ((c : Setting) (x : CertificateValue) →
    IsSetting c → FitsCertificate (bounds_of c) x → certificate_in (certificate_bytes x) ≡ x)
    → CertificatesOfBytes
same_bytes kept c x y i f g e = sym (kept c x i f) ∙ ap certificate_in e ∙ kept c y i g

pub tallies_alike : TalliesAlike
tallies_alike A B c t d tallies h =
    ap (λ (o : Option CertRefusal). or_else (stray_tallies c t d tallies) (or_else (few_listed (tally_needs c.f d) tallies) o))
    (same_signatures A B (tallies_signed (id t) d tallies) h)

pub conflicts_alike : ConflictsAlike
conflicts_alike A B c t p h =
    ap (λ (o : Option CertRefusal). or_else (ill_formed p.transaction)
    (or_else (wrong_id p) (or_else (mixed Commit p) (or_else (not_involved c p) (or_else (too_few c p) (or_else (no_rival t p) o))))))
    (same_signatures A B (certificate_signed p.certificate) h)

-- ---- no refusal

last_swap : (a b d : Option CertRefusal) → (b ≡ None → d ≡ None) → or_else a b ≡ None → or_else a d ≡ None
last_swap None b d f h = f h
last_swap (Some x) b d f h = absurd cc

pub certificates_carry : CertificatesCarry
certificates_carry A B c t d x m h =
    let p : PairValue = record { transaction = t; certificate = x } in
    last_swap (wrong_ids p (nested p)) _ _
    (last_swap (mixed_pairs d p (nested p)) _ _
    (last_swap (strays c p (nested p)) _ _
    (last_swap (shortages c p (nested p)) _ _
    (last_swap (no_conflict p) _ _ (none_carries A B (certificate_signed x) m))))) h

pub tallies_carry : TalliesCarry
tallies_carry A B c t d tallies m h =
    last_swap (stray_tallies c t d tallies) _ _
    (last_swap (few_listed (tally_needs c.f d) tallies) _ _ (none_carries A B (tallies_signed (id t) d tallies) m)) h

pub conflicts_carry : ConflictsCarry
conflicts_carry A B c t p m h =
    last_swap (ill_formed p.transaction) _ _
    (last_swap (wrong_id p) _ _
    (last_swap (mixed Commit p) _ _
    (last_swap (not_involved c p) _ _
    (last_swap (too_few c p) _ _
    (last_swap (no_rival t p) _ _ (none_carries A B (certificate_signed p.certificate) m)))))) h
