-- There is no fault exactly where a reply is valid.
use Rattle.std.proofs.Common.{◌≡◌, Bool, true, false, cond, ◌&&◌, [], ◌∷◌, Option, None, Some, refl, sym, ap, subst, ◌∙◌}
use Rattle.std.specs.Prelude.{◌==◌, ◌↔◌, option_map, option_and_then, IfSome, IfErr, Result, Ok, Err, IsOk, Contains}
use Rattle.std.specs.Str.{bytes_eq}
use Rattle.std.proofs.lemmas.Bool.{and_parts, and_from, eqb-true, eq-eqb}
use Rattle.std.proofs.lemmas.List.Elements.{Contains-append_left, Contains-append_right}
use Rattle.std.proofs.lemmas.Slice.Eq.{bytes_eq-Decides}
use Rattle.basil_types.specs.Refusals.{Refuses}
use Rattle.basil_types.proofs.MemberLaws.{in_head}
use Rattle.basil_types.specs.Built.{or_else}
use Rattle.basil_types.specs.declared.party.Decision.TheVariants.{Commit}
use Rattle.basil_types.specs.Setting.{Setting, IsSetting}
use Rattle.frame_views.specs.Fitting.{FitsPart, FitsCommitted, FitsReadReply, bounds_of}
use Rattle.frame_views.specs.Signed.{SignedBy, committed_signed, reply_signed, signed_in}
use Rattle.frame_views.specs.Values.{CommittedValue, ReadValue, ReadReplyValue, ReadReply}
use Rattle.txn_meta.specs.Places.{shard_of}
use Rattle.certificates.specs.declared.refusal.CertRefusal.{CertRefusal}
use Rattle.certificates.specs.Accepted.{Accepted, accepts}
use Rattle.certificates.specs.Laws.{CertificatesExactly, ProofsGrow, AcceptsMore, AgreeOn, AcceptsMoreOf, CertificatesAlike}
use Rattle.certificates.specs.Laws.{CertificatesCarry}
use Rattle.certificates.specs.Refusals.{refusal}
use Rattle.certificates.specs.declared.fault.FrameFault.{FrameFault}
use Rattle.certificates.specs.declared.fault.FrameFault.TheVariants.{NotMine, BadSignature, BadVersion, BadCertificate}
use Rattle.client_reads.specs.Faults.{IsOfContents}
use Rattle.client_reads.specs.Laws.{RepliesExactly, RepliesGrow, RepliesAlike, RepliesCarry}
use Rattle.client_reads.specs.Replies.{IsSeenCommitted, IsValidReply, answers, is_missing_or_seen, sees_all, not_mine, bad_signature}
use Rattle.client_reads.specs.Replies.{bad_version, bad_proof, bad_certificate, reply_fault}
use Rattle.client_reads.proofs.SeenLaws.{seen_fact, seen_test, prepared_fact, prepared_test}

-- ---- chains of tests

-- a test passes and there is no later fault
tested : (t : Bool) (f : FrameFault) (later : Option FrameFault) → or_else (cond t None (Some f)) later ≡ None → (t ≡ true) × (later ≡ None)
tested true f later h = (refl, h)
tested false f later h = absurd cc

passed : (t : Bool) (f : FrameFault) (later : Option FrameFault) → t ≡ true → later ≡ None → or_else (cond t None (Some f)) later ≡ None
passed t f later e h = ap (λ b. or_else (cond b None (Some f)) later) e ∙ h

no_refusal : (o : Option CertRefusal) → option_map BadCertificate o ≡ None → o ≡ None
no_refusal None h = refl
no_refusal (Some r) h = absurd cc

-- ---- committed transactions

committed_fact : CertificatesExactly → (A : Accepted) (c : Setting) (read : ReadValue) (o : Option CommittedValue) → IsSetting c
    → FitsPart true (FitsCommitted (bounds_of c)) o
    → is_missing_or_seen read (option_map (λ (part : CommittedValue). part.transaction) o) ≡ true → option_and_then (bad_proof A c) o ≡ None
    → IfSome o (IsSeenCommitted A c read)
committed_fact exactly A c read None i fits h k = tt
committed_fact exactly A c read (Some part) i fits h k =
    let seen = seen_fact read part.transaction h in
    record {
      seen = seen;
      commits = (exactly A c part.transaction Commit part.certificate i fits.1.certificate seen.form).0
          (no_refusal (refusal A c part.transaction Commit part.certificate) k);
    }

committed_seen : (A : Accepted) (c : Setting) (read : ReadValue) (o : Option CommittedValue) → IfSome o (IsSeenCommitted A c read)
    → is_missing_or_seen read (option_map (λ (part : CommittedValue). part.transaction) o) ≡ true
committed_seen A c read None k = refl
committed_seen A c read (Some part) k = seen_test read part.transaction k.seen

committed_proved : CertificatesExactly → (A : Accepted) (c : Setting) (read : ReadValue) (o : Option CommittedValue) → IsSetting c
    → FitsPart true (FitsCommitted (bounds_of c)) o → IfSome o (IsSeenCommitted A c read) → option_and_then (bad_proof A c) o ≡ None
committed_proved exactly A c read None i fits k = refl
committed_proved exactly A c read (Some part) i fits k =
    ap (option_map BadCertificate) ((exactly A c part.transaction Commit part.certificate i fits.1.certificate k.seen.form).1 k.commits)

-- ---- replies

valid_from : CertificatesExactly → (A : Accepted) (c : Setting) (read : ReadValue) (reply : ReadReplyValue) → IsSetting c
    → FitsReadReply (bounds_of c) reply → reply_fault A c read reply ≡ None → IsValidReply A c read reply
valid_from exactly A c read reply i fits h =
    let mine = tested (answers c read reply) NotMine _ h in
    let signed = tested (accepts A (reply_signed reply)) BadSignature _ mine.1 in
    let sees = tested (sees_all read reply) BadVersion _ signed.1 in
    let client = and_parts ((reply.shard == shard_of c read.key) && bytes_eq reply.key read.key && (reply.time == read.time))
    (reply.client == read.client) mine.0 in
    let time = and_parts ((reply.shard == shard_of c read.key) && bytes_eq reply.key read.key) (reply.time == read.time) client.0 in
    let key = and_parts (reply.shard == shard_of c read.key) (bytes_eq reply.key read.key) time.0 in
    let both = and_parts (is_missing_or_seen read (option_map (λ (part : CommittedValue). part.transaction) reply.committed))
    (is_missing_or_seen read reply.prepared) sees.0 in
    record {
      shard = eqb-true reply.shard (shard_of c read.key) key.0;
      key = (bytes_eq-Decides reply.key read.key).0 key.1;
      time = eqb-true reply.time read.time time.1;
      client = eqb-true reply.client read.client client.1;
      signed = signed.0;
      committed = committed_fact exactly A c read reply.committed i fits.committed both.0 sees.1;
      prepared = prepared_fact read reply.prepared both.1;
    }

valid_to : CertificatesExactly → (A : Accepted) (c : Setting) (read : ReadValue) (reply : ReadReplyValue) → IsSetting c
    → FitsReadReply (bounds_of c) reply → IsValidReply A c read reply → reply_fault A c read reply ≡ None
valid_to exactly A c read reply i fits k =
    let mine : answers c read reply ≡ true =
    and_from _ _
    (and_from _ _ (and_from _ _ (eq-eqb reply.shard (shard_of c read.key) k.shard) ((bytes_eq-Decides reply.key read.key).1 k.key))
    (eq-eqb reply.time read.time k.time)) (eq-eqb reply.client read.client k.client) in
    let sees : sees_all read reply ≡ true =
    and_from _ _ (committed_seen A c read reply.committed k.committed) (prepared_test read reply.prepared k.prepared) in
    passed (answers c read reply) NotMine _ mine
    (passed (accepts A (reply_signed reply)) BadSignature _ k.signed
    (passed (sees_all read reply) BadVersion _ sees (committed_proved exactly A c read reply.committed i fits.committed k.committed)))

pub replies_exactly : CertificatesExactly → RepliesExactly
replies_exactly exactly A c read reply i fits = (valid_from exactly A c read reply i fits, valid_to exactly A c read reply i fits)

-- ---- more is accepted

committed_grows : ProofsGrow → (A B : Accepted) (c : Setting) (read : ReadValue) (o : Option CommittedValue) → IsSetting c
    → FitsPart true (FitsCommitted (bounds_of c)) o → AcceptsMore A B → IfSome o (IsSeenCommitted A c read)
    → IfSome o (IsSeenCommitted B c read)
committed_grows grow A B c read None i fits m k = tt
committed_grows grow A B c read (Some part) i fits m k = record {
  seen = k.seen;
  commits = grow A B c part.transaction Commit part.certificate i fits.1.certificate m k.commits;
}

pub replies_grow : ProofsGrow → RepliesGrow
replies_grow grow A B c read reply i fits m k = record {
  shard = k.shard;
  key = k.key;
  time = k.time;
  client = k.client;
  signed = m _ _ _ k.signed;
  committed = committed_grows grow A B c read reply.committed i fits.committed m k.committed;
  prepared = k.prepared;
}

-- ---- an answer and its fault

some_is : {X : Type 0} (x y : X) → Some x ≡ Some y → x ≡ y
some_is x y e = cc

pub ok_exactly : (r : Result (Unit {0}) FrameFault) (fault : Option FrameFault) (P : Type 0) → Refuses r fault → (fault ≡ None) ↔ P
    → IsOk r ↔ P
ok_exactly (Ok u) fault P h e = (λ _. e.0 h, λ _. refl)
ok_exactly (Err f) fault P h e = (λ i. absurd (let j = i in cc), λ p. absurd (some_none (sym h ∙ e.1 p)))
  where
    some_none : {X : Type 0} {x : X} → Some x ≡ None → ⊥
    some_none e = cc

-- each fault is of the contents
chained : (t : Bool) (f : FrameFault) (later : Option FrameFault) → IsOfContents f → IfSome later IsOfContents
    → IfSome (or_else (cond t None (Some f)) later) IsOfContents
chained true f later p q = q
chained false f later p q = p

of_certificate : (o : Option CertRefusal) → IfSome (option_map BadCertificate o) IsOfContents
of_certificate None = tt
of_certificate (Some r) = tt

of_committed : (A : Accepted) (c : Setting) (o : Option CommittedValue) → IfSome (option_and_then (bad_proof A c) o) IsOfContents
of_committed A c None = tt
of_committed A c (Some part) = of_certificate (refusal A c part.transaction Commit part.certificate)

of_contents : (A : Accepted) (c : Setting) (read : ReadValue) (reply : ReadReplyValue) → IfSome (reply_fault A c read reply) IsOfContents
of_contents A c read reply =
    chained (answers c read reply) NotMine _ tt
    (chained (accepts A (reply_signed reply)) BadSignature _ tt
    (chained (sees_all read reply) BadVersion _ tt (of_committed A c reply.committed)))

told : (r : Result (Unit {0}) FrameFault) (fault : Option FrameFault) → Refuses r fault → IfSome fault IsOfContents → IfErr r IsOfContents
told (Ok u) fault h k = tt
told (Err f) None h k = absurd cc
told (Err f) (Some g) h k = let e : g ≡ f = some_is g f h in subst IsOfContents e k

pub only_contents : (A : Accepted) (c : Setting) (read : ReadValue) (reply : ReadReplyValue) (r : Result (Unit {0}) FrameFault)
    → Refuses r (reply_fault A c read reply) → IfErr r IsOfContents
only_contents A c read reply r h = told r (reply_fault A c read reply) h (of_contents A c read reply)

-- ---- what a fault rests on

-- the signatures of the certificate inside, and the reply's own
own_in : (reply : ReadReplyValue) → Contains (signed_in (ReadReply reply)) (reply_signed reply)
own_in reply = Contains-append_right (committed_signed reply.committed)
    (reply_signed reply ∷ []) (reply_signed reply) (in_head (reply_signed reply) [])

certificate_in : (reply : ReadReplyValue) (s : SignedBy) → Contains (committed_signed reply.committed) s
    → Contains (signed_in (ReadReply reply)) s
certificate_in reply s i = Contains-append_left (committed_signed reply.committed) (reply_signed reply ∷ []) s i

same_proof : CertificatesAlike → (A B : Accepted) (c : Setting) (o : Option CommittedValue) → AgreeOn A B (committed_signed o)
    → option_and_then (bad_proof A c) o ≡ option_and_then (bad_proof B c) o
same_proof alike A B c None h = refl
same_proof alike A B c (Some part) h = ap (option_map BadCertificate) (alike A B c part.transaction Commit part.certificate h)

pub replies_alike : CertificatesAlike → RepliesAlike
replies_alike alike A B c read reply h =
    ap (λ (t : Bool). or_else (not_mine c read reply) (or_else (cond t None (Some BadSignature))
    (or_else (bad_version read reply) (bad_certificate A c reply)))) (h (reply_signed reply) (own_in reply))
    ∙ ap (λ (o : Option FrameFault). or_else (not_mine c read reply) (or_else (bad_signature B reply) (or_else (bad_version read reply) o)))
    (same_proof alike A B c reply.committed (λ s i. h s (certificate_in reply s i)))

proof_carries : CertificatesCarry → (A B : Accepted) (c : Setting) (o : Option CommittedValue) → AcceptsMoreOf A B (committed_signed o)
    → option_and_then (bad_proof A c) o ≡ None → option_and_then (bad_proof B c) o ≡ None
proof_carries carry A B c None m h = refl
proof_carries carry A B c (Some part) m h =
    ap (option_map BadCertificate)
    (carry A B c part.transaction Commit part.certificate m (no_refusal (refusal A c part.transaction Commit part.certificate) h))

pub replies_carry : CertificatesCarry → RepliesCarry
replies_carry carry A B c read reply m h =
    let mine = tested (answers c read reply) NotMine _ h in
    let signed = tested (accepts A (reply_signed reply)) BadSignature _ mine.1 in
    let sees = tested (sees_all read reply) BadVersion _ signed.1 in
    passed (answers c read reply) NotMine _ mine.0
    (passed (accepts B (reply_signed reply)) BadSignature _ (m (reply_signed reply) (own_in reply) signed.0)
    (passed (sees_all read reply) BadVersion _ sees.0
    (proof_carries carry A B c reply.committed (λ s i. m s (certificate_in reply s i)) sees.1)))
