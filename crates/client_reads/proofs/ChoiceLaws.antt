-- What the chosen version rests on.
use Rattle.std.proofs.Common.{◌≡◌, ◌⊎◌, inl, inr, ◌≤◌, Bool, true, false, cond, List, [], ◌∷◌, length, refl, sym, ap, ◌∙◌, subst}
use Rattle.std.proofs.Common.{arith}
use Rattle.std.specs.Prelude.{map, filter, count_by, All, Any, MatchBool, Option, None, Some, IfSome, not, ◌||◌}
use Rattle.std.specs.List.{list_any, list_all}
use Rattle.std.proofs.lemmas.Bool.{or_cases, and_from, leb-true, le-leb}
use Rattle.std.proofs.lemmas.List.Folds.{Any-from_list_any, list_any-from_Any, list_any-append, list_all-append, list_all-map}
use Rattle.std.proofs.lemmas.List.Sums.{length-filter, list_all-from_AllPass}
use Rattle.std.proofs.lemmas.Map.Views.{any-filter_same}
use Rattle.basil_types.specs.declared.version.Version.{Version}
use Rattle.basil_types.specs.Setting.{Setting}
use Rattle.basil_types.specs.Version.{genesis, below, same_version}
use Rattle.basil_types.proofs.VersionLaws.{version_total, same_exactly, genesis_under}
use Rattle.quorum_laws.specs.Numbers.{one_correct}
use Rattle.basil_types.specs.Transaction.{TransactionValue}
use Rattle.frame_views.specs.Signed.{committed_told, version_told}
use Rattle.frame_views.specs.Values.{CommittedValue, ReadValue}
use Rattle.certificates.specs.Accepted.{Accepted}
use Rattle.client_reads.specs.declared.versions.ReplyVersions.{ReplyVersions}
use Rattle.client_reads.specs.Choosing.{is_committed, prepared_by, is_prepared, counts, carried, chosen, IsCommitted, IsPrepared, NoneAbove}
use Rattle.client_reads.specs.Laws.{RepliesStandBelow, ChoicesCarried, ChoicesStandBelow}
use Rattle.client_reads.specs.Replies.{IsSeen, IsSeenCommitted}
use Rattle.client_reads.specs.Versions.{limit_of, StandBelow}
use Rattle.client_reads.proofs.OrderLaws.{not_less, start_within, each_within, greatest_passes, all_pass}

-- ---- tests and facts

committed_fact : (replies : List ReplyVersions) (v : Version) → is_committed replies v ≡ true → IsCommitted replies v
committed_fact replies v h = by (or_cases (same_version v genesis) (list_any (λ (r : ReplyVersions). same_version r.committed v) replies) h)
  where
    by : (same_version v genesis ≡ true) ⊎ (list_any (λ (r : ReplyVersions). same_version r.committed v) replies ≡ true)
        → IsCommitted replies v
    by (inl e) = inl ((same_exactly v genesis).0 e)
    by (inr e) =
        let any = Any-from_list_any (λ (r : ReplyVersions). same_version r.committed v) replies e in
        inr (any.0, any.1, any.2, any.3, (same_exactly (any.1).committed v).0 any.4)

or_right : (a : Bool) → (a || true) ≡ true
or_right true = refl
or_right false = refl

or_left : (a b : Bool) → a ≡ true → (a || b) ≡ true
or_left a b e = ap (λ t. t || b) e

told_test : (replies : List ReplyVersions) (v : Version) → Any (λ r. r.committed ≡ v) replies
    → list_any (λ (r : ReplyVersions). same_version r.committed v) replies ≡ true
told_test replies v any =
    list_any-from_Any (λ (r : ReplyVersions). same_version r.committed v) replies
    (any.0, any.1, any.2, any.3, (same_exactly (any.1).committed v).1 any.4)

committed_counts : (c : Setting) (replies : List ReplyVersions) (v : Version) → is_committed replies v ≡ true → counts c replies v ≡ true
committed_counts c replies v h = or_left (is_committed replies v) (is_prepared c replies v) h

prepared_counts : (c : Setting) (replies : List ReplyVersions) (v : Version) → IsPrepared c replies v → counts c replies v ≡ true
prepared_counts c replies v h =
    ap (λ t. is_committed replies v || t) (le-leb (one_correct c.f) (prepared_by replies v) h) ∙ or_right (is_committed replies v)

genesis_counts : (c : Setting) (replies : List ReplyVersions) → counts c replies genesis ≡ true
genesis_counts c replies =
    committed_counts c replies genesis (or_left (same_version genesis genesis)
    (list_any (λ (r : ReplyVersions). same_version r.committed genesis) replies) ((same_exactly genesis genesis).1 refl))

-- ---- what counts is carried

any_of_map : {X Y : Type 0} (test : Y → Bool) (f : X → Y) (xs : List X) → list_any test (map f xs) ≡ list_any (λ x. test (f x)) xs
any_of_map test f [] = refl
any_of_map test f (x ∷ xs) = ap (λ t. test (f x) || t) (any_of_map test f xs)

some_kept : {X : Type 0} (test : X → Bool) (xs : List X) → 1 ≤ length (filter test xs) → list_any test xs ≡ true
some_kept test [] h = absurd (omega arith)
some_kept test (x ∷ xs) h = by (some_kept test xs) (test x) h
  where
    by : (1 ≤ length (filter test xs) → list_any test xs ≡ true) → (t : Bool) → 1 ≤ length (cond t (x ∷ filter test xs) (filter test xs))
        → (t || list_any test xs) ≡ true
    by later true k = refl
    by later false k = later k

one_at_least : {X : Type 0} (test : X → Bool) (xs : List X) → 1 ≤ count_by test xs → list_any test xs ≡ true
one_at_least test xs h = some_kept test xs (omega (arith, h, length-filter test xs))

told_carried : (replies : List ReplyVersions) (v : Version) → list_any (λ (r : ReplyVersions). same_version r.committed v) replies ≡ true
    → list_any (λ w. same_version w v) (carried replies) ≡ true
told_carried replies v h =
    list_any-append (λ w. same_version w v)
    (map (λ (r : ReplyVersions). r.committed) replies) (map (λ (r : ReplyVersions). r.prepared) replies)
    ∙ or_left _ _ (any_of_map (λ w. same_version w v) (λ (r : ReplyVersions). r.committed) replies ∙ h)

prepared_carried : (c : Setting) (replies : List ReplyVersions) (v : Version) → IsPrepared c replies v
    → list_any (λ w. same_version w v) (carried replies) ≡ true
prepared_carried c replies v h =
    let some = one_at_least (λ (r : ReplyVersions). same_version r.prepared v) replies (omega (arith, h)) in
    list_any-append (λ w. same_version w v)
    (map (λ (r : ReplyVersions). r.committed) replies) (map (λ (r : ReplyVersions). r.prepared) replies)
    ∙ ap (λ t. list_any (λ w. same_version w v) (map (λ (r : ReplyVersions). r.committed) replies) || t)
    (any_of_map (λ w. same_version w v) (λ (r : ReplyVersions). r.prepared) replies ∙ some)
    ∙ or_right _

-- ---- the choice

pub choice_rests : (c : Setting) (replies : List ReplyVersions) (v : Version) (settled : Bool) → v ≡ chosen c replies
    → settled ≡ is_committed replies v → MatchBool (not settled) (IsPrepared c replies v) (IsCommitted replies v)
choice_rests c replies v settled e f = by settled f
  where
    counted : counts c replies v ≡ true
    counted =
        ap (counts c replies) e ∙ greatest_passes version_total (counts c replies) (carried replies) genesis (genesis_counts c replies)

    by : (t : Bool) → t ≡ is_committed replies v → MatchBool (not t) (IsPrepared c replies v) (IsCommitted replies v)
    by true q = committed_fact replies v (sym q)
    by false q = leb-true (one_correct c.f) (prepared_by replies v) (ap (λ t. t || is_prepared c replies v) q ∙ counted)

counted_below : (c : Setting) (replies : List ReplyVersions) (w : Version) → counts c replies w ≡ true
    → list_any (λ v. same_version v w) (carried replies) ≡ true → below (chosen c replies) w ≡ false
counted_below c replies w h k =
    sym (not_less version_total w (chosen c replies))
    ∙ each_within version_total (λ v. same_version v w) w
    (λ v e. (same_exactly v w).0 e) (filter (counts c replies) (carried replies)) genesis
    (any-filter_same (λ v. same_version v w)
    (counts c replies) true (λ v e. ap (counts c replies) ((same_exactly v w).0 e) ∙ h) (carried replies) ∙ k)

pub none_above : (c : Setting) (replies : List ReplyVersions) → NoneAbove c replies (chosen c replies)
none_above c replies w (inl (inl e)) =
    subst (λ v. below (chosen c replies) v ≡ false) (sym e)
    (sym (not_less version_total genesis (chosen c replies))
    ∙ start_within version_total (filter (counts c replies) (carried replies)) genesis)
none_above c replies w (inl (inr any)) =
    let told = told_test replies w any in
    counted_below c replies w (committed_counts c replies w
    (ap (λ t. same_version w genesis || t) told ∙ or_right (same_version w genesis))) (told_carried replies w told)
none_above c replies w (inr many) = counted_below c replies w (prepared_counts c replies w many) (prepared_carried c replies w many)

pub choices_carried : ChoicesCarried
choices_carried c replies = choice_rests c replies (chosen c replies) (is_committed replies (chosen c replies)) refl refl

-- ---- below a limit

carried_below : (limit : Version) (replies : List ReplyVersions) → All (StandBelow limit) replies
    → list_all (λ v. below v limit) (carried replies) ≡ true
carried_below limit replies all =
    list_all-append (λ v. below v limit)
    (map (λ (r : ReplyVersions). r.committed) replies) (map (λ (r : ReplyVersions). r.prepared) replies)
    ∙ and_from _ _
    (list_all-map (λ v. below v limit) (λ (r : ReplyVersions). r.committed) replies
    ∙ list_all-from_AllPass (λ (r : ReplyVersions). below r.committed limit) replies (λ k d h. (all k d h).committed))
    (list_all-map (λ v. below v limit) (λ (r : ReplyVersions). r.prepared) replies
    ∙ list_all-from_AllPass (λ (r : ReplyVersions). below r.prepared limit) replies (λ k d h. (all k d h).prepared))

pub choices_stand_below : ChoicesStandBelow
choices_stand_below c replies limit h all =
    all_pass version_total (λ v. below v limit) (counts c replies) (carried replies) genesis h (carried_below limit replies all)

committed_below : (A : Accepted) (c : Setting) (read : ReadValue) (o : Option CommittedValue) → 1 ≤ read.client
    → IfSome o (IsSeenCommitted A c read) → below (committed_told o) (limit_of read) ≡ true
committed_below A c read None h k = genesis_under (limit_of read) h
committed_below A c read (Some part) h k = k.seen.below

prepared_below : (read : ReadValue) (o : Option TransactionValue) → 1 ≤ read.client → IfSome o (IsSeen read)
    → below (version_told o) (limit_of read) ≡ true
prepared_below read None h k = genesis_under (limit_of read) h
prepared_below read (Some t) h k = k.below

pub replies_stand_below : RepliesStandBelow
replies_stand_below A c read reply h k = record {
  committed = committed_below A c read reply.committed h k.committed;
  prepared = prepared_below read reply.prepared h k.prepared;
}
