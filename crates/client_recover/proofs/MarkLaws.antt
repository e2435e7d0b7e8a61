-- The members of a set of shards, one after the other.
use Rattle.std.proofs.Common.{◌≡◌, ℕ, zero, suc, ◌+◌, ◌<◌, ◌≤◌, Bool, true, false, cond, map, None, Some, List, [], ◌∷◌, ◌++◌, length}
use Rattle.std.proofs.Common.{take, drop, get_or, set, refl, sym, ap, ◌∙◌, append-nil, append_assoc, arith}
use Rattle.std.proofs.lemmas.List.{at_drop_more, at_drop_all, take_more_set}
use Rattle.std.specs.Prelude.{find, nat_le, option_map, ◌&&◌, ◌*◌}
use Rattle.std.specs.List.{list_all}
use Rattle.std.proofs.lemmas.Bool.{false≢true}
use Rattle.std.proofs.lemmas.Bool.Decides.{nat_tests}
use Rattle.basil_types.specs.Built.{or_else}
use Rattle.basil_types.specs.declared.party.Decision.TheVariants.{Commit, Abort}
use Rattle.basil_types.specs.Setting.{Setting}
use Rattle.basil_types.specs.Transaction.{TransactionValue}
use Rattle.frame_views.specs.Values.{Commits, FastCommit}
use Rattle.quorum_laws.specs.Numbers.{fast_commit, fast_abort}
use Rattle.txn_meta.specs.Places.{members, members_from, marks_of, involves, involved}
use Rattle.client_recover.specs.Counting.{has_votes, tally_of}
use Rattle.client_recover.specs.Certifying.{certificate_of, each_has, by_fast_commit, by_fast_abort, fast_abort_in, certificate_by}

next_mark : (marks : List Bool) (shard : ℕ) → shard < length marks →
    members_from shard (drop shard marks)
    ≡ cond (get_or marks shard false) (shard ∷ members_from (shard + 1) (drop (shard + 1) marks))
    (members_from (shard + 1) (drop (shard + 1) marks))
next_mark marks shard h = at_drop_more (members_from shard) marks shard false h

pub marked : (marks : List Bool) (shard : ℕ) (shards : List ℕ) (count : ℕ) → shard < length marks → count < length shards →
    get_or marks shard false ≡ true →
    take count shards ++ members_from shard (drop shard marks) ≡ members marks →
    take (count + 1) (set shards count shard) ++ members_from (shard + 1) (drop (shard + 1) marks) ≡ members marks
marked marks shard shards count h room is e =
    let rest = members_from (shard + 1) (drop (shard + 1) marks) in
    ap (λ xs. xs ++ rest) (take_more_set shards count shard room) ∙ append_assoc (take count shards) (shard ∷ []) rest
    ∙ ap (λ xs. take count shards ++ xs) (sym (next_mark marks shard h ∙ ap (λ b. cond b (shard ∷ rest) rest) is)) ∙ e

pub unmarked : (marks : List Bool) (shard : ℕ) (shards : List ℕ) (count : ℕ) → shard < length marks → get_or marks shard false ≡ false →
    take count shards ++ members_from shard (drop shard marks) ≡ members marks →
    take count shards ++ members_from (shard + 1) (drop (shard + 1) marks) ≡ members marks
unmarked marks shard shards count h is e =
    let rest = members_from (shard + 1) (drop (shard + 1) marks) in
    ap (λ xs. take count shards ++ xs) (sym (next_mark marks shard h ∙ ap (λ b. cond b (shard ∷ rest) rest) is)) ∙ e

pub all_marks : (marks : List Bool) (shard : ℕ) (shards : List ℕ) (count : ℕ) → length marks ≤ shard →
    take count shards ++ members_from shard (drop shard marks) ≡ members marks → take count shards ≡ members marks
all_marks marks shard shards count h e =
    sym (append-nil (take count shards)) ∙ ap (λ xs. take count shards ++ xs) (sym (at_drop_all (members_from shard) marks shard h)) ∙ e

-- ---- some shard is involved

none_marked : (marks : List Bool) (n s : ℕ) → members_from n marks ≡ [] → get_or marks s false ≡ false
none_marked [] n s e = refl
none_marked (true ∷ marks) n s e = absurd cc
none_marked (false ∷ marks) n zero e = refl
none_marked (false ∷ marks) n (suc s) e = none_marked marks (n + 1) s e

mark_at : (f : ℕ → Bool) (s : ℕ) → s < 8 → get_or (map f (0 ∷ 1 ∷ 2 ∷ 3 ∷ 4 ∷ 5 ∷ 6 ∷ 7 ∷ [])) s false ≡ f s
mark_at f zero h = refl
mark_at f (suc zero) h = refl
mark_at f (suc (suc zero)) h = refl
mark_at f (suc (suc (suc zero))) h = refl
mark_at f (suc (suc (suc (suc zero)))) h = refl
mark_at f (suc (suc (suc (suc (suc zero))))) h = refl
mark_at f (suc (suc (suc (suc (suc (suc zero)))))) h = refl
mark_at f (suc (suc (suc (suc (suc (suc (suc zero))))))) h = refl
mark_at f (suc (suc (suc (suc (suc (suc (suc (suc s)))))))) h = absurd (omega (arith, h))

some_involved : (c : Setting) (t : TransactionValue) (s : ℕ) → s < 8 → involves c t s ≡ true → involved c t ≡ [] → ⊥
some_involved c t s h is none = false≢true (sym (none_marked (marks_of c t) 0 s none) ∙ mark_at (involves c t) s h ∙ is)

find_none : (p : ℕ → Bool) (xs : List ℕ) → ((x : ℕ) → p x ≡ false) → find p xs ≡ None
find_none p [] h = refl
find_none p (x ∷ xs) h = ap (λ b. cond b (Some x) (find p xs)) (h x) ∙ find_none p xs h

too_few : (n : ℕ) → nat_le (n + 1) 0 ≡ false
too_few n = grind (arith, nat_tests)

off : {A : Type 0} (b : Bool) (a : A) → b ≡ false → cond b (Some a) None ≡ None
off true a e = absurd cc
off false a e = refl

undecided : (c : Setting) (t : TransactionValue) (shards : List ℕ) → involved c t ≡ shards → (shards ≡ [] → ⊥) →
    certificate_by c t [] ≡ None
undecided c t [] e some = absurd (some refl)
undecided c t (x ∷ xs) e some =
    let commits : by_fast_commit c t [] ≡ None =
    off (each_has c t [] Commit (fast_commit c.f))
    (certificate_of t (Commits (FastCommit (map (tally_of c [] Commit (fast_commit c.f)) (involved c t)))))
    (ap (list_all (λ shard. has_votes [] shard Commit (fast_commit c.f))) e
    ∙ ap (λ b. b && list_all (λ shard. has_votes [] shard Commit (fast_commit c.f)) xs) (too_few (5 * c.f))) in
    let aborts : by_fast_abort c t [] ≡ None =
    ap (option_map (fast_abort_in c t []))
    (find_none (λ shard. has_votes [] shard Abort (fast_abort c.f)) (involved c t) (λ s. too_few (3 * c.f))) in
    ap (λ o. or_else o (or_else (by_fast_abort c t []) None)) commits ∙ ap (λ o. or_else o None) aborts

pub nothing_yet : (c : Setting) (t : TransactionValue) (s : ℕ) → c.shards ≤ 8 → s < c.shards → involves c t s ≡ true →
    certificate_by c t [] ≡ None
nothing_yet c t s few below is = undecided c t (involved c t) refl (some_involved c t s (omega (arith, few, below)) is)
