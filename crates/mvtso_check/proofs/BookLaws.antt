-- What is found among the held transactions of a book is found in the book.
use Rattle.std.proofs.Common.{◌≡◌, ℕ, ◌+◌, Bool, true, false, cond, List, [], ◌∷◌, Option, Some, None, refl, sym, ap, ◌∙◌, arith}
use Rattle.std.specs.Prelude.{position, option_map, ◌||◌, ◌&&◌}
use Rattle.std.specs.List.{list_any}
use Rattle.std.proofs.lemmas.Grind.{common_steps}
use Rattle.basil_types.specs.Transaction.{TransactionValue}
use Rattle.basil_types.proofs.Walks.{position-cons}
use Rattle.txn_meta.specs.Conflicts.{conflict_in}
use Rattle.txn_table.specs.Entries.{EntryValue}
use Rattle.txn_table.specs.declared.released.Home.{Home}
use Rattle.mv_store.specs.Held.{Held, hits}
use Rattle.mvtso_check.specs.Book.{stands, is_prepared, has_committed, held_at, held_from, held_in}
use Rattle.mv_store.specs.Hits.{least}
use Rattle.mvtso_check.proofs.HitLaws.{least_of, least_of_cons}

any_by : (p : TransactionValue → Bool) (k : ℕ) (e : EntryValue) (es : List EntryValue) (b : Bool) → stands e ≡ b
    → list_any (λ h. p h.transaction) (held_from (k + 1) es) ≡ list_any (λ e. stands e && p e.transaction) es
    → list_any (λ h. p h.transaction) (held_from k (e ∷ es)) ≡ list_any (λ e. stands e && p e.transaction) (e ∷ es)
any_by p k e es true s h =
    ap (λ b. list_any (λ h. p h.transaction) (cond b (held_at k e ∷ held_from (k + 1) es) (held_from (k + 1) es))) s
    ∙ ap (λ b. p e.transaction || b) h ∙ sym (ap (λ b. (b && p e.transaction) || list_any (λ e. stands e && p e.transaction) es) s)
any_by p k e es false s h =
    ap (λ b. list_any (λ h. p h.transaction) (cond b (held_at k e ∷ held_from (k + 1) es) (held_from (k + 1) es))) s
    ∙ h ∙ sym (ap (λ b. (b && p e.transaction) || list_any (λ e. stands e && p e.transaction) es) s)

pub any_held : (p : TransactionValue → Bool) (k : ℕ) (es : List EntryValue)
    → list_any (λ h. p h.transaction) (held_from k es) ≡ list_any (λ e. stands e && p e.transaction) es
any_held p k [] = refl
any_held p k (e ∷ es) = any_by p k e es (stands e) refl (any_held p (k + 1) es)

moved : (k : ℕ) (o : Option ℕ) → option_map (λ i. (k + 1) + i) o ≡ option_map (λ i. k + i) (option_map (λ i. i + 1) o)
moved k None = refl
moved k (Some i) = let e : (k + 1) + i ≡ k + (i + 1) = omega arith in ap Some e

first_least : (k : ℕ) (o : Option ℕ) → least (Some k) (option_map (λ i. (k + 1) + i) o) ≡ Some (k + 0)
first_least k None = let e : k ≡ k + 0 = omega arith in ap Some e
first_least k (Some i) = grind (arith, common_steps)

step : (prep fin q : Bool) (k : ℕ) (rest : Option ℕ) (o : Option ℕ) → rest ≡ option_map (λ i. (k + 1) + i) o
    → cond (prep || fin) (cond (fin && q) (least (Some k) rest) rest) rest
    ≡ option_map (λ i. k + i) (cond (fin && q) (Some 0) (option_map (λ i. i + 1) o))
step prep true true k rest o e = by prep
  where
    by : (b : Bool) → cond (b || true) (least (Some k) rest) rest ≡ Some (k + 0)
    by true = ap (least (Some k)) e ∙ first_least k o
    by false = ap (least (Some k)) e ∙ first_least k o
step true true false k rest o e = e ∙ moved k o
step false true false k rest o e = e ∙ moved k o
step true false q k rest o e = e ∙ moved k o
step false false q k rest o e = e ∙ moved k o

first_by : (p : TransactionValue → Bool) (k : ℕ) (e : EntryValue) (es : List EntryValue) (b : Bool) → stands e ≡ b
    → least_of (λ h. h.committed && p h.transaction) (λ h. h.place) (held_from k (e ∷ es))
    ≡ cond b (cond (has_committed e
    && p e.transaction) (least (Some k) (least_of (λ h. h.committed
    && p h.transaction) (λ h. h.place) (held_from (k + 1) es))) (least_of (λ h. h.committed
    && p h.transaction) (λ h. h.place) (held_from (k + 1) es))) (least_of (λ h. h.committed
    && p h.transaction) (λ h. h.place) (held_from (k + 1) es))
first_by p k e es true s =
    ap (λ b. least_of (λ h. h.committed
    && p h.transaction) (λ h. h.place) (cond b (held_at k e ∷ held_from (k + 1) es) (held_from (k + 1) es))) s
    ∙ least_of_cons (λ (h : Held). h.committed && p h.transaction) (λ h. h.place) (held_at k e) (held_from (k + 1) es)
first_by p k e es false s =
    ap (λ b. least_of (λ h. h.committed
    && p h.transaction) (λ h. h.place) (cond b (held_at k e ∷ held_from (k + 1) es) (held_from (k + 1) es))) s

pub first_held : (p : TransactionValue → Bool) (k : ℕ) (es : List EntryValue)
    → least_of (λ h. h.committed && p h.transaction) (λ h. h.place) (held_from k es)
    ≡ option_map (λ i. k + i) (position (λ e. has_committed e && p e.transaction) es)
first_held p k [] = refl
first_held p k (e ∷ es) =
    first_by p k e es (stands e) refl
    ∙ step (is_prepared e) (has_committed e) (p e.transaction) k _ (position (λ e. has_committed e
    && p e.transaction) es) (first_held p (k + 1) es)
    ∙ sym (ap (option_map (λ i. k + i)) (position-cons (λ e. has_committed e && p e.transaction) e es))

-- ---- what conflicts with a transaction

from_start : (o : Option ℕ) → option_map (λ i. 0 + i) o ≡ o
from_start None = refl
from_start (Some i) = let e : 0 + i ≡ i = omega arith in ap Some e

pub is_crossed_held : (home : Home) (t : TransactionValue) (es : List EntryValue)
    → (hits (λ h. conflict_in home.cluster home.shard t h.transaction) (held_in es)).any
    ≡ list_any (λ e. stands e && conflict_in home.cluster home.shard t e.transaction) es
is_crossed_held home t es = any_held (conflict_in home.cluster home.shard t) 0 es

pub proof_held : (home : Home) (t : TransactionValue) (es : List EntryValue)
    → (hits (λ h. conflict_in home.cluster home.shard t h.transaction) (held_in es)).committed
    ≡ position (λ e. has_committed e && conflict_in home.cluster home.shard t e.transaction) es
proof_held home t es = first_held (conflict_in home.cluster home.shard t) 0 es ∙ from_start _
