-- Transactions that are put by version, one after the other.
use Rattle.std.proofs.Common.{◌≡◌, ℕ, suc, ◌+◌, ◌<◌, List, ◌∷◌, length, drop, get_or, sym, ap, ◌∙◌, add-one}
use Rattle.std.proofs.Math.Seq.{drop-cons}
use Rattle.std.specs.BTreeMap.{insert_entry}
use Rattle.basil_types.specs.Replayed.{Versions, put_versions}
use Rattle.basil_types.specs.Transaction.{TransactionValue, version_of}
use Rattle.basil_types.specs.Version.{version_cmp}

-- the transaction at a place is put
pub put_next : (all m new : Versions) (ts : List TransactionValue) (i : ℕ) (t : TransactionValue) → i < length ts →
    t ≡ get_or ts i t → new ≡ insert_entry version_cmp m (version_of t) t → all ≡ put_versions m (drop i ts) →
    all ≡ put_versions new (drop (i + 1) ts)
put_next all m new ts i t lt is put so_far =
    let here : drop i ts ≡ t ∷ drop (suc i) ts = drop-cons ts i t lt ∙ ap (λ z. z ∷ drop (suc i) ts) (sym is) in
    so_far
    ∙ ap (put_versions m) here
    ∙ ap (λ z. put_versions z (drop (suc i) ts)) (sym put)
    ∙ ap (λ j. put_versions new (drop j ts)) (sym (add-one i))
