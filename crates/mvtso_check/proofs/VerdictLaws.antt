-- The verdict, by what was found.
use Rattle.std.proofs.Common.{◌≡◌, ℕ, Bool, cond, Option, ap, ◌∙◌}
use Rattle.basil_types.specs.Transaction.{TransactionValue}
use Rattle.txn_meta.specs.Conflicts.{conflict_in}
use Rattle.txn_table.specs.declared.released.Home.{Home}
use Rattle.mv_store.specs.declared.hits.Hits.{Hits}
use Rattle.mv_store.specs.Held.{hits}
use Rattle.mvtso_check.specs.declared.verdict.Verdict.TheVariants.{Wait, Commit}
use Rattle.mvtso_check.specs.Book.{held_in}
use Rattle.mvtso_check.specs.Verdict.{Book, is_crossed, must_abort, must_abort_where, must_wait, proof, aborted_by, verdict}
use Rattle.mvtso_check.proofs.BookLaws.{is_crossed_held, proof_held}

pub is_told : (home : Home) (now : ℕ) (book : Book) (t : TransactionValue) (found : Hits) (must wait : Bool)
    → found ≡ hits (λ h. conflict_in home.cluster home.shard t h.transaction) (held_in book.entries)
    → must ≡ must_abort_where home now book t found.any → wait ≡ must_wait home book t
    → cond must (aborted_by found.committed) (cond wait Wait Commit) ≡ verdict home now book t
is_told home now book t found must wait f m w =
    let any : found.any ≡ is_crossed home book t = ap (λ (h : Hits). h.any) f ∙ is_crossed_held home t book.entries in
    let by : found.committed ≡ proof home book t = ap (λ (h : Hits). h.committed) f ∙ proof_held home t book.entries in
    let aborts : must ≡ must_abort home now book t = m ∙ ap (must_abort_where home now book t) any in
    ap (λ (b : Bool). cond b (aborted_by found.committed) (cond wait Wait Commit)) aborts
    ∙ ap (λ (p : Option ℕ). cond (must_abort home now book t) (aborted_by p) (cond wait Wait Commit)) by
    ∙ ap (λ (b : Bool). cond (must_abort home now book t) (aborted_by (proof home book t)) (cond b Wait Commit)) w
