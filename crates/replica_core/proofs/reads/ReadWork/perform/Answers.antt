use Rattle.std.proofs.Common.{ℕ, List, [], ◌∷◌, ◌++◌, subst}
use Rattle.mv_store.specs.Held.{NotedRead}
use Rattle.mv_store.specs.Store.{Stands}
use Rattle.mvtso_check.specs.Book.{held_in}
use Rattle.replica_core.proofs.NotedReads.{same_itself, turned}
use Rattle.replica_core.proofs.reads.ReadWork.perform.Goals as goal

pub returns-clause-noted : goal.returns-clause-noted
returns-clause-noted g c noted s =
    let held = held_in c.args.known.now.table.entries in
    subst
    (λ (k : List ℕ). let n : NotedRead = record { key = k; time = c.args.self.time; client = c.args.self.client } in Stands
    c.note_read.new.self held (noted ++ n ∷ [])) c.as_slice.ensures
    (c.order_decides_nothing.ensures _ held held _ _ (c.note_read.ensures.noted held noted s) (same_itself held) (turned noted _))
