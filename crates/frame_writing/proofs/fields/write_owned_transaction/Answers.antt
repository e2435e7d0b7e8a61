use Rattle.std.proofs.Common.{◌≡◌, ◌++◌, OnOk, subst}
use Rattle.basil_types.specs.Transaction.{TransactionValue, canonical}
use Rattle.frame_writing.proofs.fields.write_owned_transaction.Goals as goal

pub returns-clause-writes : goal.returns-clause-writes
returns-clause-writes c = subst (λ (t : TransactionValue). OnOk c.write_transaction.result
    (c.write_transaction.new.out.written ≡ c.args.out.now.written ++ canonical t)) c.view.ensures.value c.write_transaction.ensures.writes
