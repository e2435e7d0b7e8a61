use Rattle.frame_rows.proofs.carried.carries_transactions.Given as goal

abbrev pub invariant-loop-transaction : goal.invariant-loop-transaction
invariant-loop-transaction l =
    goal.iterator-loop-transaction.can_next l.transaction-iterator ×
    goal.iterator-loop-transaction.is_finite l.transaction-iterator
