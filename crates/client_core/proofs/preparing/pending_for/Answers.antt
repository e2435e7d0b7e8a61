use Rattle.std.proofs.Common.{◌∙◌, ℕ, List, ap}
use Rattle.basil_types.specs.Transaction.{id}
use Rattle.basil_types.specs.Words.{TransactionWords, words_of}
use Rattle.client_core.proofs.preparing.pending_for.Goals as goal

pub returns-clause-words : goal.returns-clause-words
returns-clause-words c =
    c.in_ok-pending.ensures.words ∙ c.transaction.ensures
    ∙ ap (λ (k : List ℕ). words_of (TransactionWords k))
    (c.id-id.ensures ∙ ap id c.view.ensures.value)
