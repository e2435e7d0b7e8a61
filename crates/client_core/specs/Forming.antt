-- What a formed transaction shows.
use Rattle.std.specs.Borrow.{Bor}
use Rattle.std.specs.Prelude.{ℕ, List, true}
use Rattle.basil_types.specs.Transaction.{TransactionValue}
use Rattle.client_core.specs.declared.held.Formed.{Formed}
use Rattle.frame_views.specs.Values.{SignedValue}

abbrev pub shown_signed : Bor TransactionValue × Bor (List ℕ) → SignedValue
shown_signed x = record { transaction = x.0.now; signature = x.1.now }

-- its second stage has started
abbrev pub started : Formed → Formed
started f = record f { second = true }
