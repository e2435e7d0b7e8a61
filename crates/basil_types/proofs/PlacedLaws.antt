-- The transaction that begins at an offset.
use Rattle.std.proofs.Common.{◌≡◌, ℕ, List, drop, length, Ok, Err, ap, ◌∙◌}
use Rattle.basil_types.specs.declared.reading.Fault.{Fault}
use Rattle.basil_types.specs.Texts.{IsBytes}
use Rattle.basil_types.specs.Transaction.{TransactionValue, Begins}
use Rattle.basil_types.specs.Parsed.{transaction_at}
use Rattle.basil_types.specs.Placed.{placed, at_offset, transaction_from}
use Rattle.basil_types.proofs.TransactionLaws.{transaction_takes, transaction_again}

pub is_found : (bytes : List ℕ) (x : TransactionValue × List ℕ) → IsBytes bytes → transaction_at bytes ≡ Ok x → Begins bytes x.0
is_found bytes x fits e =
    let t = transaction_takes bytes x fits e in
    record { is = t.1; rest = x.1; spelled = t.0.parts }

pub placed_ok : (start : ℕ) (bytes : List ℕ) (x : TransactionValue × List ℕ) → transaction_at (drop start bytes) ≡ Ok x →
    transaction_from start bytes ≡ Ok x.0
unfolding transaction_from
placed_ok start bytes x e = ap (at_offset (length bytes)) e

pub placed_err : (start : ℕ) (bytes : List ℕ) (f : Fault) → transaction_at (drop start bytes) ≡ Err f → transaction_from start bytes ≡ Err
    (placed (length bytes) f)
unfolding transaction_from
placed_err start bytes f e = ap (at_offset (length bytes)) e

pub only_is : (start : ℕ) (bytes : List ℕ) (t : TransactionValue) → Begins (drop start bytes) t → transaction_from start bytes ≡ Ok t
only_is start bytes t begins =
    placed_ok start bytes (t, begins.rest) (ap transaction_at begins.spelled ∙ transaction_again t begins.rest begins.is)
