use Rattle.std.proofs.Common.{◌≡◌, [], length, map, sym, ap, subst, ◌∙◌, arith}
use Rattle.std.specs.Prelude.{All}
use Rattle.std.specs.Map.{keys_of, values_of}
use Rattle.txn_table.specs.Shown.{entry_of}
use Rattle.txn_table.specs.Tables.{IsProofBelow, ids_of}
use Rattle.txn_table.specs.Kept.{shown}
use Rattle.txn_table.proofs.Listing.{none-listed}
use Rattle.txn_table.proofs.table.Table.new.Goals as goal

pub invariant_of-result : goal.invariant_of-result
invariant_of-result c =
    let m = c.empty_map.result in
    let none : m.entries ≡ [] = c.empty_map.ensures.empty in
    record {
      ids = ap keys_of none ∙ sym (ap (λ es. ids_of (map entry_of (values_of es))) none);
      few = omega (arith, ap length none);
      proofs =
          subst (λ es. All (IsProofBelow (length (map entry_of (values_of es)))) (map entry_of (values_of es))) (sym none)
          (λ k d h. absurd (omega (arith, h)));
      none = c.new.ensures;
      made = λ id is. absurd cc;
      waits = none-listed c.new-2.result (shown m) (ap (λ es. map entry_of (values_of es)) none) c.new-2.ensures;
    }
