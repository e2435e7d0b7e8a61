use Rattle.std.proofs.Common.{◌≡◌, ℕ, Bool, true, false, List, sym, ap, ◌∙◌}
use Rattle.std.specs.Prelude.{not, ◌&&◌, ◌||◌}
use Rattle.std.specs.Str.{bytes_eq}
use Rattle.basil_types.specs.Shown.{transaction_of}
use Rattle.basil_types.specs.Transaction.{TransactionValue, canonical}
use Rattle.txn_meta.specs.Conflicts.{differ, is_crossed}
use Rattle.txn_meta.proofs.conflicts.conflict.Goals as goal

differ_is : (t u : TransactionValue) (first second : List ℕ) (r : Bool) → first ≡ canonical t → second ≡ canonical u → r
    ≡ bytes_eq first second → r ≡ false → differ t u ≡ true
differ_is t u first second r e f g h = ap not (sym (g ∙ ap (λ a. bytes_eq a second) e ∙ ap (bytes_eq (canonical t)) f) ∙ h)

met : (d a b r : Bool) → d ≡ true → r ≡ true → r ≡ a → r ≡ (d && (a || b))
met d a b r e f g = f ∙ sym (ap (λ x. x && (a || b)) e ∙ ap (λ x. x || b) (sym g ∙ f))

passed : (d a b q r : Bool) → d ≡ true → q ≡ false → q ≡ a → r ≡ b → r ≡ (d && (a || b))
passed d a b q r e f g h = h ∙ sym (ap (λ x. x && (a || b)) e ∙ ap (λ x. x || b) (sym g ∙ f))

pub returns-then-is_crossed : goal.returns-then-is_crossed
returns-then-is_crossed c =
    let t = transaction_of c.args.t in
    let u = transaction_of c.args.u in
    met (differ t u) (is_crossed t u) (is_crossed u t) c.is_crossed.result
    (differ_is t u c.bytes.result.now c.bytes-2.result.now
    c.eq.result c.bytes.ensures.spelled c.bytes-2.ensures.spelled c.eq.ensures c.if-eq.false)
    c.if-is_crossed.true
    c.is_crossed.ensures

pub returns-else-is_crossed : goal.returns-else-is_crossed
returns-else-is_crossed c =
    let t = transaction_of c.args.t in
    let u = transaction_of c.args.u in
    passed (differ t u) (is_crossed t u) (is_crossed u t) c.is_crossed.result c.is_crossed-else-is_crossed.result
    (differ_is t u c.bytes.result.now c.bytes-2.result.now
    c.eq.result c.bytes.ensures.spelled c.bytes-2.ensures.spelled c.eq.ensures c.if-eq.false)
    c.if-is_crossed.false
    c.is_crossed.ensures
    c.is_crossed-else-is_crossed.ensures
