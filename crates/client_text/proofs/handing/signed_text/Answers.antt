-- The bytes that are lent are the canonical ones.
use Rattle.std.proofs.Common.{◌≡◌, ℕ, List, [], ◌∷◌, ◌++◌, ap, subst, ◌∙◌}
use Rattle.std.specs.Prelude.{IfOk}
use Rattle.basil_types.specs.Transaction.{canonical}
use Rattle.hex.specs.Hex.{encode_lower}
use Rattle.client_text.proofs.handing.signed_text.Goals as goal

pub returns : goal.returns
returns c =
    subst
    (λ (b : List ℕ). IfOk c.hex_pair.result (λ text. text ≡ encode_lower b ++ 32 ∷ encode_lower c.args.signature.now ++ 10 ∷ []))
    (c.bytes.ensures.spelled ∙ ap canonical c.view.ensures.value) c.hex_pair.ensures
