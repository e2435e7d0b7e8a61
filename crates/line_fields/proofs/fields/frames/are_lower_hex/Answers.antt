use Rattle.std.proofs.Common.{rules, tests}
use Rattle.std.proofs.lemmas.Iterator.{YieldsList-from_slice}
use Rattle.std.proofs.lemmas.Iterator.Search.{all_from_yields_List}
use Rattle.line_fields.specs.Fields.{is_lower_hex}
use Rattle.line_fields.proofs.fields.frames.are_lower_hex.Goals as goal

pub returns : goal.returns
returns c =
    all_from_yields_List is_lower_hex _ _ _ c.all.ensures.ran (YieldsList-from_slice c.args.token.now cc) (λ x b q k. search (rules, tests))
