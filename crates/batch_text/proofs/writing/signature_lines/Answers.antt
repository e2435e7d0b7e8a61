use Rattle.std.proofs.Common.{◌++◌, List, ℕ, sym, ap, ◌∙◌}
use Rattle.batch_text.specs.Texts as texts
use Rattle.batch_text.proofs.Below.{below_more, below_none}
use Rattle.batch_text.proofs.writing.signature_lines.Goals as goal

pub loop-place-init : goal.loop-place-init
loop-place-init c = c.new-text.ensures.items ∙ sym (below_none c.args.sealed.now)

pub loop-place-preserved : goal.loop-place-preserved
loop-place-preserved c =
    c.in_ok-put_line-in-Some.ensures
    ∙ ap (λ (t : List ℕ). t ++ texts.hex_line c.in-Some.signature.now) c.loop-place.invariant
    ∙ ap (λ (s : List ℕ). texts.signatures_below c.args.sealed.now c.loop-place.place ++ texts.hex_line s) c.in-Some.ensures.is
    ∙ sym (below_more c.args.sealed.now c.loop-place.place)
