use Rattle.std.proofs.Common.{◌∙◌, ℕ, List, sym, ap}
use Rattle.std.specs.Prelude.{slice_set}
use Rattle.std.proofs.lemmas.Bool.{eqb-true}
use Rattle.node_steps.specs.Lists.{by_key, put}
use Rattle.client_core.specs.declared.asking.Asking.{Asking}
use Rattle.client_core.proofs.held.Slot.is_place_of.Goals as goal

pub returns-in-At : goal.returns-in-At
returns-in-At c = λ is a key.
    ap (put (by_key (λ (x : Asking). x.key)) a) (sym c.as_slice.ensures.value)
    ∙ c.in-At.ensures.placed a key
    ∙ ap (λ (n : ℕ). slice_set c.as_slice.result.now n a) (eqb-true c.in-At.place c.args.read is)
    ∙ ap (λ (l : List Asking). slice_set l c.args.read a) c.as_slice.ensures.value
