use Rattle.std.proofs.Common.{ap, ◌∙◌, map, Some, List}
use Rattle.std.specs.declared.alloc.Global.{Global}
use Rattle.json.specs.Value.{value_view}
use Rattle.json.specs.declared.value.Value.{Value}
use Rattle.cluster_file.proofs.Objects.{listed}
use Rattle.cluster_file.proofs.members.list.Goals as goal

pub returns-in-Array : goal.returns-in-Array
returns-in-Array c =
    ap (λ (items : List (Value Global)). Some (map value_view items)) c.as_slice.ensures.value
    ∙ listed c.args.name.now (value_view c.args.object.now) c.in_ok-items.field-0.now c.in-Array.items c.in_ok-items.ensures c.in-Array.is
