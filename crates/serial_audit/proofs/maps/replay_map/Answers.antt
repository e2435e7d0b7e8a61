use Rattle.std.proofs.Common.{◌≡◌, [], subst, ap, ◌∙◌, IfOk}
use Rattle.std.specs.Prelude.{option_copied}
use Rattle.basil_types.specs.Replayed.{replay}
use Rattle.serial_audit.specs.Maps.{pairs_of}
use Rattle.serial_audit.specs.Parts.{lent}
use Rattle.serial_audit.proofs.Ordering.{map_ordered}
use Rattle.serial_audit.proofs.maps.replay_map.Goals as goal

pub returns : goal.returns
returns c =
    subst (λ m. IfOk c.pairs_in.result (λ pairs. pairs.items ≡ pairs_of m))
    (c.in_ok-map.ensures ∙ ap (λ us. replay [] (lent us)) c.deref.ensures.value ∙ ap (replay []) (c.in_ok-ordered.ensures)
    ∙ map_ordered (option_copied c.args.below) c.args.list.now)
    c.pairs_in.ensures
