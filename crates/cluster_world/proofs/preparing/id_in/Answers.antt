use Rattle.cluster_world.proofs.PrepareLaws.{id_told}
use Rattle.cluster_world.proofs.preparing.id_in.Goals as goal

pub returns : goal.returns
returns c =
    id_told c.in_ok-formed.formed.now c.id.result _ c.transaction.result.now c.id.ensures c.transaction.ensures.value c.in_ok-formed.ensures
