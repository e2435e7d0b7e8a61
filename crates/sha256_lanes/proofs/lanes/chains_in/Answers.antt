use Rattle.sha256_lanes.proofs.LaneLaws.{below_eight}
use Rattle.sha256_lanes.proofs.lanes.chains_in.Goals as goal

pub returns-clause-small : goal.returns-clause-small
returns-clause-small c =
    below_eight _ c.chain_in.ensures.small c.chain_in-2.ensures.small c.chain_in-3.ensures.small c.chain_in-4.ensures.small
    c.chain_in-5.ensures.small c.chain_in-6.ensures.small c.chain_in-7.ensures.small c.chain_in-8.ensures.small
