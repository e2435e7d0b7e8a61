-- The fault of a node whose links failed.
use Rattle.basil_types.specs.declared.links.LinkFail.{LinkFail}
use Rattle.basil_types.specs.declared.links.LinkFail.TheVariants as fails
use Rattle.node_link.specs.declared.fault.ServeFault.{ServeFault}
use Rattle.node_link.specs.declared.fault.ServeFault.TheVariants.{LinkFault, NoMemory}

abbrev pub fault_of : LinkFail → ServeFault
fault_of fails.Failed = LinkFault
fault_of fails.NoMemory = NoMemory
