use Rattle.mv_store.proofs.MemberLaws.{stands_by_elements}
use Rattle.mv_store.proofs.laws.order_decides_nothing.Goals as goal

pub returns : goal.returns
returns c store held others noted other_reads s same same_reads = stands_by_elements store held others noted other_reads s same same_reads
