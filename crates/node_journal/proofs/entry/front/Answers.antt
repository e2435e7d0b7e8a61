use Rattle.node_journal.proofs.EntryLaws.{front-is}
use Rattle.node_journal.proofs.entry.front.Goals as goal

pub returns : goal.returns
returns c =
    front-is c.args.now c.args.from c.to_be_bytes.result c.party_bytes.result c.to_be_bytes.ensures c.party_bytes.ensures
