use Rattle.std.proofs.Common.{rules, ◌≡◌, ◌++◌, ◌∷◌, []}
use Rattle.journal_records.proofs.RecordLaws.{spelled-of}
use Rattle.journal_records.proofs.spelled.SpelledRecord.new.Goals as goal

pub invariant_of-result : goal.invariant_of-result
invariant_of-result c =
    let are : c.push.new.self.items ≡ ((c.to_be_bytes.result ++ c.args.front.now) ++ c.args.rest.now) ++ 0 ∷ [] = search rules in
    spelled-of c.args.front.now c.args.rest.now c.to_be_bytes.result _ c.requires c.to_be_bytes.ensures are
