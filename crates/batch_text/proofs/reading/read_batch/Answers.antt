use Rattle.std.proofs.Common.{rules, ◌≡◌, Ok}
use Rattle.line_fields.specs.TextLines.{lines_of}
use Rattle.batch_text.specs.Texts.{batch_in}
use Rattle.batch_text.proofs.Growing.{batch-some}
use Rattle.batch_text.proofs.reading.read_batch.Goals as goal

pub returns-clause-some : goal.returns-clause-some
returns-clause-some c =
    let read : batch_in c.args.bytes.now ≡ Ok c.add_lines.new.batch = search rules in
    batch-some (lines_of c.args.bytes.now) c.add_lines.new.batch read
