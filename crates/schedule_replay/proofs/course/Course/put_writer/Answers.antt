use Rattle.std.proofs.Common.{◌∙◌}
use Rattle.std.proofs.lemmas.Result.{on_ok_weaker}
use Rattle.schedule_replay.specs.Reports.{writer_token}
use Rattle.schedule_replay.proofs.Reporting.{appended, writer_named, writer_spelled}
use Rattle.schedule_replay.proofs.course.Course.put_writer.Goals as goal

pub returns-in-Some : goal.returns-in-Some
returns-in-Some c =
    on_ok_weaker c.put.result
    (λ put r t.
    appended c.args.out.now.items c.put.new.out.items c.at.result.now (writer_token r c.args.writer.now) put
    (writer_named c.args.self.now c.args.places.now.entries r t c.args.writer.now c.in-Some.tx.now c.at.result.now c.in-Some.ensures.value
    c.at.ensures))
    c.put.ensures.appended

pub returns-in_ok-spelled-in-None : goal.returns-in_ok-spelled-in-None
returns-in_ok-spelled-in-None c =
    on_ok_weaker c.put-in-None.result
    (λ put r t.
    appended c.args.out.now.items c.put-in-None.new.out.items c.as_bytes.result.now (writer_token r c.args.writer.now) put
    (writer_spelled c.args.self.now c.args.places.now.entries r t c.args.writer.now c.as_bytes.result.now c.in-None.ensures.value
    (c.as_bytes.ensures.value ∙ c.in_ok-spelled-in-None.ensures)))
    c.put-in-None.ensures.appended
