use Rattle.std.proofs.Common.{ap, ◌∙◌}
use Rattle.std.specs.List.{flat_map}
use Rattle.std.proofs.lemmas.Result.{on_ok_weaker}
use Rattle.basil_types.specs.Replayed.{map_of}
use Rattle.serial_audit.specs.Maps.{pairs_of}
use Rattle.report_lines.specs.Lines.{key_line}
use Rattle.schedule_replay.specs.Reports.{key_lines}
use Rattle.schedule_replay.proofs.Reporting.{appended}
use Rattle.schedule_replay.proofs.course.Course.put_keys.Goals as goal

pub returns : goal.returns
returns c =
    on_ok_weaker c.put_pairs.result
    (λ put r s.
    appended c.args.out.now.items c.put_pairs.new.out.items (flat_map key_line c.deref-2.result.now) (key_lines r.state) put
    (ap (flat_map key_line) (c.deref-2.ensures.value ∙ c.in_ok-pairs.ensures
    ∙ ap (λ ts. pairs_of (map_of ts)) (c.deref.ensures.value ∙ c.in_ok-committed.ensures r.setup r.state s.shows))))
    c.put_pairs.ensures.appended
