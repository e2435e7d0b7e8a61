use Rattle.std.proofs.Common.{ap}
use Rattle.std.specs.Prelude.{codes}
use Rattle.report_lines.specs.Lines.{end_line}
use Rattle.schedule_replay.specs.Totals.{total_line}
use Rattle.schedule_replay.proofs.Reporting.{four_parts}
use Rattle.schedule_replay.proofs.totals.totals_of.Goals as goal

pub returns : goal.returns
returns c = λ r h.
    four_parts c.new-out.result.items _ _ _ c.put_end.new.out.items _ _ _ _ c.new-out.ensures.items c.in_ok-put_total.ensures
    c.in_ok-put_total-2.ensures c.in_ok-put_total-3.ensures c.in_ok-put_end.ensures.appended
    _ _ _ _ (ap (λ n. total_line (codes "commit") n) (c.total_of.ensures r h))
    (ap (λ n. total_line (codes "abort") n) (c.total_of-2.ensures r h))
    (ap (λ n. total_line (codes "open") n) (c.total_of-3.ensures r h)) (ap end_line (c.messages.ensures r.setup r.state h.shows))
