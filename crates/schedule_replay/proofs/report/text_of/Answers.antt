use Rattle.schedule_replay.specs.Telling.{Tells}
use Rattle.schedule_replay.proofs.Reporting.{whole_report}
use Rattle.schedule_replay.proofs.report.text_of.Goals as goal

pub returns : goal.returns
returns c = λ r s.
    let t : Tells c.args.course.now c.in_ok-places.places.entries r = record { stands = s; first = c.in_ok-places.ensures r s } in
    whole_report r c.new-out.result.items c.put_transactions.new.out.items c.put_keys.new.out.items c.put_end.new.out.items
    c.messages.result c.new-out.ensures.items (c.in_ok-put_transactions.ensures r t) (c.in_ok-put_keys.ensures r s)
    (c.messages.ensures r.setup r.state s.shows) c.in_ok-put_end.ensures.appended
