use Rattle.std.proofs.lemmas.Result.{on_ok_weaker}
use Rattle.client_core.specs.Keeping.{told_state}
use Rattle.schedule_replay.proofs.Reporting.{is_read, unchosen}
use Rattle.schedule_replay.proofs.course.Course.put_read.Goals as goal

pub returns-then-not-is_chosen : goal.returns-then-not-is_chosen
returns-then-not-is_chosen c = λ r t.
    unchosen c.args.self.now c.args.places.now.entries r t c.args.tx c.args.key.now c.as_slice.result.now
    (told_state c.value-state.result) (c.value-state.ensures r.setup r.state t.stands.shows) c.as_slice.ensures c.is_chosen.result
    (c.is_chosen.ensures r) c.args.out.now.items c.if-not-is_chosen.true

pub returns : goal.returns
returns c =
    on_ok_weaker c.put.result
    (λ put r t.
    is_read c.args.self.now c.args.places.now.entries r t c.args.tx c.args.key.now c.as_slice.result.now
    (told_state c.value-state.result) (c.value-state.ensures r.setup r.state t.stands.shows) c.as_slice.ensures c.is_chosen.result
    (c.is_chosen.ensures r) c.args.out.now.items c.put_asked.new.out.items c.put_chosen.new.out.items c.put.new.out.items
    c.at.result.now c.as_slice-2.result.now c.if-not-is_chosen.false c.at.ensures c.as_slice-2.ensures c.in_ok-put_asked.ensures.appended
    (c.in_ok-put_chosen.ensures r t) put)
    c.put.ensures.appended
