use Rattle.std.proofs.Common.{None, Some, refl, subst, sym, ◌<◌, ◌∙◌, length}
use Rattle.cluster_world.specs.EventValues.{event_value}
use Rattle.schedule_replay.proofs.Stepping.{has_journal, one_happened, one_idle, one_stops, stops_so}
use Rattle.schedule_replay.proofs.course.Course.one.Goals as goal

pub stop-requires-clause-write : goal.stop-requires-clause-write
stop-requires-clause-write c =
    let x = c.in-Stop in
    (stops_so x.shard x.replica x.message x.write x.bytes c.args.line.now x.is c.requires.stop).0

pub stop-requires-clause-bytes : goal.stop-requires-clause-bytes
stop-requires-clause-bytes c =
    let x = c.in-Stop in
    subst (λ b. 0 < length b) (sym (c.in_ok-bytes-in-Stop.ensures ∙ c.as_slice.ensures))
    (stops_so x.shard x.replica x.message x.write x.bytes c.args.line.now x.is c.requires.stop).1

pub returns-in_ok-bytes-in-Stop-clause-goes : goal.returns-in_ok-bytes-in-Stop-clause-goes
returns-in_ok-bytes-in-Stop-clause-goes c = λ r h has.
    let x = c.in-Stop in
    one_stops x.shard x.replica x.message x.write x.bytes c.args.line.now x.is r c.stop.new.self c.args.given.now
    c.in_ok-bytes-in-Stop.bytes c.stop.result (c.in_ok-bytes-in-Stop.ensures ∙ c.as_slice.ensures)
    (c.stop.ensures.goes r h (has_journal x.shard x.replica x.message x.write x.bytes c.args.line.now x.is r has))

pub returns-in-Some : goal.returns-in-Some
returns-in-Some c = record {
  goes = λ r h has.
      one_happened r c.args.self.now c.args.given.now c.args.line.now h.names c.in_default.not-Stop
      (Some (event_value c.in-Some.event)) c.in-Some.ensures c.step.new.self (event_value c.in-Some.event) c.step.result refl
      (c.step.ensures.goes r h);
  names = c.step.ensures.names;
  going = c.step.ensures.going;
}

pub returns-in-None : goal.returns-in-None
returns-in-None c = record {
  goes = λ r h has.
      one_idle r c.args.self.now c.args.given.now c.args.line.now h.names c.in_default.not-Stop None c.in-None.ensures
      c.args.self.now refl h;
  names = refl;
  going = λ e. c.requires.going;
}
