use Rattle.std.proofs.Common.{rules, [], Err, ◌++◌, ◌≤◌, ◌∙◌, length, refl, take}
use Rattle.std.proofs.KnownBytes.{Consumes-trans}
use Rattle.schedule_replay.proofs.RoadLaws.{carries_as, carries_both, carries_none}
use Rattle.schedule_replay.specs.Roads.{road_with}
use Rattle.schedule_commands.specs.TextLines.{is_settled}
use Rattle.command_input.specs.Reading.{longest_piece}
use Rattle.command_input.specs.declared.input.InputFail.TheVariants as input
use Rattle.schedule_commands.proofs.Behind.{can_end, fault_told, fault_through, later_on, nothing_taken}
use Rattle.schedule_commands.proofs.Behind.{outcomes, soons, throughs, unended, unread, untold, whole_through, whole_told}
use Rattle.command_input.proofs.Stopping.{consumes-more, nothing_read, stops_behind, stops_failed, stops_there}
use Rattle.schedule_commands.proofs.replay.replay.Goals as goal

pub turns-init : goal.turns-init
turns-init g c = record {
  so_far = record {
    read = [];
    consumed = nothing_read (g.S.Source.left c.args.source.now);
    behind = carries_none c.args.carried refl (c.new-reading.ensures c.args.carried);
  };
  faults = refl;
  unused = λ h. refl;
  link_faults = refl;
}

-- ---- the source gave its last bytes

pub ended-requires : goal.ended-requires
ended-requires g c = let s = c.turns.invariant.so_far in (s.behind.gave, s.read, s.behind.should)

pub returns-in-Ok-eq0-clause-outcome : goal.returns-in-Ok-eq0-clause-outcome
returns-in-Ok-eq0-clause-outcome g c =
    let s = c.turns.invariant.so_far in
    let old = g.S.Source.left c.args.source.now in
    let new = g.S.Source.left c.read.new.self in
    outcomes c.args.carried (g.L.Links.told c.args.links.now) (g.L.Links.told c.ended.new.links) old s.read c.ended.result
    (carries_both c.args.carried s.behind c.ended.ensures.outcome
    (λ gave more has outcome later.
    whole_told (road_with c.args.carried ((gave ++ more) ++ later)) (road_with c.args.carried later) c.ended.result old new s.read
    (consumes-more old (g.S.Source.left c.turns.source) new s.read (take c.in-Ok-eq0.field-0 c.read.new.buf) s.read
    (nothing_taken s.read c.read.new.buf c.in-Ok-eq0.field-0 (search rules)) s.consumed c.in-Ok-eq0.ensures.bytes.0)
    (c.in-Ok-eq0.ensures.bytes.1 (search rules) (search rules)) (outcome gave later s.read has)))

pub returns-in-Ok-eq0-clause-through : goal.returns-in-Ok-eq0-clause-through
returns-in-Ok-eq0-clause-through g c =
    let s = c.turns.invariant.so_far in
    let old = g.S.Source.left c.args.source.now in
    let new = g.S.Source.left c.read.new.self in
    throughs c.args.carried (g.L.Links.told c.args.links.now)
    (g.L.Links.told c.ended.new.links) old c.ended.result (g.S.Source.left c.read.new.self)
    (carries_both c.args.carried s.behind c.ended.ensures.outcome
    (λ gave more has outcome later.
    whole_through (road_with c.args.carried ((gave ++ more) ++ later)) (road_with c.args.carried later) c.ended.result old new s.read
    (consumes-more old (g.S.Source.left c.turns.source) new s.read (take c.in-Ok-eq0.field-0 c.read.new.buf) s.read
    (nothing_taken s.read c.read.new.buf c.in-Ok-eq0.field-0 (search rules)) s.consumed c.in-Ok-eq0.ensures.bytes.0)
    (c.in-Ok-eq0.ensures.bytes.1 (search rules) (search rules))))

pub returns-in-Ok-eq0-clause-soon : goal.returns-in-Ok-eq0-clause-soon
returns-in-Ok-eq0-clause-soon g c =
    let s = c.turns.invariant.so_far in
    let fits : length c.read.new.buf ≤ longest_piece = search rules in
    soons c.args.carried (g.L.Links.told c.args.links.now)
    (g.L.Links.told c.ended.new.links) (g.S.Source.left c.args.source.now) (g.S.Source.left c.read.new.self)
    (carries_both c.args.carried s.behind c.ended.ensures.outcome
    (λ gave more has outcome later.
    let road = road_with c.args.carried ((gave ++ more) ++ later) in
    stops_behind (is_settled road) (g.S.Source.left c.args.source.now) (g.S.Source.left c.turns.source) (g.S.Source.left c.read.new.self)
    s.read c.read.new.buf c.in-Ok-eq0.field-0
    (unread road (road_with c.args.carried (more ++ later)) c.turns.reading s.read
    (later_on c.args.carried c.turns.reading gave more later s.read has)) fits s.consumed c.in-Ok-eq0.ensures.bytes.0))

-- ---- the source failed

pub returns-in-Err-clause-outcome : goal.returns-in-Err-clause-outcome
returns-in-Err-clause-outcome g c =
    let old = g.S.Source.left c.args.source.now in
    outcomes c.args.carried (g.L.Links.told c.args.links.now) (g.L.Links.told c.turns.links) old [] (Err input.Failed)
    (carries_as c.args.carried c.turns.invariant.so_far.behind (λ gave has later. unended old []))

pub returns-in-Err-clause-through : goal.returns-in-Err-clause-through
returns-in-Err-clause-through g c =
    let old = g.S.Source.left c.args.source.now in
    throughs c.args.carried (g.L.Links.told c.args.links.now)
    (g.L.Links.told c.turns.links) old (Err input.Failed) (g.S.Source.left c.read.new.self)
    (carries_as c.args.carried c.turns.invariant.so_far.behind (λ gave has later. untold old))

pub returns-in-Err-clause-soon : goal.returns-in-Err-clause-soon
returns-in-Err-clause-soon g c =
    let s = c.turns.invariant.so_far in
    soons c.args.carried (g.L.Links.told c.args.links.now)
    (g.L.Links.told c.turns.links) (g.S.Source.left c.args.source.now) (g.S.Source.left c.read.new.self)
    (carries_as c.args.carried s.behind
    (λ gave has later.
    let road = road_with c.args.carried (gave ++ later) in
    stops_failed (is_settled road) (g.S.Source.left c.args.source.now) (g.S.Source.left c.turns.source) (g.S.Source.left c.read.new.self)
    s.read (unread road (road_with c.args.carried later) c.turns.reading s.read (has later)) s.consumed c.in-Err.ensures.bytes))

-- ---- a piece was taken

pub take-requires : goal.take-requires
take-requires g c = let s = c.turns.invariant.so_far in (s.behind.gave, s.read, s.behind.should)

pub turns-preserved : goal.turns-preserved
turns-preserved g c =
    let s = c.turns.invariant.so_far in
    record {
      so_far = record {
        read = s.read ++ take c.in-Ok.count c.read.new.buf;
        consumed = Consumes-trans _ _ _ s.read (take c.in-Ok.count c.read.new.buf) s.consumed c.in-Ok.ensures.bytes.0;
        behind =
            carries_both c.args.carried s.behind c.in-Ok-take.ensures.reads (λ gave more has reads later. reads gave later s.read has);
      };
      faults = search rules;
      unused = λ h. c.in-Ok-take.ensures.links.unused h ∙ c.turns.invariant.unused h;
      link_faults = c.in-Ok-take.ensures.links.kept refl ∙ c.turns.invariant.link_faults;
    }

pub ending_of-requires : goal.ending_of-requires
ending_of-requires g c =
    let s = c.turns.invariant.so_far in
    can_end _ _ c.in-Err-take.fault _ (c.in-Err-take.ensures.reads.should s.behind.gave [] s.read s.behind.should)

pub returns-in-Err-take-clause-outcome : goal.returns-in-Err-take-clause-outcome
returns-in-Err-take-clause-outcome g c =
    let s = c.turns.invariant.so_far in
    outcomes c.args.carried (g.L.Links.told c.args.links.now)
    (g.L.Links.told c.take.new.links) (g.S.Source.left c.args.source.now) (s.read ++ take c.in-Ok.count c.read.new.buf) c.ending_of.result
    (carries_both c.args.carried s.behind c.in-Err-take.ensures.reads
    (λ gave more has reads later.
    fault_told (road_with c.args.carried ((gave ++ more) ++ later)) (road_with c.args.carried later) c.ending_of.result _ _
    (s.read ++ take c.in-Ok.count c.read.new.buf) c.in-Err-take.fault
    (Consumes-trans _ _ _ s.read (take c.in-Ok.count c.read.new.buf) s.consumed c.in-Ok.ensures.bytes.0) (reads gave later s.read has)
    c.ending_of.ensures.outcome c.ending_of.ensures.decides))

pub returns-in-Err-take-clause-through : goal.returns-in-Err-take-clause-through
returns-in-Err-take-clause-through g c =
    let s = c.turns.invariant.so_far in
    throughs c.args.carried (g.L.Links.told c.args.links.now)
    (g.L.Links.told c.take.new.links) (g.S.Source.left c.args.source.now) c.ending_of.result (g.S.Source.left c.read.new.self)
    (carries_both c.args.carried s.behind c.in-Err-take.ensures.reads
    (λ gave more has reads later.
    fault_through (road_with c.args.carried ((gave ++ more) ++ later)) (road_with c.args.carried later) c.ending_of.result _ _
    (s.read ++ take c.in-Ok.count c.read.new.buf) c.in-Err-take.fault
    (Consumes-trans _ _ _ s.read (take c.in-Ok.count c.read.new.buf) s.consumed c.in-Ok.ensures.bytes.0) (reads gave later s.read has)
    c.ending_of.ensures.decides))

pub returns-in-Err-take-clause-soon : goal.returns-in-Err-take-clause-soon
returns-in-Err-take-clause-soon g c =
    let s = c.turns.invariant.so_far in
    let fits : length c.read.new.buf ≤ longest_piece = search rules in
    soons c.args.carried (g.L.Links.told c.args.links.now)
    (g.L.Links.told c.take.new.links) (g.S.Source.left c.args.source.now) (g.S.Source.left c.read.new.self)
    (carries_both c.args.carried s.behind c.in-Err-take.ensures.reads
    (λ gave more has reads later.
    let road = road_with c.args.carried ((gave ++ more) ++ later) in
    stops_behind (is_settled road) (g.S.Source.left c.args.source.now) (g.S.Source.left c.turns.source) (g.S.Source.left c.read.new.self)
    s.read c.read.new.buf c.in-Ok.count
    (unread road (road_with c.args.carried (more ++ later)) c.turns.reading s.read
    (later_on c.args.carried c.turns.reading gave more later s.read has)) fits s.consumed c.in-Ok.ensures.bytes.0))

-- ---- memory is wanting

pub returns-clause-outcome : goal.returns-clause-outcome
returns-clause-outcome g c =
    let old = g.S.Source.left c.args.source.now in
    outcomes c.args.carried (g.L.Links.told c.args.links.now) (g.L.Links.told c.turns.links) old [] (Err input.NoMemory)
    (carries_as c.args.carried c.turns.invariant.so_far.behind (λ gave has later. unended old []))

pub returns-clause-through : goal.returns-clause-through
returns-clause-through g c =
    let old = g.S.Source.left c.args.source.now in
    throughs c.args.carried (g.L.Links.told c.args.links.now)
    (g.L.Links.told c.turns.links) old (Err input.NoMemory) (g.S.Source.left c.turns.source)
    (carries_as c.args.carried c.turns.invariant.so_far.behind (λ gave has later. untold old))

pub returns-clause-soon : goal.returns-clause-soon
returns-clause-soon g c =
    let s = c.turns.invariant.so_far in
    soons c.args.carried (g.L.Links.told c.args.links.now)
    (g.L.Links.told c.turns.links) (g.S.Source.left c.args.source.now) (g.S.Source.left c.turns.source)
    (carries_as c.args.carried s.behind
    (λ gave has later.
    let road = road_with c.args.carried (gave ++ later) in
    stops_there (is_settled road) (g.S.Source.left c.args.source.now) (g.S.Source.left c.turns.source) s.read
    (unread road (road_with c.args.carried later) c.turns.reading s.read (has later)) s.consumed))
