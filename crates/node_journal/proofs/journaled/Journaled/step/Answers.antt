-- A step is a plan, the record that is kept, and what was planned.
use Rattle.std.proofs.Common.{rules, ◌^◌, ◌<◌, ◌∙◌, Ok, Err, refl, arith}
use Rattle.replica_core.specs.Replicas.{empty_book}
use Rattle.replica_core.specs.Shown.{own}
use Rattle.replica_laws.specs.Steps.{book_after}
use Rattle.node_steps.specs.Pens.{pen_value}
use Rattle.node_journal.specs.Journals.{entries_of}
use Rattle.node_journal.specs.Steps.{answer_after, handed}
use Rattle.node_journal.proofs.FrameLaws.{sized-by}
use Rattle.node_journal.proofs.StepLaws.{Commits, Plans, adds-behind, commit-answers, commit-own, faulted-by, is_taken-ok, more-accepted}
use Rattle.node_journal.proofs.StepLaws.{reflects-more, short-by, signed-more, step-loses, step-stops, still-loses, taken-more, untouched}
use Rattle.node_journal.proofs.TakenLaws.{is-ok, planned-ok}
use Rattle.node_journal.proofs.journaled.Journaled.step.Goals as goal

pub write_down-requires-clause-some : goal.write_down-requires-clause-some
write_down-requires-clause-some g c =
    let me = c.args.self.now.replica in
    let pen = pen_value (g.S.Signer.spent me.pen) (g.S.Signer.left_of me.pen) in
    (sized-by (own me) c.args.now c.args.from c.args.frame.now me.parts pen me.shown
    (λ book s. (_, c.in-Ok.ensures.answer book s))).some

pub write_down-requires-clause-short : goal.write_down-requires-clause-short
write_down-requires-clause-short g c =
    let me = c.args.self.now.replica in
    let pen = pen_value (g.S.Signer.spent me.pen) (g.S.Signer.left_of me.pen) in
    (sized-by (own me) c.args.now c.args.from c.args.frame.now me.parts pen me.shown
    (λ book s. (_, c.in-Ok.ensures.answer book s))).short

pub returns-in-Ok-write_down-clause-taken : goal.returns-in-Ok-write_down-clause-taken
returns-in-Ok-write_down-clause-taken g c begun hs r =
    let h = handed c.args.now c.args.from c.args.frame.now in
    let w = commit-answers c.args.self.now.replica c.plan.new.self c.write_down.new.self.replica c.commit.new.self c.in-Ok.plan
    c.commit.result (book_after (own c.args.self.now.replica) (empty_book begun) hs) (answer_after (own c.args.self.now.replica) begun hs h)
    (record { same = c.in-Ok.ensures.same; keys = c.in-Ok.ensures.keys; pen = c.in-Ok.ensures.pen; seat = c.in-Ok.ensures.seat })
    c.in-Ok-write_down.ensures.replica
    (record {
      done = c.commit.ensures.done;
      keys = c.commit.ensures.keys;
      seat = c.commit.ensures.seat;
      fixed = c.commit.ensures.fixed;
    })
    (c.in-Ok.ensures.answer (book_after (own c.args.self.now.replica) (empty_book begun) hs) r.replica.book) r.replica.book in
    is_taken-ok hs h c.args.out.now c.append.new.out c.commit.result _ _ _ w
    (adds-behind c.args.out.now c.write_down.new.out c.append.new.out c.commit.result c.in-Ok-write_down.ensures.same_messages
    c.in-Ok-write_down.ensures.same_words (record { messages = c.append.ensures.messages; signed = c.append.ensures.words }))
    (short-by hs h (c.in-Ok-write_down.ensures.length (entries_of hs) r.disk.gate))

pub returns-in-Ok-write_down-clause-signed : goal.returns-in-Ok-write_down-clause-signed
returns-in-Ok-write_down-clause-signed g c begun hs r =
    let h = handed c.args.now c.args.from c.args.frame.now in
    let w = commit-answers c.args.self.now.replica c.plan.new.self c.write_down.new.self.replica c.commit.new.self c.in-Ok.plan
    c.commit.result (book_after (own c.args.self.now.replica) (empty_book begun) hs) (answer_after (own c.args.self.now.replica) begun hs h)
    (record { same = c.in-Ok.ensures.same; keys = c.in-Ok.ensures.keys; pen = c.in-Ok.ensures.pen; seat = c.in-Ok.ensures.seat })
    c.in-Ok-write_down.ensures.replica
    (record {
      done = c.commit.ensures.done;
      keys = c.commit.ensures.keys;
      seat = c.commit.ensures.seat;
      fixed = c.commit.ensures.fixed;
    })
    (c.in-Ok.ensures.answer (book_after (own c.args.self.now.replica) (empty_book begun) hs) r.replica.book) r.replica.book in
    signed-more (own c.args.self.now.replica) begun hs h c.args.out.now c.append.new.out c.commit.result _ _ w
    (adds-behind c.args.out.now c.write_down.new.out c.append.new.out c.commit.result c.in-Ok-write_down.ensures.same_messages
    c.in-Ok-write_down.ensures.same_words (record { messages = c.append.ensures.messages; signed = c.append.ensures.words }))

pub returns-in-Ok-write_down-clause-reflects : goal.returns-in-Ok-write_down-clause-reflects
returns-in-Ok-write_down-clause-reflects g c begun hs r =
    let h = handed c.args.now c.args.from c.args.frame.now in
    let p : Plans c.args.self.now.replica c.plan.new.self =
    record { same = c.in-Ok.ensures.same; keys = c.in-Ok.ensures.keys; pen = c.in-Ok.ensures.pen; seat = c.in-Ok.ensures.seat } in
    let d : Commits c.write_down.new.self.replica c.commit.new.self c.in-Ok.plan c.commit.result = record {
      done = c.commit.ensures.done;
      keys = c.commit.ensures.keys;
      seat = c.commit.ensures.seat;
      fixed = c.commit.ensures.fixed;
    } in
    let w = commit-answers c.args.self.now.replica c.plan.new.self c.write_down.new.self.replica c.commit.new.self c.in-Ok.plan
    c.commit.result (book_after (own c.args.self.now.replica) (empty_book begun) hs)
    (answer_after (own c.args.self.now.replica) begun hs h) p
    c.in-Ok-write_down.ensures.replica d
    (c.in-Ok.ensures.answer (book_after (own c.args.self.now.replica) (empty_book begun) hs) r.replica.book) r.replica.book in
    let same = commit-own c.args.self.now.replica c.plan.new.self c.write_down.new.self.replica c.commit.new.self c.in-Ok.plan
    c.commit.result p c.in-Ok-write_down.ensures.replica d in
    let small : c.args.now < 2 ^ 64 = omega arith in
    reflects-more c.args.self.now _ begun hs h r (c.in-Ok-write_down.ensures.ready ∙ r.ready) c.in-Ok-write_down.ensures.count
    (c.in-Ok-write_down.ensures.written (entries_of hs) r.disk)
    (taken-more c.args.self.now.replica c.commit.new.self begun hs h w.done same r.replica small w.is w.shows)

pub returns-in-Ok-write_down-clause-loses_none : goal.returns-in-Ok-write_down-clause-loses_none
returns-in-Ok-write_down-clause-loses_none g c begun hs r =
    let h = handed c.args.now c.args.from c.args.frame.now in
    let book = book_after (own c.args.self.now.replica) (empty_book begun) hs in
    let q = planned-ok (answer_after (own c.args.self.now.replica) begun hs h) _ (c.in-Ok.ensures.answer book r.replica.book) in
    let small : c.args.now < 2 ^ 64 = omega arith in
    step-loses c.args.self.now begun hs h _ (Ok tt) r (more-accepted c.args.self.now begun hs h r small (is-ok _ q.0 q.1))
    (c.in-Ok-write_down.ensures.length (entries_of hs) r.disk.gate) tt
    (λ m. c.in-Ok-write_down.ensures.loses_none m (entries_of hs) r.disk)

pub returns-in-Err-write_down-clause-taken : goal.returns-in-Err-write_down-clause-taken
returns-in-Err-write_down-clause-taken g c begun hs r =
    let h = handed c.args.now c.args.from c.args.frame.now in
    let book = book_after (own c.args.self.now.replica) (empty_book begun) hs in
    let q = planned-ok (answer_after (own c.args.self.now.replica) begun hs h) _ (c.in-Ok.ensures.answer book r.replica.book) in
    faulted-by hs h c.in-Err-write_down.fault _ (is-ok _ q.0 q.1) (c.in-Err-write_down.ensures.length (entries_of hs) r.disk.gate)

pub returns-in-Err-write_down-clause-loses_none : goal.returns-in-Err-write_down-clause-loses_none
returns-in-Err-write_down-clause-loses_none g c begun hs r =
    let h = handed c.args.now c.args.from c.args.frame.now in
    let book = book_after (own c.args.self.now.replica) (empty_book begun) hs in
    let q = planned-ok (answer_after (own c.args.self.now.replica) begun hs h) _ (c.in-Ok.ensures.answer book r.replica.book) in
    let small : c.args.now < 2 ^ 64 = omega arith in
    step-loses c.args.self.now begun hs h _ (Err c.in-Err-write_down.fault) r
    (more-accepted c.args.self.now begun hs h r small (is-ok _ q.0 q.1))
    (c.in-Err-write_down.ensures.length (entries_of hs) r.disk.gate) c.in-Err-write_down.ensures.unwritten
    (λ m. c.in-Err-write_down.ensures.loses_none m (entries_of hs) r.disk)

pub returns-in-Err-clause-loses_none : goal.returns-in-Err-clause-loses_none
returns-in-Err-clause-loses_none g c begun hs r =
    still-loses c.args.self.now begun hs (handed c.args.now c.args.from c.args.frame.now) _ r refl

pub returns-in-Err-clause-as_before : goal.returns-in-Err-clause-as_before
returns-in-Err-clause-as_before g c = search rules

pub returns-in-Err-clause-unwritten : goal.returns-in-Err-clause-unwritten
returns-in-Err-clause-unwritten g c = search rules

pub returns-in-Ok-write_down-clause-foreseen : goal.returns-in-Ok-write_down-clause-foreseen
returns-in-Ok-write_down-clause-foreseen g c begun hs stop r awaits near =
    c.in-Ok-write_down.ensures.foreseen (entries_of hs) stop r.disk awaits near

pub returns-in-Err-write_down-clause-foreseen : goal.returns-in-Err-write_down-clause-foreseen
returns-in-Err-write_down-clause-foreseen g c begun hs stop r awaits near =
    let h = handed c.args.now c.args.from c.args.frame.now in
    let book = book_after (own c.args.self.now.replica) (empty_book begun) hs in
    let q = planned-ok (answer_after (own c.args.self.now.replica) begun hs h) _ (c.in-Ok.ensures.answer book r.replica.book) in
    let small : c.args.now < 2 ^ 64 = omega arith in
    step-stops c.args.self.now begun hs h stop _ _ c.in-Err-write_down.fault r
    (more-accepted c.args.self.now begun hs h r small (is-ok _ q.0 q.1)) awaits
    (c.in-Err-write_down.ensures.length (entries_of hs) r.disk.gate) c.in-Err-write_down.ensures.untouched
    (c.in-Err-write_down.ensures.foreseen (entries_of hs) stop r.disk awaits near)

pub returns-in-Err-clause-untouched : goal.returns-in-Err-clause-untouched
returns-in-Err-clause-untouched g c = search rules

pub returns-in-Err-clause-foreseen : goal.returns-in-Err-clause-foreseen
returns-in-Err-clause-foreseen g c begun hs stop r awaits near = untouched _ stop _ _ _ awaits refl
