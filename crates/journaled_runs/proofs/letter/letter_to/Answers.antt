use Rattle.std.proofs.Common.{◌∙◌, Some, sym, ap, arith}
use Rattle.cluster_run.specs.Parts.{replica_self}
use Rattle.run_journals.specs.Journals.{journal_at}
use Rattle.journaled_runs.specs.Handing.{hand}
use Rattle.journaled_runs.specs.Shown.{pen_of}
use Rattle.journaled_runs.proofs.Letters.{bytes_from, hands_letter, no_journal, no_moment, to_client}
use Rattle.journaled_runs.proofs.Places.{one_or}
use Rattle.journaled_runs.proofs.letter.letter_to.Goals as goal

pub returns-then-not-has : goal.returns-then-not-has
returns-then-not-has g c = λ s x e shows keeps at.
    no_journal s x e c.args.from c.args.frame.now c.in-Replica.shard c.in-Replica.index
    (at ∙ ap (λ to. Some (hand c.args.from to c.args.frame.now)) c.in-Replica.is)
    (sym (c.has.ensures (replica_self s) (pen_of s) x.journals keeps.holds) ∙ c.if-not-has.true)

pub returns-in-None : goal.returns-in-None
returns-in-None g c = λ s x e shows keeps at.
    no_moment s x e c.args.from c.args.frame.now c.in-Replica.shard c.in-Replica.index
    (at ∙ ap (λ to. Some (hand c.args.from to c.args.frame.now)) c.in-Replica.is)
    (sym (c.moment.ensures s x.state shows) ∙ c.in-None.is)

pub returns-in-Some : goal.returns-in-Some
returns-in-Some g c = λ s x e shows keeps at.
    let has = one_or (journal_at x.journals c.in-Replica.shard c.in-Replica.index)
    (sym (c.has.ensures (replica_self s) (pen_of s) x.journals keeps.holds) ∙ c.if-not-has.false) in
    hands_letter s x e (record {
      shard = c.in-Replica.shard;
      index = c.in-Replica.index;
      moment = c.in-Some.moment;
      from = c.args.from;
      frame = c.args.frame;
    })
    (at ∙ ap (λ to. Some (hand c.args.from to c.args.frame.now)) c.in-Replica.is)
    has.0 has.1 (keeps.own c.in-Replica.shard c.in-Replica.index has.0 has.1)
    (sym (c.moment.ensures s x.state shows) ∙ c.in-Some.is) (bytes_from c.args.frame.now (λ i. omega (arith, c.type_inv.frame i)))

pub returns-in-Client : goal.returns-in-Client
returns-in-Client g c = λ s x e shows keeps at.
    to_client s x e c.args.from c.args.frame.now c.in-Client.number
    (at ∙ ap (λ to. Some (hand c.args.from to c.args.frame.now)) c.in-Client.is)
