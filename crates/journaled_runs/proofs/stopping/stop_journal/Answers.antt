use Rattle.std.proofs.Common.{◌∙◌, sym, ap, subst}
use Rattle.basil_types.specs.declared.party.Party.TheVariants.{Replica}
use Rattle.cluster_run.specs.Parts.{replica_self}
use Rattle.cluster_run.specs.States.{KitValue}
use Rattle.journaled_runs.specs.Shown.{Holds, pen_of}
use Rattle.journaled_runs.proofs.Answering.{stopped_it, took_it}
use Rattle.journaled_runs.proofs.stopping.stop_journal.Goals as goal

pub returns : goal.returns
returns g c = λ s x e kit holds hands room.
    let l = c.args.letter.now in
    let is = c.in_ok-took.ensures.took (replica_self s) (pen_of s) x.journals holds in
    let of = c.in_ok-own.ensures.kit in
    record {
      took_is = c.is_taken.ensures ∙ took_it s x e l hands room c.in_ok-took.took is;
      holds = subst (Holds s c.stop.new.self) (stopped_it s x e l hands room c.in_ok-took.took is c.args.stop)
          (c.in_ok-took.ensures.journals (replica_self s) (pen_of s) x.journals holds
          (record {
            accepted = of.accepted ∙ sym (ap (λ (w : KitValue). w.accepts) kit);
            signed = of.signed ∙ sym (ap (λ (w : KitValue). w.signing (Replica l.shard l.index)) kit);
            begins = of.begins ∙ sym (ap (λ (w : KitValue). w.pen (Replica l.shard l.index)) kit);
          }));
    }
