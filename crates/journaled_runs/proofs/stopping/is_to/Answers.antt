use Rattle.std.proofs.Common.{◌≡◌, ◌∙◌, false, refl, sym, ap}
use Rattle.std.proofs.lemmas.Option.{same_Some}
use Rattle.std.specs.Option.{option_map_or}
use Rattle.std.specs.Prelude.{Option, Some, None, option_map}
use Rattle.basil_types.specs.declared.party.Party.{Party}
use Rattle.basil_types.specs.declared.party.Party.TheVariants.{Replica}
use Rattle.cluster_run.specs.Parts.{Mail}
use Rattle.cluster_run.specs.States.{Posted, posted_at}
use Rattle.cluster_run.specs.Telling.{as_mail}
use Rattle.cluster_world.specs.Telling.{told_mail}
use Rattle.txn_table.specs.Entries.{same_party}
use Rattle.journaled_runs.proofs.stopping.is_to.Goals as goal

told_to : (who : Party) (m : Mail) (o : Option Posted) → Some m ≡ option_map as_mail o →
    same_party who m.to ≡ option_map_or (λ (p : Posted). same_party who p.to) o false
told_to who m None e = absurd cc
told_to who m (Some p) e = ap (λ (q : Mail). same_party who q.to) (same_Some m (as_mail p) e)

told_none : (who : Party) (o : Option Posted) → ◌≡◌ {A = Option Mail} None (option_map as_mail o) →
    false ≡ option_map_or (λ (p : Posted). same_party who p.to) o false
told_none who None e = refl
told_none who (Some p) e = absurd cc

pub returns-in-Some : goal.returns-in-Some
returns-in-Some g c = λ s st shows.
    c.is_replica.ensures
    ∙ told_to (Replica c.args.shard c.args.index)
    (record { from = c.in-Some.field-0-0; to = c.in-Some.to; frame = c.in-Some.field-0-2.now }) (posted_at st c.args.message)
    (sym (ap (option_map told_mail) c.in-Some.is) ∙ c.frame.ensures s st shows)

pub returns-in-None : goal.returns-in-None
returns-in-None g c = λ s st shows.
    told_none (Replica c.args.shard c.args.index) (posted_at st c.args.message)
    (sym (ap (option_map told_mail) c.in-None.is) ∙ c.frame.ensures s st shows)
