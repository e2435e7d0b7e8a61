use Rattle.std.proofs.Common.{◌≡◌, ◌∙◌, refl, sym, ap}
use Rattle.std.specs.Prelude.{Option, Some, None, option_map}
use Rattle.std.proofs.lemmas.Option.{same_Some}
use Rattle.basil_types.specs.declared.party.Party.{Party}
use Rattle.cluster_run.specs.Parts.{Mail}
use Rattle.cluster_run.specs.States.{Posted, posted_at}
use Rattle.cluster_run.specs.Telling.{as_mail}
use Rattle.cluster_world.specs.Telling.{told_mail}
use Rattle.journaled_runs.proofs.Letters.{ends}
use Rattle.journaled_runs.proofs.letter.parties_of.Goals as goal

abbrev of_mail : Mail → Party × Party
of_mail m = (m.from, m.to)

-- the parties of what is told
parties : (m : Mail) (o : Option Posted) → Some m ≡ option_map as_mail o → Some (of_mail m) ≡ option_map ends o
parties m None e = absurd cc
parties m (Some p) e = ap (λ q. Some (of_mail q)) (same_Some m (as_mail p) e)

no_parties : (o : Option Posted) → ◌≡◌ {A = Option Mail} None (option_map as_mail o) →
    ◌≡◌ {A = Option (Party × Party)} None (option_map ends o)
no_parties None e = refl
no_parties (Some p) e = absurd cc

pub returns-in-Some : goal.returns-in-Some
returns-in-Some g c = λ s st shows.
    parties (record { from = c.in-Some.from; to = c.in-Some.to; frame = c.in-Some.field-0-2.now }) (posted_at st c.args.message)
    (sym (ap (option_map told_mail) c.in-Some.is) ∙ c.frame.ensures s st shows)

pub returns-in-None : goal.returns-in-None
returns-in-None g c = λ s st shows.
    no_parties (posted_at st c.args.message) (sym (ap (option_map told_mail) c.in-None.is) ∙ c.frame.ensures s st shows)
