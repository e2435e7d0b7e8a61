use Rattle.std.proofs.Common.{ℕ, ap, sym}
use Rattle.std.specs.Option.{option_copied, option_map_or}
use Rattle.client_recover.proofs.FirstLaws.{number_told}
use Rattle.client_recover.proofs.earliest.Earliest.number.Goals as goal

pub returns-in-Some : goal.returns-in-Some
returns-in-Some c =
    number_told c.self.inside.parts.entries c.self.inside.counts.entries c.args.logged _ (option_copied c.get.result) c.self.invariant
    c.get.ensures.value (ap (λ o. option_map_or (λ (n : ℕ). n) (option_copied o) 0) (sym c.in-Some.is)) c.args.self.now c.self.view_is

pub returns-in-None : goal.returns-in-None
returns-in-None c =
    number_told c.self.inside.parts.entries c.self.inside.counts.entries c.args.logged _ (option_copied c.get.result) c.self.invariant
    c.get.ensures.value (ap (λ o. option_map_or (λ (n : ℕ). n) (option_copied o) 0) (sym c.in-None.is)) c.args.self.now c.self.view_is
