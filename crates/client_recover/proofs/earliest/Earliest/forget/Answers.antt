use Rattle.std.proofs.Common.{◌<◌, None, Some, arith, ap, cond, refl, sym, ◌∙◌}
use Rattle.std.specs.Map.{lookup}
use Rattle.client_recover.specs.Firsts.{Key, Parts, number_of, same_key, same_logged}
use Rattle.client_recover.proofs.FirstLaws.{counts_less, counts_same, either, never_absent}
use Rattle.client_recover.proofs.earliest.Earliest.forget.Goals as goal
use Rattle.client_recover.proofs.earliest.Earliest.forget.Goals.{in-Some, in-None}

pub invariant_of-self : goal.invariant_of-self
invariant_of-self c =
    let parts = c.self.inside.parts.entries in
    let left = c.swap_remove.new.self.entries in
    let was = c.self.inside.counts.entries in
    let p = c.args.logged in
    let n = c.number-number.result in
    let low : c.args.replica < 256 = omega (arith, c.ranges.replica.fits) in
    let there = sym c.swap_remove.ensures.value ∙ c.in-Some.is in
    let is = c.number-number.ensures ∙ sym (ap (λ (ps : Parts). number_of ps p) c.self.view_is) in
    let taken = c.swap_remove.ensures.updates.0 in
    either c.insert.result c.insert.ensures.updates c.insert.ensures.absent
    (λ u. counts_less parts left was p c.args.replica c.in-Some.field-0 n c.self.invariant low there is taken c.insert.new.self.entries
    (λ q. u.0 q ∙ ap (λ m. cond (same_logged p q) (Some m) (lookup (same_logged q) was)) c.saturating_sub.ensures))
    (λ none. absurd (never_absent parts left was p c.args.replica c.in-Some.field-0 n c.self.invariant low there is taken none))

pub invariant_of-self-in-None : goal.invariant_of-self-in-None
invariant_of-self-in-None c =
    counts_same c.self.inside.parts.entries c.swap_remove.new.self.entries c.self.inside.counts.entries _ c.self.invariant
    (λ k. ap (λ (es : Parts). lookup (same_key k) es) c.in-None.ensures.unchanged) (λ q. refl)

pub returns : goal.returns
returns c k =
    let key : Key = (c.args.logged.0, c.args.logged.1, c.args.replica) in
    let done = c.swap_remove.ensures.updates.0 k
    ∙ ap (λ (es : Parts). cond (same_key key k) None (lookup (same_key k) es)) c.self.view_is in
    elim c.match-swap_remove.branch [
      | in-Some w ↦ ap (λ (es : Parts). lookup (same_key k) es) w.self-is ∙ done
      | in-None w ↦ ap (λ (es : Parts). lookup (same_key k) es) w.self-is ∙ done
    ]
