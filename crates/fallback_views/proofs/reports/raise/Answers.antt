use Rattle.std.proofs.Common.{◌≡◌, ◌+◌, ◌*◌, max, ap, ◌∙◌, sym, arith}
use Rattle.fallback_views.specs.Views.{reached_by, caught_up}
use Rattle.fallback_views.proofs.ViewLaws.{over-backed, caught_up-never_falls, caught_up-backed}
use Rattle.fallback_views.proofs.reports.raise.Goals as goal

pub returns-in-Some-clause-backed : goal.returns-in-Some-clause-backed
returns-in-Some-clause-backed c up =
    let f = ap (λ s. s.f) c.cluster.view_is in
    let is = c.max.ensures ∙ ap (λ n. max n c.args.current) c.saturating_add.ensures in
    omega (
      arith,
      f,
      c.from-faulty.ensures,
      over-backed (3 * c.from-faulty.result + 1)
          18446744073709551615 c.args.views.now c.args.current c.in-Some.over c.max.result (sym c.in-Some.ensures) is up,
    )

pub returns-clause-never_falls : goal.returns-clause-never_falls
returns-clause-never_falls c =
    let is : c.unwrap_or.result ≡ caught_up (reached_by (c.from-faulty.result + 1) c.args.views.now) c.args.current = cc in
    omega (arith, is, caught_up-never_falls (reached_by (c.from-faulty.result + 1) c.args.views.now) c.args.current)

pub returns-clause-backed : goal.returns-clause-backed
returns-clause-backed c =
    let f = ap (λ s. s.f) c.cluster.view_is in
    let is : c.unwrap_or.result ≡ caught_up (reached_by (c.from-faulty.result + 1) c.args.views.now) c.args.current = cc in
    rw is (λ up. omega (arith, f, c.from-faulty.ensures, caught_up-backed (c.from-faulty.result + 1) c.args.views.now c.args.current up))
