use Rattle.std.proofs.Common.{sym, subst, arith}
use Rattle.frame_views.specs.Fitting.{widest, FitsMessage}
use Rattle.frame_views.specs.Values.{MessageValue}
use Rattle.client_recover.proofs.TakeLaws.{invoke_stands}
use Rattle.client_recover.proofs.pursuit.Pursuit.invoke.Goals as goal

pub returns-clause-value : goal.returns-clause-value
returns-clause-value c p h =
    invoke_stands c.args.self.now p _ h (λ e. omega (arith, e, c.count.ensures, c.if-count-eq0.false)) c.in_ok-message.ensures

pub returns-clause-fits : goal.returns-clause-fits
returns-clause-fits c = subst (λ (v : MessageValue). FitsMessage widest v) (sym c.in_ok-message.ensures) c.invokes_fit.ensures
