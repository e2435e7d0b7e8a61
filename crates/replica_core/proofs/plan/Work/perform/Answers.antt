use Rattle.std.proofs.Common.{refl, sym, ap, ◌∙◌}
use Rattle.node_steps.specs.Pens.{pen_value}
use Rattle.replica_core.specs.Leads.{kept_next}
use Rattle.replica_core.specs.LeadWorks.{lead_book_at}
use Rattle.replica_core.specs.LogWorks.{log_book_of}
use Rattle.replica_core.specs.Nodes.{book_shown}
use Rattle.replica_core.specs.ReadWorks.{with_read}
use Rattle.replica_core.specs.Replicas.{BookValue}
use Rattle.replica_core.specs.Seats.{book_of}
use Rattle.replica_core.specs.Telling.{Told, told_with}
use Rattle.replica_core.specs.Works.{perform_work}
use Rattle.replica_core.specs.declared.parts.Parts.{Parts}
use Rattle.replica_core.proofs.Performing.{performed_by}
use Rattle.replica_core.proofs.plan.Work.perform.Goals as goal

pub returns-in-Known-clause-performs : goal.returns-in-Known-clause-performs
returns-in-Known-clause-performs g c book s =
    let sg = g.S.Signer.fixed c.args.pen.now in
    let old = c.args.parts.now in
    let new : Parts = record old { known = c.perform.new.known } in
    let b : BookValue = book_shown book old (pen_value (g.S.Signer.spent c.args.pen.now) (g.S.Signer.left_of c.args.pen.now)) in
    let t : Told = told_with b c.args.out.now in
    let x : BookValue = book_of b new.known (g.S.Signer.spent c.perform.new.pen) (g.S.Signer.left_of c.perform.new.pen) in
    performed_by new x.pen c.perform.new.out _ x
    (c.perform.ensures.told b ∙ ap (perform_work sg (kept_next old.leading) t) (sym c.in-Known.is)) refl
    (c.perform.ensures.noted book.noted s)

pub returns-in-Read-clause-performs : goal.returns-in-Read-clause-performs
returns-in-Read-clause-performs g c book s =
    let sg = g.S.Signer.fixed c.args.pen.now in
    let old = c.args.parts.now in
    let new : Parts = record old { known = c.perform-in-Read.new.known } in
    let b : BookValue = book_shown book old (pen_value (g.S.Signer.spent c.args.pen.now) (g.S.Signer.left_of c.args.pen.now)) in
    let t : Told = told_with b c.args.out.now in
    let x : BookValue = with_read
    (book_of b new.known (g.S.Signer.spent c.perform-in-Read.new.pen) (g.S.Signer.left_of c.perform-in-Read.new.pen)) c.in-Read.work in
    performed_by new x.pen c.perform-in-Read.new.out _ x
    (c.perform-in-Read.ensures.told b ∙ ap (perform_work sg (kept_next old.leading) t) (sym c.in-Read.is)) refl
    (c.perform-in-Read.ensures.noted book.noted s)

pub returns-in-Log-clause-performs : goal.returns-in-Log-clause-performs
returns-in-Log-clause-performs g c book s =
    let sg = g.S.Signer.fixed c.args.pen.now in
    let old = c.args.parts.now in
    let new : Parts = record old { known = c.perform-in-Log.new.known; logged = c.perform-in-Log.new.logged } in
    let b : BookValue = book_shown book old (pen_value (g.S.Signer.spent c.args.pen.now) (g.S.Signer.left_of c.args.pen.now)) in
    let t : Told = told_with b c.args.out.now in
    let x : BookValue = log_book_of b new.known new.logged (g.S.Signer.spent c.perform-in-Log.new.pen)
    (g.S.Signer.left_of c.perform-in-Log.new.pen) in
    performed_by new x.pen c.perform-in-Log.new.out _ x
    (c.perform-in-Log.ensures.told b ∙ ap (perform_work sg (kept_next old.leading) t) (sym c.in-Log.is)) refl
    (c.perform-in-Log.ensures.noted book.noted s)

pub returns-in-Lead-clause-performs : goal.returns-in-Lead-clause-performs
returns-in-Lead-clause-performs g c book s =
    let sg = g.S.Signer.fixed c.args.pen.now in
    let old = c.args.parts.now in
    let new : Parts = record old { leading = c.perform-in-Lead.new.leading } in
    let b : BookValue = book_shown book old (pen_value (g.S.Signer.spent c.args.pen.now) (g.S.Signer.left_of c.args.pen.now)) in
    let t : Told = told_with b c.args.out.now in
    let x : BookValue = lead_book_at b new.leading (g.S.Signer.spent c.perform-in-Lead.new.pen)
    (g.S.Signer.left_of c.perform-in-Lead.new.pen) in
    performed_by new x.pen c.perform-in-Lead.new.out _ x
    (c.perform-in-Lead.ensures.told b ∙ ap (perform_work sg (kept_next old.leading) t) (sym c.in-Lead.is)) refl s
