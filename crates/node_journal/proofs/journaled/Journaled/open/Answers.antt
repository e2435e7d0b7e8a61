-- The replica before its first frame stands before all that the disk holds.
use Rattle.std.proofs.Common.{◌∙◌, refl, ap}
use Rattle.std.specs.Prelude.{option_map}
use Rattle.journal_disk.specs.Disk.{keeps}
use Rattle.node_steps.specs.Pens.{pen_value}
use Rattle.node_journal.proofs.FrontLaws.{front-none}
use Rattle.node_journal.proofs.OpenedLaws.{opened-bad, opened-by, opened-found, opened-good}
use Rattle.node_journal.proofs.RetracingLaws.{own-new, shows-new}
use Rattle.node_journal.proofs.journaled.Journaled.open.Goals as goal

pub returns-in-Ok-clause-good : goal.returns-in-Ok-clause-good
returns-in-Ok-clause-good g c s hs told kept =
    let begun = pen_value (g.S.Signer.spent c.args.signer) (g.S.Signer.left_of c.args.signer) in
    let same = own-new c.new.result _ c.args.keys c.args.signer c.new.ensures.seat c.new.ensures.keys c.new.ensures.signer in
    let shows = shows-new c.new.result c.args.signer c.new.ensures.signer c.new.ensures.shown in
    let synced = c.in-Ok.ensures.kept ∙ ap (option_map keeps) told in
    let is = opened-by c.retraced.result _ _ begun s _ (c.retraced.ensures.retraces (keeps s) begun synced
    (front-none _ begun s.contents refl refl refl shows)) c.retraced.ensures.own c.retraced.ensures.told same synced in
    opened-good _ begun s _ is hs kept

pub returns-in-Ok-clause-bad : goal.returns-in-Ok-clause-bad
returns-in-Ok-clause-bad g c s place told at =
    let begun = pen_value (g.S.Signer.spent c.args.signer) (g.S.Signer.left_of c.args.signer) in
    let same = own-new c.new.result _ c.args.keys c.args.signer c.new.ensures.seat c.new.ensures.keys c.new.ensures.signer in
    let shows = shows-new c.new.result c.args.signer c.new.ensures.signer c.new.ensures.shown in
    let synced = c.in-Ok.ensures.kept ∙ ap (option_map keeps) told in
    let is = opened-by c.retraced.result _ _ begun s _ (c.retraced.ensures.retraces (keeps s) begun synced
    (front-none _ begun s.contents refl refl refl shows)) c.retraced.ensures.own c.retraced.ensures.told same synced in
    opened-bad _ begun s _ is place at

pub returns-in-Ok-clause-found : goal.returns-in-Ok-clause-found
returns-in-Ok-clause-found g c s told =
    let begun = pen_value (g.S.Signer.spent c.args.signer) (g.S.Signer.left_of c.args.signer) in
    let same = own-new c.new.result _ c.args.keys c.args.signer c.new.ensures.seat c.new.ensures.keys c.new.ensures.signer in
    let shows = shows-new c.new.result c.args.signer c.new.ensures.signer c.new.ensures.shown in
    let synced = c.in-Ok.ensures.kept ∙ ap (option_map keeps) told in
    let is = opened-by c.retraced.result _ _ begun s _ (c.retraced.ensures.retraces (keeps s) begun synced
    (front-none _ begun s.contents refl refl refl shows)) c.retraced.ensures.own c.retraced.ensures.told same synced in
    opened-found _ begun s _ is
