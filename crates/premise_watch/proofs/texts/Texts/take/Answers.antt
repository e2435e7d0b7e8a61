use Rattle.std.proofs.Common.{Some, refl, ap, sym, ◌∙◌}
use Rattle.std.specs.Prelude.{option_copied}
use Rattle.std.specs.Str.{bytes_eq}
use Rattle.basil_types.specs.Id.{id_of}
use Rattle.basil_types.specs.Shown.{transaction_of}
use Rattle.premise_watch.specs.declared.broken.Broken.TheVariants.{Collision}
use Rattle.premise_watch.proofs.LookLaws.{told_same}
use Rattle.premise_watch.proofs.TextLaws.{sound, seen_same, seen_other, seen_new}
use Rattle.premise_watch.proofs.texts.Texts.take.Goals as goal

pub keep-requires : goal.keep-requires
keep-requires c = sym c.get.ensures.value ∙ ap option_copied c.in-None.is

pub returns-then-eq-clause-texts : goal.returns-then-eq-clause-texts
returns-then-eq-clause-texts c texts h =
    seen_same c.args.self.now.first.entries (transaction_of c.args.t) c.bytes-bytes.result.now
    c.id-id.result (c.id-id.ensures ∙ ap id_of (sym c.bytes-bytes.ensures.spelled)) c.bytes-bytes.ensures.spelled texts c.in-Some.first.now
    (sym c.get.ensures.value
    ∙ ap option_copied c.in-Some.is)
    (ap (λ b. bytes_eq b c.bytes-bytes.result.now) (sym c.as_slice.ensures) ∙ sym c.eq.ensures ∙ c.if-eq.true) h

pub returns-then-eq-clause-apart : goal.returns-then-eq-clause-apart
returns-then-eq-clause-apart c w h =
    let kept = seen_same c.args.self.now.first.entries (transaction_of c.args.t) c.bytes-bytes.result.now
    c.id-id.result (c.id-id.ensures ∙ ap id_of (sym c.bytes-bytes.ensures.spelled)) c.bytes-bytes.ensures.spelled w.texts
    c.in-Some.first.now (sym c.get.ensures.value
    ∙ ap option_copied c.in-Some.is)
    (ap (λ b. bytes_eq b c.bytes-bytes.result.now) (sym c.as_slice.ensures) ∙ sym c.eq.ensures ∙ c.if-eq.true) h in
    sound w (transaction_of c.args.t) kept.apart

pub returns-else-eq-clause-breach : goal.returns-else-eq-clause-breach
returns-else-eq-clause-breach c w h =
    told_same c.collision.result _ _
    (seen_other c.args.self.now.first.entries (transaction_of c.args.t) c.bytes-bytes.result.now c.id-id.result
    (c.id-id.ensures ∙ ap id_of (sym c.bytes-bytes.ensures.spelled)) c.bytes-bytes.ensures.spelled w c.in-Some.first.now
    c.bytes-bytes.result.now refl (sym c.get.ensures.value
    ∙ ap option_copied c.in-Some.is)
    (ap (λ b. bytes_eq b c.bytes-bytes.result.now) (sym c.as_slice.ensures) ∙ sym c.eq.ensures ∙ c.if-eq.false) h
    ∙ ap (λ first. Some (Collision first c.bytes-bytes.result.now)) (sym c.as_slice-else-eq.ensures)) c.collision.ensures

pub returns-in-Ok-clause-texts : goal.returns-in-Ok-clause-texts
returns-in-Ok-clause-texts c texts h =
    seen_new c.args.self.now.first.entries (transaction_of c.args.t) c.bytes-bytes.result.now
    c.id-id.result (c.id-id.ensures ∙ ap id_of (sym c.bytes-bytes.ensures.spelled)) c.bytes-bytes.ensures.spelled
    c.keep.new.self.first.entries texts (sym c.get.ensures.value
    ∙ ap option_copied c.in-None.is) c.in-Ok.ensures.kept h

pub returns-in-Ok-clause-apart : goal.returns-in-Ok-clause-apart
returns-in-Ok-clause-apart c w h =
    let kept = seen_new c.args.self.now.first.entries (transaction_of c.args.t) c.bytes-bytes.result.now
    c.id-id.result (c.id-id.ensures ∙ ap id_of (sym c.bytes-bytes.ensures.spelled)) c.bytes-bytes.ensures.spelled
    c.keep.new.self.first.entries w.texts (sym c.get.ensures.value
    ∙ ap option_copied c.in-None.is) c.in-Ok.ensures.kept h in
    sound w (transaction_of c.args.t) kept.apart
