use Rattle.std.proofs.Common.{ℕ, List, [], ◌∷◌, ◌++◌, sym, ap, ◌∙◌}
use Rattle.std.specs.Prelude.{insert}
use Rattle.replica_core.proofs.LoggedLaws.{put_last, put_same, put_between}
use Rattle.replica_core.proofs.logged.with_number.Goals as goal

pub returns-then-is_at : goal.returns-then-is_at
returns-then-is_at c =
    c.in_ok-more.ensures
    ∙ sym
    (put_same c.args.number c.args.numbers.now c.in-Some.place (sym c.place_for.ensures.place ∙ c.in-Some.is)
    (c.is_at.ensures.there c.if-is_at.true))

pub returns-in_ok-insert-in-Some : goal.returns-in_ok-insert-in-Some
returns-in_ok-insert-in-Some c =
    c.in_ok-insert-in-Some.ensures.items ∙ ap (λ (l : List ℕ). insert l c.in-Some.place c.args.number) c.in_ok-more.ensures
    ∙ sym
    (put_between c.args.number c.args.numbers.now c.in-Some.place (sym c.place_for.ensures.place ∙ c.in-Some.is)
    (c.is_at.ensures.missing c.if-is_at.false))

pub returns-in_ok-push-in-None : goal.returns-in_ok-push-in-None
returns-in_ok-push-in-None c =
    c.in_ok-push-in-None.ensures.items ∙ ap (λ (l : List ℕ). l ++ c.args.number ∷ []) c.in_ok-more.ensures
    ∙ sym (put_last c.args.number c.args.numbers.now (sym c.place_for.ensures.place ∙ c.in-None.is))
