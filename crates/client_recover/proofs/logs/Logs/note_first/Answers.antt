use Rattle.std.proofs.Common.{◌≡◌, Bor, Option, Some, None, cond, refl, sym, ap, ◌∙◌}
use Rattle.std.specs.Option.{option_copied}
use Rattle.std.specs.Prelude.{is_some, not}
use Rattle.basil_types.specs.Decision.{is_commit}
use Rattle.client_recover.specs.Firsts.{part_at, same_key}
use Rattle.client_recover.specs.Replies.{earliest_at}
use Rattle.client_recover.proofs.logs.Logs.note_first.Goals as goal

told : {A : Type 0} (o : Option (Bor A)) → is_some (option_copied o) ≡ is_some o
told None = refl
told (Some x) = refl

pub returns-clause-noted : goal.returns-clause-noted
returns-clause-noted c =
    let old = c.args.self.now in
    let r = c.args.reply.now in
    record {
      is = sym
          (ap not (ap is_some (ap (λ b. part_at old.earliest (b, r.decided) r.replica) (sym c.is_commit.ensures) ∙ sym c.get.ensures)
          ∙ told c.get.result ∙ sym c.is_some.ensures ∙ c.if-is_some.false));
      earliest = λ d v n.
          c.in_ok-add.ensures.added (is_commit d, v, n)
          ∙ ap (λ b. cond (same_key (b, r.decided, r.replica) (is_commit d, v, n)) (Some c.in_ok-part.part)
          (earliest_at old d v n)) c.is_commit.ensures
          ∙ ap (λ part. cond (same_key (is_commit r.decision, r.decided, r.replica) (is_commit d, v, n)) (Some part)
          (earliest_at old d v n)) c.in_ok-part.ensures;
      latest = λ n. refl;
      count = refl;
    }
