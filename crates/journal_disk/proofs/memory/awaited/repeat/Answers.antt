use Rattle.std.proofs.Common.{◌%◌, ◌++◌, [], ◌∷◌, List, ℕ, ap, length, rules, sym, ◌∙◌}
use Rattle.std.specs.Prelude.{slice_index}
use Rattle.journal_disk.proofs.ContentsLaws.{repeated_more}
use Rattle.journal_disk.proofs.memory.awaited.repeat.Goals as goal

pub loop-place-preserved : goal.loop-place-preserved
loop-place-preserved c =
    let bytes = c.args.bytes.now in
    let place = c.loop-place.place in
    record {
      made =
          c.push_reserved.ensures.items
          ∙ ap (λ (all : List ℕ). all ++ slice_index bytes (place % length bytes) ∷ []) c.loop-place.invariant.made
          ∙ sym (repeated_more place bytes);
      many = search rules;
      room = search rules;
    }
