use Rattle.std.proofs.Common.{[], ◌∷◌, ◌++◌, ap, ◌∙◌}
use Rattle.std.specs.Str.{bytes_eq}
use Rattle.indexmap.proofs.CallerLemmas.{insert_entry-new}
use Rattle.premise_watch.proofs.texts.Texts.keep.Goals as goal

pub returns-clause-kept : goal.returns-clause-kept
returns-clause-kept c =
    c.in_ok-insert.ensures.entries ∙ insert_entry-new bytes_eq c.args.self.now.first c.args.id c.in_ok-text.text c.requires
    ∙ ap (λ text. c.args.self.now.first.entries ++ (c.args.id, text) ∷ []) c.in_ok-text.ensures
