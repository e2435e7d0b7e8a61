use Rattle.std.proofs.Common.{◌++◌, [], ◌∷◌, ap, ◌∙◌}
use Rattle.std.specs.Str.{bytes_eq}
use Rattle.basil_types.specs.Shown.{transaction_of}
use Rattle.indexmap.proofs.CallerLemmas.{insert_entry-new}
use Rattle.run_sight.proofs.KeepLaws.{put_first}
use Rattle.run_sight.proofs.certified.Certified.keep_commit.Goals as goal

pub returns-clause-kept : goal.returns-clause-kept
returns-clause-kept c =
    let known = c.args.self.now.commits.entries in
    put_first known _ c.args.id (transaction_of c.args.t) c.contains_key.result c.contains_key.ensures c.if-contains_key.false
    (λ none.
    c.in_ok-insert.ensures.entries
    ∙ insert_entry-new bytes_eq c.args.self.now.commits c.args.id c.in_ok-transaction.transaction none
    ∙ ap (λ t. known ++ (c.args.id, t) ∷ []) c.in_ok-transaction.ensures)
