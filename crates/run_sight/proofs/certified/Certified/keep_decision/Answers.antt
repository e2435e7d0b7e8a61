use Rattle.std.proofs.Common.{◌∙◌}
use Rattle.std.specs.Str.{bytes_eq}
use Rattle.indexmap.proofs.CallerLemmas.{insert_entry-new}
use Rattle.run_sight.proofs.KeepLaws.{put_first}
use Rattle.run_sight.proofs.certified.Certified.keep_decision.Goals as goal

pub returns-clause-kept : goal.returns-clause-kept
returns-clause-kept c =
    put_first c.args.self.now.decisions.entries _ c.args.id c.args.decision c.contains_key.result c.contains_key.ensures
    c.if-contains_key.false
    (λ none. c.in_ok-insert.ensures.entries ∙ insert_entry-new bytes_eq c.args.self.now.decisions c.args.id c.args.decision none)
