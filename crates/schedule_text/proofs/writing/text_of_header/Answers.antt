use Rattle.std.proofs.Common.{◌≡◌, ◌∙◌, ap, append-nil}
use Rattle.basil_types.specs.Setting.{Setting}
use Rattle.schedule_text.specs.Spelling.{line_tokens, journal_tokens}
use Rattle.schedule_text.proofs.writing.text_of_header.Goals as goal

pub returns : goal.returns
unfolding line_tokens
returns c =
    let e1 : c.from.result ≡ c.args.cluster.f = c.from.ensures ∙ (ap (λ (s : Setting). s.f) c.cluster.view_is) in
    let e2 : c.from-2.result ≡ c.args.cluster.shards = c.from-2.ensures ∙ (ap (λ (s : Setting). s.shards) c.cluster.view_is) in
    let e3 : c.from-3.result ≡ c.args.cluster.reads = c.from-3.ensures ∙ (ap (λ (s : Setting). s.reads) c.cluster.view_is) in
    let e4 : c.cluster.inside.delta ≡ c.args.cluster.delta = (ap (λ (s : Setting). s.delta) c.cluster.view_is) in
    rw (← e1, ← e2, ← e3, ← e4, ← append-nil (journal_tokens c.args.journal)) c.text_of_pieces.ensures
