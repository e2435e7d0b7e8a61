use Rattle.std.proofs.Common.{◌≡◌, ℕ, Ok, IfOk, IfErr, Some, Result, sym, ap, subst, ◌∙◌}
use Rattle.json.specs.Json.{document}
use Rattle.json.specs.Value.{value_view}
use Rattle.cluster_file.specs.Listing.{Listing}
use Rattle.cluster_file.specs.Text.{Tells}
use Rattle.cluster_file.proofs.TextLaws.{no_text, some_text}
use Rattle.cluster_file.proofs.reading.read_cluster.Goals as goal

pub returns-in_default-clause-refused : goal.returns-in_default-clause-refused
returns-in_default-clause-refused c = no_text c.args.bytes.now c.in_default.ensures.cases.0

pub returns-in-Some-clause-found : goal.returns-in-Some-clause-found
returns-in-Some-clause-found c =
    let same = some_text c.args.bytes.now (value_view c.in-Ok-parse.object) (Some c.in-Some.draft) c.in-Ok.ensures.cases.1
    (ap document (sym c.in-Ok.ensures.cases.0) ∙ c.in-Ok-parse.ensures.ok) (sym c.in-Some.is ∙ c.in_ok-draft.ensures) in
    subst (λ (answer : Result Listing ℕ). IfOk c.judge.result (λ file. answer ≡ Ok file)) (sym same) c.judge.ensures.found

pub returns-in-Some-clause-refused : goal.returns-in-Some-clause-refused
returns-in-Some-clause-refused c =
    let same = some_text c.args.bytes.now (value_view c.in-Ok-parse.object) (Some c.in-Some.draft) c.in-Ok.ensures.cases.1
    (ap document (sym c.in-Ok.ensures.cases.0) ∙ c.in-Ok-parse.ensures.ok) (sym c.in-Some.is ∙ c.in_ok-draft.ensures) in
    subst (λ (answer : Result Listing ℕ). IfErr c.judge.result (λ e. Tells e answer)) (sym same) c.judge.ensures.refused
