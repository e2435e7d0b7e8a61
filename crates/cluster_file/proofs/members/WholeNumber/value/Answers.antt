use Rattle.std.proofs.Common.{ℕ, ◌^◌, nat_lt, if◌then◌else◌, Some, None, ap, ◌∙◌}
use Rattle.cluster_file.proofs.Digits.{parsed}
use Rattle.cluster_file.proofs.members.WholeNumber.value.Goals as goal

pub returns : goal.returns
returns c =
    c.ok.ensures.value ∙ parsed c.self.inside.digits.now c.parse.result c.self.invariant c.parse.ensures.value.0
    ∙ ap (λ (n : ℕ). if nat_lt n (2 ^ 64) then Some n else None) c.self.view_is
