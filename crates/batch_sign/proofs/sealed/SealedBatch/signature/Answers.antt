use Rattle.std.proofs.Common.{rules, ◌≡◌, ℕ, ◌+◌, ◌-◌, ◌*◌, List, take, drop, arith, ap, ◌∙◌}
use Rattle.batch_sign.specs.Signatures.{Sealing, signature_of}
use Rattle.batch_sign.proofs.SealLaws.{ends-within, stands-at}
use Rattle.batch_sign.proofs.sealed.SealedBatch.signature.Goals as goal

pub overflow_mul-at : goal.overflow_mul-at
overflow_mul-at c =
    let s : Sealing = record { leaves = c.self.inside.leaves.items; inner = c.self.inside.inner.items } in
    let within = ends-within s c.self.inside.size c.self.inside.bytes.items c.self.invariant c.from-place.result (omega arith) in
    omega (arith, within)

pub overflow_add-result : goal.overflow_add-result
overflow_add-result c =
    let s : Sealing = record { leaves = c.self.inside.leaves.items; inner = c.self.inside.inner.items } in
    let within = ends-within s c.self.inside.size c.self.inside.bytes.items c.self.invariant c.from-place.result (omega arith) in
    omega (arith, within)

pub slice_bounds-result-end : goal.slice_bounds-result-end
slice_bounds-result-end c =
    let s : Sealing = record { leaves = c.self.inside.leaves.items; inner = c.self.inside.inner.items } in
    let within = ends-within s c.self.inside.size c.self.inside.bytes.items c.self.invariant c.from-place.result (omega arith) in
    search (rules, within)

pub returns-clause-is : goal.returns-clause-is
returns-clause-is c =
    let s : Sealing = record { leaves = c.self.inside.leaves.items; inner = c.self.inside.inner.items } in
    let at = stands-at s c.self.inside.size c.self.inside.bytes.items c.self.invariant c.from-place.result (omega arith) in
    let bytes : c.as_slice-bytes.result.now ≡ c.self.inside.bytes.items = search rules in
    let size : c.from-place.result * c.self.inside.size + c.self.inside.size - c.from-place.result * c.self.inside.size
    ≡ c.self.inside.size = omega arith in
    let front = c.from-place.result * c.self.inside.size in
    ap (λ (k : ℕ). take k (drop front c.as_slice-bytes.result.now)) size
    ∙ ap (λ (t : List ℕ). take c.self.inside.size (drop front t)) bytes
    ∙ at ∙ ap (λ (x : Sealing). signature_of x c.from-place.result) c.self.view_is
    ∙ ap (signature_of c.args.self.now) c.from-place.ensures
