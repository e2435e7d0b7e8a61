use Rattle.std.proofs.Common.{◌≡◌, ◌∙◌, ◌+◌, ◌-◌, ◌%◌, ◌<◌, [], List, ℕ, ap, sym, subst, arith, rules, slice_index_or}
use Rattle.lms_ots.specs.Chains.{leaf_of}
use Rattle.sha256_lanes.specs.Chains.{lane_of}
use Rattle.lms_ots.specs.Lanes.{end_of_lane}
use Rattle.lms_ots.proofs.LaneLaws.{set-keeps}
use Rattle.lms_ots.proofs.lanes.run_all.Goals as goal

pub lanes-preserved : goal.lanes-preserved
lanes-preserved c =
    let leaf = leaf_of c.args.ident.now c.args.q in
    let n = c.lanes.n in
    let order = c.longest_first-order.result in
    let given = c.longest_first-order.ensures in
    let group = c.ends_at-next.ensures in
    let here : n - n % 8 + n % 8 ≡ n = omega arith in
    let at : ℕ = (lane_of order n).chain in
    let E : ℕ → List ℕ = λ i. end_of_lane leaf (lane_of c.args.lanes.now i) in
    let v : List ℕ = slice_index_or c.ends_at-next.result (n % 8) [] in
    let low : n < 72 = omega arith in
    let in_lane : v ≡ end_of_lane leaf (lane_of order n) =
    subst (λ (p : ℕ). v ≡ end_of_lane leaf (lane_of order p)) here (group (n % 8) (omega arith)) in
    let right : v ≡ E at = in_lane ∙ ap (end_of_lane leaf) (sym (given.same n low)) in
    record {
      size = search rules;
      group = λ ne. let start : n + 1 - (n + 1) % 8 ≡ n - n % 8 = omega arith in rw start group;
      written = λ m lt. set-keeps c.lanes.ends order E n v c.lanes.invariant.size (given.bound n low) right c.lanes.invariant.written m lt;
    }

pub returns : goal.returns
returns c i lt =
    let leaf = leaf_of c.args.ident.now c.args.q in
    let order = c.longest_first-order.result in
    let given = c.longest_first-order.ensures in
    let there = given.all i lt in
    let m : ℕ = there.0 in
    let found = there.2 in
    let named : (lane_of order m).chain ≡ i = ap (λ l. l.chain) found ∙ c.requires i lt in
    let done : c.lanes.n ≡ 72 = omega arith in
    let wrote = c.lanes.invariant.written m (omega (arith, there.1)) in
    subst (λ (p : ℕ). slice_index_or c.lanes.ends p [] ≡ end_of_lane leaf (lane_of c.args.lanes.now p)) named wrote
