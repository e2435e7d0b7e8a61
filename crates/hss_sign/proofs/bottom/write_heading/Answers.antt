use Rattle.std.proofs.Common.{◌≡◌, ◌≤◌, ◌+◌, ◌++◌, ◌∙◌, List, ℕ, take, length, ap, sym, arith, rules}
use Rattle.std.proofs.lemmas.Slice.{take-put_mid}
use Rattle.std.proofs.lemmas.List.{take_all}
use Rattle.std.specs.Int.{w32, to_be_bytes}
use Rattle.lms_sign.specs.Signing.{signature_of}
use Rattle.hss_sign.proofs.bottom.write_heading.Goals as goal

pub returns-clause-heading : goal.returns-clause-heading
returns-clause-heading c =
    let end = 4 + c.size-end.result in
    let part = c.sign_into.new.out in
    let signed : part ≡ signature_of c.args.top.now.tree c.args.top.now.next c.args.bottom.now = c.in-Ok.ensures.signature in
    let count : take 4 c.put.new.out ≡ to_be_bytes w32 1 = search rules in
    let whole : length c.put-2.new.out ≤ end + length c.args.bottom.now = omega arith in
    let middle = take-put_mid 4 _ c.put.new.out part end (omega arith) (omega arith) in
    sym (take_all (end + length c.args.bottom.now) c.put-2.new.out whole) ∙ c.put-2.ensures
    ∙ ap (λ (t : List ℕ). t ++ c.args.bottom.now)
    (middle ∙ ap (λ (t : List ℕ). t ++ part) count ∙ ap (λ (t : List ℕ). to_be_bytes w32 1 ++ t) signed)
