use Rattle.std.proofs.Common.{◌≡◌, ℕ, List, ◌++◌, ◌+◌, ◌*◌, ◌<◌, take, length, arith, sym, ap, ◌∙◌, subst, append_assoc}
use Rattle.std.proofs.lemmas.List.{append-nil, take_all}
use Rattle.std.specs.Int.{w32, to_be_bytes}
use Rattle.lms_ots.specs.declared.sets.OtsSet.{OtsSet}
use Rattle.lms_ots.specs.Sets.{type_of, chains_of}
use Rattle.lms_ots.specs.Chains.{Leaf, leaf_of, head, start_of, joined}
use Rattle.lms_ots.specs.Lanes.{end_in}
use Rattle.lms_ots.specs.Signatures.{signed_part, candidate_of}
use Rattle.lms_ots.proofs.ChainLaws.{joined_more, joined-same, length-steps, length-start}
use Rattle.lms_ots.proofs.LaneLaws.{chains-low}
use Rattle.lms_ots.proofs.SignatureLaws.{leads_to_the_key}
use Rattle.lms_ots.proofs.signatures.ots_sign.Goals as goal

pub loop-i-init : goal.loop-i-init
unfolding joined
loop-i-init c =
    let first = c.put.ensures in
    let second = c.put-2.ensures in
    let four : 0 + length c.to_be_bytes.result ≡ 4 = rw c.to_be_bytes.ensures (omega arith) in
    let n-is : c.to_be_bytes.result ≡ to_be_bytes w32 (type_of c.args.set) =
    c.to_be_bytes.ensures ∙ ap (to_be_bytes w32) c.type_number.ensures in
    let one : take 4 c.put.new.out ≡ to_be_bytes w32 (type_of c.args.set) =
    subst (λ (k : ℕ). take k c.put.new.out ≡ c.to_be_bytes.result) four first ∙ n-is in
    let long : 4 + length c.args.c.now ≡ 36 = omega arith in
    let two : take 36 c.put-2.new.out ≡ take 4 c.put.new.out ++ c.args.c.now =
    subst (λ (k : ℕ). take k c.put-2.new.out ≡ take 4 c.put.new.out ++ c.args.c.now) long second in
    record {
      len = omega arith;
      written = two
          ∙ ap (λ (t : List ℕ). t ++ c.args.c.now) one ∙ sym (append-nil (to_be_bytes w32 (type_of c.args.set) ++ c.args.c.now));
    }

pub loop-i-preserved : goal.loop-i-preserved
loop-i-preserved c =
    let set : OtsSet = c.args.set in
    let leaf : Leaf = leaf_of c.args.ident.now c.args.q in
    let i : ℕ = c.loop-i.i in
    let y : ℕ → List ℕ = end_in c.run_all-ends.result in
    let put = c.put-in-loop-i.ensures in
    let front = to_be_bytes w32 (type_of set) ++ c.args.c.now in
    let low : i < chains_of set = omega arith in
    let signed = c.run_all-ends.ensures i (chains-low set i low) ∙ c.signing_lanes-lanes.ensures.ends i low in
    let size : length (y i) ≡ 32 = ap (λ (t : List ℕ). length t) signed
    ∙ length-steps (head leaf) i 0 _ (start_of leaf c.args.seed.now i) (length-start leaf c.args.seed.now i) in
    let long : 36 + 32 * i + length (y i) ≡ 36 + 32 * (i + 1) = omega (arith, size) in
    let two : take (36 + 32 * (i + 1)) c.put-in-loop-i.new.out ≡ take (36 + 32 * i) c.loop-i.out ++ y i =
    subst (λ (k : ℕ). take k c.put-in-loop-i.new.out ≡ take (36 + 32 * i) c.loop-i.out ++ y i) long put in
    record {
      len = omega arith;
      written = two ∙ ap (λ (t : List ℕ). t ++ y i) c.loop-i.invariant.written
          ∙ append_assoc front (joined y i) (y i) ∙ ap (λ (t : List ℕ). front ++ t) (sym (joined_more y i));
    }

pub returns-clause-signature : goal.returns-clause-signature
returns-clause-signature c =
    let set : OtsSet = c.args.set in
    let leaf : Leaf = leaf_of c.args.ident.now c.args.q in
    let y : ℕ → List ℕ = end_in c.run_all-ends.result in
    let z : ℕ → List ℕ = signed_part set leaf c.args.seed.now c.with_checksum-string.result in
    let done : c.loop-i.i ≡ chains_of set = omega arith in
    let whole : take (36 + 32 * c.loop-i.i) c.loop-i.out ≡ c.loop-i.out =
    take_all (36 + 32 * c.loop-i.i) c.loop-i.out (omega (arith, c.loop-i.invariant.len, done)) in
    let parts : joined y (chains_of set) ≡ joined z (chains_of set) = joined-same y z
    (chains_of set) (λ i lt. c.run_all-ends.ensures i (chains-low set i lt) ∙ c.signing_lanes-lanes.ensures.ends i lt) in
    let digest = c.with_checksum-string.ensures in
    let string_is = rw c.digest_of.ensures at digest in
    sym whole ∙ c.loop-i.invariant.written
    ∙ ap (λ (n : ℕ). to_be_bytes w32 (type_of set) ++ c.args.c.now ++ joined y n) done
    ∙ ap (λ (t : List ℕ). to_be_bytes w32 (type_of set) ++ c.args.c.now ++ t) parts
    ∙ ap (λ (s : List ℕ). to_be_bytes w32 (type_of set)
    ++ c.args.c.now ++ joined (signed_part set leaf c.args.seed.now s) (chains_of set)) string_is

pub returns-clause-leads_to_the_key : goal.returns-clause-leads_to_the_key
returns-clause-leads_to_the_key c =
    let leaf = leaf_of c.args.ident.now c.args.q in
    let c-long : length c.args.c.now ≡ 32 = omega arith in
    ap (candidate_of c.args.set leaf c.args.message.now) (returns-clause-signature c)
    ∙ leads_to_the_key c.args.set leaf c.args.seed.now c.args.c.now c.args.message.now c-long
