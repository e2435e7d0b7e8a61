use Rattle.std.proofs.Common.{◌≡◌, ℕ, List, ◌++◌, ◌∷◌, [], ap, sym, subst, ◌∙◌, append_assoc, arith, rules}
use Rattle.std.proofs.lemmas.List.{append-nil}
use Rattle.sha2.specs.Hashers.{Holds256}
use Rattle.sha2.specs.Sha256.{sha256}
use Rattle.lms_ots.specs.Sets.{chains_of}
use Rattle.lms_ots.specs.Chains.{head, leaf_of, joined, key_of_ends}
use Rattle.lms_ots.specs.Lanes.{end_in}
use Rattle.lms_ots.proofs.ChainLaws.{joined_more}
use Rattle.lms_ots.proofs.signatures.key_of_chains.Goals as goal

pub loop-i-init : goal.loop-i-init
unfolding joined
loop-i-init c = subst (λ m. Holds256 c.update-3.new.self m) (sym (append-nil _)) (search rules)

pub loop-i-preserved : goal.loop-i-preserved
loop-i-preserved c =
    let leaf = leaf_of c.args.ident.now c.args.q in
    let y : ℕ → List ℕ = end_in c.args.ends.now in
    let i = c.loop-i.i in
    let given = c.update-in-loop-i.ensures _ c.loop-i.invariant in
    subst (λ m. Holds256 c.update-in-loop-i.new.self m)
    (append_assoc (head leaf ++ 0x80 ∷ 0x80 ∷ []) (joined y i) (y i)
    ∙ ap (λ (t : List ℕ). (head leaf ++ 0x80 ∷ 0x80 ∷ []) ++ t) (sym (joined_more y i)))
    given

pub returns : goal.returns
unfolding key_of_ends
returns c =
    let leaf = leaf_of c.args.ident.now c.args.q in
    let done : c.loop-i.i ≡ chains_of c.args.set = omega arith in
    c.finalize.ensures _ c.loop-i.invariant
    ∙ ap (λ k. sha256 (head leaf ++ 0x80 ∷ 0x80 ∷ [] ++ joined (end_in c.args.ends.now) k)) done
