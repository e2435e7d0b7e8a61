use Rattle.std.proofs.Common.{rules, ◌≡◌, ◌<◌, ◌≤◌, ◌^◌, List, ℕ, true, length, subst}
use Rattle.batch_sign.specs.Signatures.{leaves_of}
use Rattle.batch_sign.specs.Trees.{depth_over, most_depth, most_messages, words_over}
use Rattle.batch_sign.proofs.SealLaws.{all-hold}
use Rattle.batch_sign.proofs.batch.Batch.sign.Goals as goal

pub returns-clause-accepted : goal.returns-clause-accepted
returns-clause-accepted g c =
    let s = g.S.Signer.fixed c.args.pen.now in
    let spent = g.S.Signer.spent c.args.pen.now in
    let messages = c.args.self.now in
    let leaves : c.in_ok-leaves.leaves.items ≡ leaves_of messages = search rules in
    let some : 0 < length messages = search rules in
    let most : length messages ≤ most_messages = search rules in
    let deep : depth_over (leaves_of messages) ≤ most_depth =
    subst (λ (l : List (List ℕ)). depth_over l ≤ most_depth) leaves c.seal.ensures.deep in
    let wide : length (leaves_of messages) ≤ 2 ^ depth_over (leaves_of messages) =
    subst (λ (l : List (List ℕ)). length l ≤ 2 ^ depth_over l) leaves c.seal.ensures.wide in
    let holds : s.holds s.party (words_over (leaves_of messages)) (s.gives spent (words_over (leaves_of messages))) ≡ true =
    subst (λ (l : List (List ℕ)). s.holds s.party (words_over l) (s.gives spent (words_over l)) ≡ true) leaves c.in_ok-seal.ensures.holds in
    all-hold messages (s.gives spent (words_over (leaves_of messages))) s.holds s.party some most deep wide holds
