use Rattle.std.proofs.Common.{◌≡◌, true, List, ℕ, ap, ◌∙◌, sym, subst}
use Rattle.batch_sign.specs.Signatures.{in_batch, words_alone}
use Rattle.batch_sign.specs.Trees.{root_words}
use Rattle.batch_sign.proofs.AloneLaws.{alone-holds}
use Rattle.batch_sign.proofs.pen.BatchPenSigner.sign_into.Goals as goal

pub returns-clause-holds : goal.returns-clause-holds
returns-clause-holds g c =
    let s = g.S.Signer.fixed c.args.self.now.inner in
    let place = g.S.Signer.spent c.args.self.now.inner in
    let root : c.root_words-root.result ≡ words_alone c.args.words.now = c.root_words-root.ensures ∙ ap (root_words 0) c.leaf_of.ensures in
    let inner = s.gives place c.root_words-root.result in
    let holds : s.holds s.party (words_alone c.args.words.now) inner ≡ true =
    subst (λ (w : List ℕ). s.holds s.party w inner ≡ true) root c.sign_alone.ensures.holds in
    subst (λ (out : List ℕ). in_batch s.holds s.party c.args.words.now out ≡ true) (sym c.sign_alone.ensures.signature)
    (alone-holds s.holds s.party c.args.words.now inner holds)
