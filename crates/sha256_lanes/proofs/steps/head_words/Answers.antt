use Rattle.std.proofs.Common.{◌++◌, ◌∙◌, ap, List, [], ◌∷◌, ℕ, arith}
use Rattle.std.specs.Int.{w32, to_be_bytes}
use Rattle.std.proofs.lemmas.List.{take_all}
use Rattle.sha2.specs.Sha256.{digest_bytes}
use Rattle.sha256_lanes.proofs.WordLaws.{bytes-words}
use Rattle.sha256_lanes.proofs.LaneLaws.{below_four}
use Rattle.sha256_lanes.proofs.steps.head_words.Goals as goal

pub returns : goal.returns
unfolding digest_bytes
returns c =
    let front = bytes-words c.args.ident.now
    (c.word_in.result ∷ c.word_in-2.result ∷ c.word_in-3.result ∷ c.word_in-4.result ∷ c.args.q ∷ []) c.fits-ident 4 (omega arith)
    (below_four _ c.word_in.ensures c.word_in-2.ensures c.word_in-3.ensures c.word_in-4.ensures) in
    ap (λ (l : List ℕ). l ++ to_be_bytes w32 c.args.q) (front ∙ take_all 16 c.args.ident.now (omega arith))
