use Rattle.std.proofs.Common.{◌∷◌, ◌∙◌, ap, List, ℕ}
use Rattle.frame_views.specs.Fitting.{widest, FitsWord, after_word}
use Rattle.frame_views.specs.Grammar.{word_at}
use Rattle.frame_views.specs.Spelling.{word_bytes}
use Rattle.frame_views.proofs.CertificateLaws.{within-self}
use Rattle.frame_views.proofs.GrammarLaws.{reads_words}
use Rattle.frame_views.proofs.WriteLaws.{whole_spelled}
use Rattle.frame_views.proofs.items.words.ElectsView.spelled.Goals as goal

pub returns : goal.returns
returns c =
    ap (λ (z : List ℕ). c.args.self.now.count ∷ z) c.in_range.ensures.same
    ∙ whole_spelled (word_at widest) after_word word_bytes (FitsWord widest)
    (reads_words widest widest within-self) c.args.self.now.count c.args.self.now.bytes.now c.in_range.ensures.in_range
    c.args.self.now.whole
