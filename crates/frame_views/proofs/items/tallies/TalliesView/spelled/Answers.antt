use Rattle.std.proofs.Common.{◌∷◌, ◌∙◌, ap, List, ℕ}
use Rattle.frame_views.specs.Fitting.{widest, FitsTally, after_tally}
use Rattle.frame_views.specs.Grammar.{tally_at}
use Rattle.frame_views.specs.Spelling.{tally_bytes}
use Rattle.frame_views.proofs.CertificateLaws.{within-self}
use Rattle.frame_views.proofs.GrammarLaws.{reads_tallies}
use Rattle.frame_views.proofs.WriteLaws.{whole_spelled}
use Rattle.frame_views.proofs.items.tallies.TalliesView.spelled.Goals as goal

pub returns : goal.returns
returns c =
    ap (λ (z : List ℕ). c.args.self.now.count ∷ z) c.in_range.ensures.same
    ∙ whole_spelled (tally_at widest) after_tally tally_bytes (FitsTally widest)
    (reads_tallies widest widest within-self) c.args.self.now.count c.args.self.now.bytes.now c.in_range.ensures.in_range
    c.args.self.now.whole
