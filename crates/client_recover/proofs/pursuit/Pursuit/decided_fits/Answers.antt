use Rattle.std.proofs.Common.{ℕ, List, length, sym, ap, subst, ◌∙◌}
use Rattle.frame_views.specs.Fitting.{widest, bounds_of, FitsCertificate}
use Rattle.frame_views.specs.Shown.{voted_of}
use Rattle.client_recover.specs.Certifying.{conflict_by}
use Rattle.client_recover.specs.Kept.{fast_by}
use Rattle.client_recover.proofs.FitLaws.{AreShards, involved_shards, for_either, fast_fits, conflict_fits}
use Rattle.client_recover.proofs.pursuit.Pursuit.decided_fits.Goals as goal

pub returns : goal.returns
returns c =
    let u = c.args.self.now in
    let v = voted_of c.args.vote.now in
    for_either (FitsCertificate widest) (fast_by u.cluster u.id u.shards u.votes) (conflict_by u.transaction v)
    (fast_fits u.cluster c.n.ensures.in_range u.shards
    (subst AreShards (sym u.involves) (involved_shards u.cluster u.transaction)) u.id u.votes u.votes_signed c.id_fits.ensures)
    (λ x e. c.may_be_written.ensures.certificate u.cluster x c.n.ensures.in_range
    (conflict_fits (bounds_of u.cluster) u.transaction v c.requires
    (sym (ap (λ (i : List ℕ). length i) u.named) ∙ c.id_fits.ensures) x e))
