-- What a list of parts that fits gives each of its parts.
use Rattle.std.proofs.Common.{ℕ, List, [], ◌∷◌, All, map, arith}
use Rattle.std.specs.List.{AllByRecursion}
use Rattle.std.proofs.lemmas.List.Elements.{All-from_recursion}
use Rattle.basil_types.specs.Lists.{AreItems}
use Rattle.frame_views.specs.declared.bounds.Bounds.{Bounds}
use Rattle.frame_views.specs.Values.{LogValue}
use Rattle.frame_views.specs.Fitting.{AreCounted, FitsLog, after_log}
use Rattle.frame_writing.specs.Written.{FitsItem}

module _ {P V : Type 0} (Fit : ℕ → V → Type 0) (next : V → ℕ) (of : P → V) where
  parts-fit : (floor : ℕ) (ps : List P) → AreItems Fit next floor (map of ps) → AllByRecursion (λ p. FitsItem Fit (of p)) ps
  parts-fit floor [] fits = tt
  parts-fit floor (p ∷ ps) fits = (record { floor = floor; fits = fits.0 }, parts-fit (next (of p)) ps fits.1)

  pub each_fits : (ps : List P) → AreCounted Fit next (map of ps) → All (λ p. FitsItem Fit (of p)) ps
  each_fits ps fits = All-from_recursion (λ p. FitsItem Fit (of p)) ps (parts-fit 0 ps fits.each)

-- a log reply of a view is one of any view
logs-fit : (b : Bounds) (decided floor : ℕ) (logs : List LogValue) → AreItems (FitsLog b decided) after_log floor logs →
    AreItems (FitsLog b 0) after_log floor logs
logs-fit b decided floor [] fits = tt
logs-fit b decided floor (l ∷ logs) fits =
    let f = fits.0 in (
      record {
        above = f.above;
        below = f.below;
        later = omega arith;
        current = f.current;
        signature =
            f.signature;
      },
      logs-fit b decided (after_log l) logs fits.1,
    )

pub any_view : (b : Bounds) (decided : ℕ) (logs : List LogValue) → AreCounted (FitsLog b decided) after_log logs →
    AreCounted (FitsLog b 0) after_log logs
any_view b decided logs fits = record { count = fits.count; each = logs-fit b decided 0 logs fits.each }
