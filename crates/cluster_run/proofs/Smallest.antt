-- The smallest cluster meets what the laws of runs ask, and reads its vote frames.
use Rattle.std.proofs.Common.{◌≡◌, ℕ, true, cond, List, length, refl, ap, ◌∙◌, arith}
use Rattle.std.specs.Prelude.{Ok, Err, nat_le}
use Rattle.std.proofs.lemmas.Bool.{leb-true}
use Rattle.basil_types.specs.Setting.{IsSetting}
use Rattle.frame_views.specs.declared.fault.BadFrame.TheVariants.{Kind}
use Rattle.frame_views.specs.Fitting.{IsSignature, FitsMessage, bounds_of}
use Rattle.frame_views.specs.Frames.{frame_in, frame_limit}
use Rattle.frame_views.specs.Spelling.{spelling}
use Rattle.frame_views.specs.Values.{MessageValue}
use Rattle.frame_views.proofs.FrameLaws.{frame_again}
use Rattle.cluster_run.specs.Parts.{are_bytes, read_frame}
use Rattle.cluster_run.specs.States.{IsSetup}
use Rattle.cluster_run.specs.Safety.{AreSigned}
use Rattle.cluster_run.specs.Examples.{setup, kit, mark, commit_vote}
use Rattle.cluster_run.proofs.Parting.{bytes_are}

pub is_setting : IsSetting setup.cluster
is_setting = record {
  faulty = omega arith;
  some = omega arith;
  few = omega arith;
  enough = omega arith;
  correct = omega arith;
}

pub is_setup : IsSetup setup
is_setup = record { setting = is_setting; few = λ shard. omega arith }

pub marks_fit : IsSignature mark
marks_fit = record { some = omega arith; short = omega arith }

pub are_signed : AreSigned kit
are_signed n place words l = record { fits = marks_fit; bytes = bytes_are mark refl }

-- a frame whose message fits is read as that message
pub frame_read : (m : MessageValue) → nat_le (length (spelling m)) frame_limit ≡ true →
    FitsMessage (bounds_of setup.cluster) m → frame_in (bounds_of setup.cluster) (spelling m) ≡ Ok m
frame_read m short fits =
    frame_again setup.cluster (spelling m) m
    (record { short = leb-true (length (spelling m)) frame_limit short; fits = fits; spelled = refl })

pub read_again : (m : MessageValue) → are_bytes (spelling m) ≡ true → nat_le (length (spelling m)) frame_limit ≡ true →
    FitsMessage (bounds_of setup.cluster) m → read_frame setup (spelling m) ≡ Ok m
read_again m bytes short fits =
    ap (λ b. cond b (frame_in (bounds_of setup.cluster) (spelling m)) (Err Kind)) bytes ∙ frame_read m short fits

pub vote_fits : (x : List ℕ) → length x ≡ 32 → FitsMessage (bounds_of setup.cluster) (commit_vote x)
vote_fits x known = record { shard = omega arith; replica = omega arith; id = known; proof = tt; signature = marks_fit }
