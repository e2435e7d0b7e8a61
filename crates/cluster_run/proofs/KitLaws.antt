-- What the pens of kits give fits a frame.
use Rattle.std.proofs.Common.{◌≡◌, ℕ, ◌≤◌, List, length, arith}
use Rattle.basil_types.specs.Limits.{signature_limit}
use Rattle.frame_views.specs.Fitting.{IsSignature}
use Rattle.sha2.proofs.Facts256.{length-sha256}
use Rattle.lms_sign.specs.declared.sets.LmsSet.{LmsSet}
use Rattle.lms_sign.specs.declared.sets.LmsSet.TheVariants.{W4H5, W4H10, W8H5, W8H10}
use Rattle.lms_sign.specs.Laws.{HasItsSize}
use Rattle.lms_sign.specs.Sets.{size_of}
use Rattle.lms_sign.specs.Signing.{signature_of}
use Rattle.lms_sign.specs.Tree.{Tree}
use Rattle.cluster_run.specs.Kits.{PlainKitsSign, LmsKitsSign}
use Rattle.cluster_run.specs.Safety.{IsSigned}
use Rattle.cluster_run.proofs.SignedBytes.{digest-bytes, signature-bytes}

sized : (signature : List ℕ) (n : ℕ) → length signature ≡ n → 1 ≤ n → n ≤ signature_limit → IsSignature signature
sized signature n e some short = record { some = omega (arith, e, some); short = omega (arith, e, short) }

pub plain_kits_sign : PlainKitsSign
plain_kits_sign places n place words under =
    record { fits = sized _ 32 (length-sha256 _) (omega arith) (omega arith); bytes = digest-bytes _ }

some-size : (set : LmsSet) → 1 ≤ size_of set
some-size W4H5 = omega arith
some-size W4H10 = omega arith
some-size W8H5 = omega arith
some-size W8H10 = omega arith

short-size : (set : LmsSet) → size_of set ≤ signature_limit
short-size W4H5 = omega arith
short-size W4H10 = omega arith
short-size W8H5 = omega arith
short-size W8H10 = omega arith

signed-by : HasItsSize → (tree : Tree) (q : ℕ) (words : List ℕ) → IsSigned (signature_of tree q words)
signed-by sizes tree q words = record {
  fits = sized (signature_of tree q words) (size_of tree.set) (sizes.signature tree q words) (some-size tree.set) (short-size tree.set);
  bytes = signature-bytes tree q words;
}

pub lms_kits_sign : HasItsSize → LmsKitsSign
lms_kits_sign sizes accepts tree first places n place words under = signed-by sizes _ _ words
