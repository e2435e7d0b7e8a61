-- What `batch` and `unbatch` lead to.
use Rattle.std.specs.Prelude.{◌≡◌, ℕ, List, [], ◌∷◌, ◌++◌, codes, decimal, Option, Result, Ok, Err}
use Rattle.line_fields.specs.Refusals.{Refusal}
use Rattle.basil_types.specs.Causes.{TookAll}
use Rattle.batch_sign.specs.Signatures.{Sealing, leaves_of}
use Rattle.batch_sign.specs.Trees.{words_over}
use Rattle.batch_text.specs.Findings.{IsRealFinding, finding_of}
use Rattle.batch_text.specs.Texts.{batch_in, kept_in, signatures_of}
use Rattle.batch_text.specs.declared.finding.PlaceFinding.{PlaceFinding}
use Rattle.batch_text.specs.declared.finding.PlaceFinding.TheVariants as finding
use Rattle.batch_text.specs.declared.reading.Kept.{Kept}
use Rattle.lms_sign.specs.Signing.{signature_of}
use Rattle.premise_watch.specs.declared.broken.Broken.TheVariants.{Collision}
use Rattle.command_ends.specs.Outcome.{Outcome, BadLine, Broken, Refused, Written, text_of}
use Rattle.signature_commands.specs.Signatures.{accepted, tree_named}
use Rattle.command_input.specs.declared.command.Claim.{Claim}
use Rattle.command_input.specs.declared.command.SigningLeaf.{SigningLeaf}

-- messages with the signature of their root words by a leaf of a key
abbrev pub sealed_by : SigningLeaf → (messages : List (List ℕ)) → Sealing
sealed_by signing messages = record {
  leaves = leaves_of messages;
  inner = signature_of (tree_named signing.material) signing.leaf (words_over (leaves_of messages));
}

abbrev pub batched_with : SigningLeaf → Result (List (List ℕ)) Refusal → Outcome
batched_with signing (Ok messages) = Written (signatures_of (sealed_by signing messages))
batched_with signing (Err bad) = BadLine bad.line bad.reason

-- the signatures of the messages on the lines of an input
abbrev pub batched : SigningLeaf → (bytes : List ℕ) → Outcome
batched signing bytes = batched_with signing (batch_in bytes)

-- `in I`
abbrev pub place_line : ℕ → List ℕ
place_line place = codes "in " ++ decimal place ++ 10 ∷ []

abbrev pub told : PlaceFinding → Outcome
told finding.Accepted = accepted
told (finding.In place) = Written (place_line place)
told (finding.Refused reason) = Refused reason
told (finding.Collision first second) = Broken (Collision first second)

abbrev pub unbatched_with : Claim → Result Kept Refusal → Outcome
unbatched_with claim (Ok kept) = told (finding_of claim.public kept claim.signature)
unbatched_with claim (Err bad) = BadLine bad.line bad.reason

-- what is found of the claimed signature of a message, with the batch behind it
abbrev pub unbatched : Claim → (bytes : List ℕ) → Outcome
unbatched claim bytes = unbatched_with claim (kept_in bytes)

-- a finding of the kept message and batch was written, and it is real
pub record ToldReally (claim : Claim) (bytes : List ℕ) (old new : Option (List ℕ)) : Type 0 where
  pub kept : Kept
  pub read : kept_in bytes ≡ Ok kept
  pub real : IsRealFinding kept (finding_of claim.public kept claim.signature)
  pub text : TookAll old new (text_of (told (finding_of claim.public kept claim.signature)))
