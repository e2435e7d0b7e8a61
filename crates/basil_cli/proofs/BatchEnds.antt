-- What holds of the end of `unbatch`.
use Rattle.std.proofs.Common.{◌≡◌, ◌⊎◌, ℕ, List, [], Bool, true, false, Option, Some, Result, Ok, Err, inl, inr, refl, subst}
use Rattle.line_fields.specs.Refusals.{Refusal}
use Rattle.basil_types.specs.Links.{LinkState}
use Rattle.batch_text.specs.Findings.{FindingsAreReal}
use Rattle.batch_text.specs.Texts.{kept_in}
use Rattle.batch_text.specs.declared.reading.Kept.{Kept}
use Rattle.command_ends.specs.Answers.{Answers, Counts, Tells}
use Rattle.signature_commands.specs.Batches.{ToldReally, unbatched, unbatched_with}
use Rattle.basil_cli.specs.Linked.{ByArguments}
use Rattle.command_input.specs.Reading.{OfBytes}
use Rattle.command_ends.specs.Outcome.{TooLong, is_too_long, unless_too_long}
use Rattle.basil_cli.specs.Output.{output_of}
use Rattle.command_input.specs.declared.command.Claim.{Claim}
use Rattle.command_input.specs.declared.command.Command.{Command}
use Rattle.command_input.specs.declared.command.Command.TheVariants.{Unbatch}
use Rattle.command_ends.specs.declared.status.Status.{Status}
use Rattle.command_ends.specs.declared.status.Status.TheVariants as ends
use Rattle.command_input.proofs.SourceLaws.{of_map}

-- the statuses that tell a finding, but for a refusal
abbrev pub TellsFinding : Status → Type 0
TellsFinding ends.Done = Unit {0}
TellsFinding ends.Broken = Unit {0}
TellsFinding other = ⊥

module _ (claim : Claim) (bytes : List ℕ) (old new : Option (List ℕ)) (law : FindingsAreReal) where
  of_text : (status : Status) → TellsFinding status → (r : Result Kept Refusal) → kept_in bytes ≡ r →
      Tells status (unbatched_with claim r) old new → ToldReally claim bytes old new
  of_text status tells (Ok kept) e t = record { kept = kept; read = e; real = law claim.public kept claim.signature; text = t.text }
  of_text ends.Done tells (Err bad) e t = absurd (let told = t.told in cc)
  of_text ends.Broken tells (Err bad) e t = absurd (let told = t.told in cc)
  of_text other tells (Err bad) e t = absurd tells

  of_length : (status : Status) → TellsFinding status → (long : Bool) → is_too_long bytes ≡ long →
      Tells status (unless_too_long bytes (unbatched claim bytes)) old new → ToldReally claim bytes old new
  of_length status tells false e t =
      let short : Tells status (unbatched claim bytes) old new = rw e at t in
      of_text status tells (kept_in bytes) refl short
  of_length ends.Done tells true e t =
      let long : Tells ends.Done TooLong old new = rw e at t in
      absurd (let told = long.told in cc)
  of_length ends.Broken tells true e t =
      let long : Tells ends.Broken TooLong old new = rw e at t in
      absurd (let told = long.told in cc)
  of_length other tells true e t = absurd tells

  told_really : (status : Status) (counts : Counts) → TellsFinding status →
      Answers status (unless_too_long bytes (unbatched claim bytes)) counts old new → ToldReally claim bytes old new
  told_really ends.Done counts tells t = of_length ends.Done tells (is_too_long bytes) refl t
  told_really ends.Broken counts tells t = of_length ends.Broken tells (is_too_long bytes) refl t
  told_really other counts tells t = absurd tells

tells-finding : (status : Status) → (status ≡ ends.Done) ⊎ (status ≡ ends.Broken) → TellsFinding status
tells-finding status h =
    elim h [
      | inl e ↦ rw e tt
      | inr e ↦ rw e tt
    ]

-- what `unbatch` tells of a finding is real
pub unbatch_ends : (status : Status) (o : Option Command) (command : Command) (counts : Counts) (old new : Option (List ℕ))
    (told tells : Option LinkState) (left : Option (List ℕ)) → o ≡ Some command →
    OfBytes left
    (λ bytes. ByArguments (Some command) told tells (λ coming. Answers status (output_of command coming bytes) counts old new)) →
    FindingsAreReal → (claim : Claim) → o ≡ Some (Unbatch claim) → (status ≡ ends.Done) ⊎ (status ≡ ends.Broken) →
    OfBytes left (λ bytes. ToldReally claim bytes old new)
unbatch_ends status o command counts old new told tells left said answers law claim e h =
    let same : command ≡ Unbatch claim = cc in
    of_map left
    (λ bytes. ByArguments (Some command) told tells (λ coming. Answers status (output_of command coming bytes) counts old new))
    (λ bytes. ToldReally claim bytes old new)
    (λ bytes a.
    let own = subst
    (λ (x : Command). ByArguments (Some x) told tells (λ coming. Answers status (output_of x coming bytes) counts old new)) same a in
    told_really claim bytes old new law status counts (tells-finding status h) (own.should [])) answers
