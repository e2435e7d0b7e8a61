-- What the arguments, the bytes of the source, and what links give, lead to.
use Rattle.std.specs.Prelude.{ℕ, List, Option, Some, None}
use Rattle.audit_text.specs.Findings.{finding_of}
use Rattle.check_commands.specs.Auditing.{audited}
use Rattle.check_commands.specs.Checking.{checked}
use Rattle.check_commands.specs.Confirming.{confirmed}
use Rattle.command_ends.specs.Outcome.{Outcome, Usage, Written, unless_too_long}
use Rattle.command_input.specs.Commands.{command_of}
use Rattle.command_input.specs.declared.command.Command.{Command}
use Rattle.command_input.specs.declared.command.Command.TheVariants.{Replay, Generate, Load, Keys}
use Rattle.command_input.specs.declared.command.Command.TheVariants.{Sign, Verify, Check, Confirm, Audit}
use Rattle.command_input.specs.declared.command.Command.TheVariants.{HssKeys, HssSign, HssVerify, Batch, Unbatch}
use Rattle.schedule_commands.specs.Schedules.{load_text, loaded, replayed}
use Rattle.schedule_replay.specs.Outcomes.{outcome_on, replay_of}
use Rattle.schedule_replay.specs.Roads.{road_with}
use Rattle.signature_commands.specs.Batches.{batched, unbatched}
use Rattle.signature_commands.specs.Signatures.{keys_made, signed, verified}
use Rattle.signature_commands.specs.Signatures.{hss_keys_made, hss_signed, hss_verified}

-- where links carry deliveries, these are what they give, one for each
abbrev pub output_of : Command → (coming : List (List ℕ)) → (bytes : List ℕ) → Outcome
output_of (Replay carried) coming bytes = replayed (outcome_on (road_with carried coming) bytes)
output_of (Generate size) coming bytes = Written (load_text size)
output_of (Load size) coming bytes = loaded (replay_of (load_text size))
output_of (Keys material) coming bytes = keys_made material
output_of (Sign leaf) coming bytes = unless_too_long bytes (signed leaf bytes)
output_of (Verify claim) coming bytes = unless_too_long bytes (verified claim bytes)
output_of (HssKeys material) coming bytes = hss_keys_made material
output_of (HssSign material number) coming bytes = unless_too_long bytes (hss_signed material number bytes)
output_of (HssVerify claim) coming bytes = unless_too_long bytes (hss_verified claim bytes)
output_of (Batch leaf) coming bytes = unless_too_long bytes (batched leaf bytes)
output_of (Unbatch claim) coming bytes = unless_too_long bytes (unbatched claim bytes)
output_of Check coming bytes = unless_too_long bytes (checked bytes)
output_of Confirm coming bytes = unless_too_long bytes (confirmed bytes)
output_of Audit coming bytes = unless_too_long bytes (audited (finding_of bytes))

abbrev pub outcome_with : Option Command → (coming : List (List ℕ)) → (bytes : List ℕ) → Outcome
outcome_with None coming bytes = Usage
outcome_with (Some command) coming bytes = output_of command coming bytes

abbrev pub outcome_of : List (List ℕ) → (coming : List (List ℕ)) → (bytes : List ℕ) → Outcome
outcome_of arguments coming bytes = outcome_with (command_of arguments) coming bytes
