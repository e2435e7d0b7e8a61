-- What holds of arguments that are a command, and of arguments that aren't, whatever links give.
use Rattle.std.proofs.Common.{◌≡◌, ℕ, ◌<◌, List, [], ◌++◌, length, Bool, true, false, Option, Some, None, Result, Ok, Err}
use Rattle.std.proofs.Common.{inr, refl, sym, ◌∙◌, subst, arith}
use Rattle.std.proofs.lemmas.Grind.{common_steps}
use Rattle.std.specs.Prelude.{IfOk, IfSome}
use Rattle.basil_types.specs.Links.{LinkState}
use Rattle.schedule_replay.proofs.RoadLaws.{carries_as, carries_none}
use Rattle.command_ends.specs.Answers.{Answers, Counts, IsTold}
use Rattle.command_input.specs.Commands.{reads, runs, arguments_carried}
use Rattle.basil_cli.specs.Linked.{ByArguments}
use Rattle.command_input.specs.Reading.{OfBytes, IsReadThrough, StopsSoon}
use Rattle.command_ends.specs.Outcome.{Outcome, TooLong, Usage, is_too_long, longest_input, unless_too_long}
use Rattle.basil_cli.specs.Output.{outcome_with, output_of}
use Rattle.command_ends.specs.Endings.{outcome_is}
use Rattle.basil_cli.specs.Reading.{StopsSoonFor, is_enough}
use Rattle.command_input.specs.declared.command.Command.{Command}
use Rattle.command_input.specs.declared.command.Command.TheVariants.{Replay, Generate, Load, Keys, Sign, Verify}
use Rattle.command_input.specs.declared.command.Command.TheVariants.{HssKeys, HssSign, HssVerify, Batch, Unbatch, Check, Confirm, Audit}
use Rattle.command_ends.specs.declared.ending.Ending.{Ending}
use Rattle.command_input.specs.declared.input.InputFail.{InputFail}
use Rattle.command_ends.specs.declared.status.Status.{Status}
use Rattle.command_ends.specs.declared.status.Status.TheVariants as ends
use Rattle.command_input.proofs.SourceLaws.{of_any, of_map}
use Rattle.command_input.proofs.Stopping.{untaken}

-- another command than that of a schedule
pub runs_not : (command : Command) → ((carried : Bool) → command ≡ Replay carried → ⊥) → runs command ≡ false
runs_not (Replay carried) h = absurd (h carried refl)
runs_not other h = refl

-- ---- a command that runs no schedule

-- one that has no input leads to the same, whatever the source has
pub unread_as : (command : Command) → reads command ≡ false → (coming : List (List ℕ)) (bytes : List ℕ) →
    output_of command coming [] ≡ output_of command coming bytes
unread_as (Generate size) none coming bytes = refl
unread_as (Load size) none coming bytes = refl
unread_as (Keys m) none coming bytes = refl
unread_as (HssKeys m) none coming bytes = refl
unread_as other none coming bytes = absurd cc

pub unread_all : (command : Command) → reads command ≡ false → (left : Option (List ℕ)) (o : Outcome) →
    ((coming : List (List ℕ)) → o ≡ output_of command coming []) →
    OfBytes left (λ bytes. (coming : List (List ℕ)) → o ≡ output_of command coming bytes)
unread_all command none left o h =
    of_any left (λ bytes. (coming : List (List ℕ)) → o ≡ output_of command coming bytes)
    (λ bytes coming. h coming ∙ unread_as command none coming bytes)

over : (bytes : List ℕ) (o : Outcome) → longest_input < length bytes → TooLong ≡ unless_too_long bytes o
over bytes o long = grind (arith, common_steps)

-- the input of one that has one may be too long
pub long_as : (command : Command) → runs command ≡ false → reads command ≡ true → (coming : List (List ℕ)) (bytes : List ℕ) →
    longest_input < length bytes → TooLong ≡ output_of command coming bytes
long_as (Sign leaf) other read coming bytes long = over bytes _ long
long_as (Verify claim) other read coming bytes long = over bytes _ long
long_as (HssSign m number) other read coming bytes long = over bytes _ long
long_as (HssVerify claim) other read coming bytes long = over bytes _ long
long_as (Batch leaf) other read coming bytes long = over bytes _ long
long_as (Unbatch claim) other read coming bytes long = over bytes _ long
long_as Check other read coming bytes long = over bytes _ long
long_as Confirm other read coming bytes long = over bytes _ long
long_as Audit other read coming bytes long = over bytes _ long
long_as none other read coming bytes long = absurd cc

-- that alone decides for it
pub enough_as : (command : Command) → runs command ≡ false → (coming : List (List ℕ)) → is_too_long ≡ is_enough command coming
enough_as (Replay carried) other coming = absurd cc
enough_as command other coming = refl

module _ (o : Option Command) where
  -- a fact of what links give, and one that follows from it
  by_arguments : (a b : Option LinkState) (left : Option (List ℕ)) (P Q : List ℕ → List (List ℕ) → Type 0) →
      ((bytes : List ℕ) (coming : List (List ℕ)) → P bytes coming → Q bytes coming) →
      OfBytes left (λ bytes. ByArguments o a b (P bytes)) → OfBytes left (λ bytes. ByArguments o a b (Q bytes))
  by_arguments a b left P Q turn h =
      of_map left (λ bytes. ByArguments o a b (P bytes)) (λ bytes. ByArguments o a b (Q bytes))
      (λ bytes is. carries_as (arguments_carried o) is (λ gave so later. turn bytes (gave ++ later) (so later))) h

  -- where links aren't used
  of_unlinked : (a : Option LinkState) (left : Option (List ℕ)) (Q : List ℕ → List (List ℕ) → Type 0) →
      OfBytes left (λ bytes. (coming : List (List ℕ)) → Q bytes coming) → OfBytes left (λ bytes. ByArguments o a a (Q bytes))
  of_unlinked a left Q h =
      of_map left (λ bytes. (coming : List (List ℕ)) → Q bytes coming) (λ bytes. ByArguments o a a (Q bytes))
      (λ bytes is. carries_none (arguments_carried o) refl (λ later. is later)) h

  unlinked : (a : Option LinkState) (left : Option (List ℕ)) (Q : List ℕ → List (List ℕ) → Type 0) →
      IfSome left (λ bytes. (coming : List (List ℕ)) → Q bytes coming) → IfSome left (λ bytes. ByArguments o a a (Q bytes))
  unlinked a None Q h = tt
  unlinked a (Some bytes) Q h = carries_none (arguments_carried o) refl (λ later. h later)

  -- what holds of all
  of_all : (a : Option LinkState) (left : Option (List ℕ)) (Q : List ℕ → List (List ℕ) → Type 0) →
      ((bytes : List ℕ) (coming : List (List ℕ)) → Q bytes coming) → OfBytes left (λ bytes. ByArguments o a a (Q bytes))
  of_all a left Q h = of_unlinked a left Q (of_any left (λ bytes. (coming : List (List ℕ)) → Q bytes coming) h)

  always : (left : Option (List ℕ)) (Q : List ℕ → List (List ℕ) → Type 0) → ((bytes : List ℕ) (coming : List (List ℕ)) → Q bytes coming) →
      IfSome left (λ bytes. (coming : List (List ℕ)) → Q bytes coming)
  always None Q h = tt
  always (Some bytes) Q h = h bytes

-- ---- what a command leads to that runs no schedule

module _ (command : Command) (a : Option LinkState) (left : Option (List ℕ)) where
  pub ended_alone : (result : Result Ending InputFail) →
      IfOk result (λ e. OfBytes left (λ bytes. (coming : List (List ℕ)) → outcome_is e ≡ output_of command coming bytes)) →
      OfBytes left (λ bytes. ByArguments (Some command) a a (λ coming. IfOk result (λ e. outcome_is e ≡ output_of command coming bytes)))
  ended_alone (Ok e) h = of_unlinked (Some command) a left (λ bytes coming. outcome_is e ≡ output_of command coming bytes) h
  ended_alone (Err f) h = of_all (Some command) a left (λ bytes coming. Unit {0}) (λ bytes coming. tt)

  pub through_alone : (new : Option (List ℕ)) (result : Result Ending InputFail) →
      IfOk result (λ _. IfSome left (λ bytes. (coming : List (List ℕ)) → IsReadThrough (is_enough command coming) bytes new)) →
      IfSome left
      (λ bytes. ByArguments (Some command) a a (λ coming. IfOk result (λ _. IsReadThrough (is_enough command coming) bytes new)))
  through_alone new (Ok e) h = unlinked (Some command) a left (λ bytes coming. IsReadThrough (is_enough command coming) bytes new) h
  through_alone new (Err f) h =
      unlinked (Some command) a left (λ bytes coming. Unit {0})
      (always (Some command) left (λ bytes coming. Unit {0}) (λ bytes coming. tt))

  pub soon_alone : (new : Option (List ℕ)) →
      IfSome left (λ bytes. (coming : List (List ℕ)) → StopsSoon (is_enough command coming) bytes new) →
      IfSome left (λ bytes. ByArguments (Some command) a a (λ coming. StopsSoon (is_enough command coming) bytes new))
  soon_alone new h = unlinked (Some command) a left (λ bytes coming. StopsSoon (is_enough command coming) bytes new) h

-- ---- what is answered of an ending, and of none

module _ (command : Command) (a b : Option LinkState) (left : Option (List ℕ)) (status : Status) where
  pub ending_answers : (ending : Ending) (counts : Counts) (old new : Option (List ℕ)) →
      OfBytes left (λ bytes. ByArguments (Some command) a b (λ coming. outcome_is ending ≡ output_of command coming bytes)) →
      Answers status (outcome_is ending) counts old new →
      OfBytes left (λ bytes. ByArguments (Some command) a b (λ coming. Answers status (output_of command coming bytes) counts old new))
  ending_answers ending counts old new h answers =
      by_arguments (Some command) a b left (λ bytes coming. outcome_is ending ≡ output_of command coming bytes)
      (λ bytes coming. Answers status (output_of command coming bytes) counts old new)
      (λ bytes coming e. subst (λ (o : Outcome). Answers status o counts old new) e answers) h

  pub ending_told : (ending : Ending) →
      OfBytes left (λ bytes. ByArguments (Some command) a b (λ coming. outcome_is ending ≡ output_of command coming bytes)) →
      IsTold status (outcome_is ending) →
      OfBytes left (λ bytes. ByArguments (Some command) a b (λ coming. IsTold status (output_of command coming bytes)))
  ending_told ending h told =
      by_arguments (Some command) a b left (λ bytes coming. outcome_is ending ≡ output_of command coming bytes)
      (λ bytes coming. IsTold status (output_of command coming bytes))
      (λ bytes coming e. subst (λ (o : Outcome). IsTold status o) e told) h

  -- where there is no ending, whatever the outcome is
  pub fault_answers : (counts : Counts) (old new : Option (List ℕ)) →
      OfBytes left (λ bytes. ByArguments (Some command) a b (λ coming. Unit {0})) →
      ((o : Outcome) → Answers status o counts old new) →
      OfBytes left (λ bytes. ByArguments (Some command) a b (λ coming. Answers status (output_of command coming bytes) counts old new))
  fault_answers counts old new h answers =
      by_arguments (Some command) a b left (λ bytes coming. Unit {0})
      (λ bytes coming. Answers status (output_of command coming bytes) counts old new)
      (λ bytes coming is. answers (output_of command coming bytes)) h

  pub fault_told : OfBytes left (λ bytes. ByArguments (Some command) a b (λ coming. Unit {0})) →
      ((o : Outcome) → IsTold status o) →
      OfBytes left (λ bytes. ByArguments (Some command) a b (λ coming. IsTold status (output_of command coming bytes)))
  fault_told h told =
      by_arguments (Some command) a b left (λ bytes coming. Unit {0})
      (λ bytes coming. IsTold status (output_of command coming bytes)) (λ bytes coming is. told (output_of command coming bytes)) h

-- ---- arguments

module _ (o : Option Command) (a : Option LinkState) (left : Option (List ℕ)) where
  -- arguments that aren't a command
  pub usage_answers : (status : Status) (counts : Counts) (old new : Option (List ℕ)) → o ≡ None → Answers status Usage counts old new →
      OfBytes left (λ bytes. ByArguments o a a (λ coming. Answers status (outcome_with o coming bytes) counts old new))
  usage_answers status counts old new none answers =
      of_all o a left (λ bytes coming. Answers status (outcome_with o coming bytes) counts old new)
      (λ bytes coming. subst (λ (x : Option Command). Answers status (outcome_with x coming bytes) counts old new) (sym none) answers)

  pub usage_told : (status : Status) → o ≡ None → IsTold status Usage →
      OfBytes left (λ bytes. ByArguments o a a (λ coming. IsTold status (outcome_with o coming bytes)))
  usage_told status none told =
      of_all o a left (λ bytes coming. IsTold status (outcome_with o coming bytes))
      (λ bytes coming. subst (λ (x : Option Command). IsTold status (outcome_with x coming bytes)) (sym none) told)

  -- where memory is wanting for the arguments
  pub wanting_answers : (counts : Counts) (old : Option (List ℕ)) →
      OfBytes left (λ bytes. ByArguments o a a (λ coming. Answers ends.NoMemory (outcome_with o coming bytes) counts old old))
  wanting_answers counts old =
      of_all o a left (λ bytes coming. Answers ends.NoMemory (outcome_with o coming bytes) counts old old) (λ bytes coming. refl)

  pub wanting_told : OfBytes left (λ bytes. ByArguments o a a (λ coming. IsTold ends.NoMemory (outcome_with o coming bytes)))
  wanting_told = of_all o a left (λ bytes coming. IsTold ends.NoMemory (outcome_with o coming bytes)) (λ bytes coming. inr refl)

-- ---- where nothing was taken of the source

pub untaken_all : (command : Command) (left : Option (List ℕ)) →
    IfSome left (λ bytes. (coming : List (List ℕ)) → StopsSoon (is_enough command coming) bytes left)
untaken_all command None = tt
untaken_all command (Some bytes) = λ coming. untaken (is_enough command coming) (Some bytes)

pub untaken_for : (command : Option Command) (coming : List (List ℕ)) (bytes : List ℕ) → StopsSoonFor command coming bytes (Some bytes)
untaken_for None coming bytes = tt
untaken_for (Some command) coming bytes = untaken (is_enough command coming) (Some bytes)

-- where nothing was taken of the source either
pub untaken_arguments : (o : Option Command) (a : Option LinkState) (left : Option (List ℕ)) →
    IfSome left (λ bytes. ByArguments o a a (λ coming. StopsSoonFor o coming bytes left))
untaken_arguments o a None = tt
untaken_arguments o a (Some bytes) = carries_none (arguments_carried o) refl (λ later. untaken_for o later bytes)
