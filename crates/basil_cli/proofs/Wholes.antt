-- A command whose input is read whole.
use Rattle.std.proofs.Common.{◌≡◌, ◌∙◌, ℕ, zero, suc, ◌<◌, List, [], ◌∷◌, length, Option, Some, None, refl, ap, arith}
use Rattle.std.specs.Prelude.{IfSome}
use Rattle.basil_cli.specs.Output.{output_of}
use Rattle.command_ends.specs.Outcome.{Outcome, TooLong, longest_input}
use Rattle.command_input.specs.Inputs.{IsWhole}
use Rattle.command_input.specs.Reading.{OfBytes}
use Rattle.command_input.specs.declared.command.Command.{Command}
use Rattle.command_input.specs.declared.input.Whole.TheVariants as whole

pub whole_ended : (command : Command) (left : Option (List ℕ)) (all : List ℕ) (o : Outcome) →
    IfSome left (λ bytes. IsWhole (whole.Bytes all) bytes) → ((coming : List (List ℕ)) → o ≡ output_of command coming all) →
    OfBytes left (λ bytes. (coming : List (List ℕ)) → o ≡ output_of command coming bytes)
whole_ended command None all o w h = (all, h)
whole_ended command (Some bytes) all o w h = λ coming. h coming ∙ ap (output_of command coming) w.0

-- there are longer ones
record IsLonger (n : ℕ) : Type 0 where
  bytes : List ℕ
  longer : n < length bytes

abbrev zeros : ℕ → List ℕ
zeros zero = []
zeros (suc k) = 0 ∷ zeros k

length_zeros : (k : ℕ) → length (zeros k) ≡ k
length_zeros zero = refl
length_zeros (suc k) = ap suc (length_zeros k)

longer_than : (n : ℕ) → IsLonger n
longer_than n = let l = length_zeros (suc n) in record { bytes = zeros (suc n); longer = omega (arith, l) }

pub long_ended : (command : Command) → ((coming : List (List ℕ)) (bytes : List ℕ) → longest_input < length bytes →
    TooLong ≡ output_of command coming bytes) → (left : Option (List ℕ)) → IfSome left (λ bytes. IsWhole whole.TooLong bytes) →
    OfBytes left (λ bytes. (coming : List (List ℕ)) → TooLong ≡ output_of command coming bytes)
long_ended command long None w =
    let some = longer_than longest_input in (some.bytes, λ coming. long coming some.bytes some.longer)
long_ended command long (Some bytes) w = λ coming. long coming bytes w
