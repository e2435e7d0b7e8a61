-- Valid signatures, and why one is refused (RFC 8554, section 6.3).
use Rattle.std.specs.Prelude.{◌≡◌, ℕ, zero, suc, ◌+◌, ◌-◌, ◌<◌, ◌==◌, nat_le, Bool, ◌&&◌}
use Rattle.std.specs.Prelude.{List, [], ◌∷◌, ◌++◌, take, drop, length, Option, Some, None}
use Rattle.std.specs.Prelude.{is_some, option_map, unwrap_or, Ok, Err, Result, if◌then◌else◌}
use Rattle.std.specs.Int.{w32, to_be_bytes}
use Rattle.basil_types.specs.Built.{or_else}
use Rattle.lms_sign.specs.Sets.{size_of}
use Rattle.lms_sign.specs.Verifying.{Valid, number_at, set_in, first_refusal as lms_refusal}
use Rattle.hss_sign.specs.declared.verifying.HssRefusal.{HssRefusal}
use Rattle.hss_sign.specs.declared.verifying.HssRefusal.TheVariants.{KeyLength, Levels, Count, SetType, Short, Lms}

-- a level above the last: its signature, and the public key of the next level, which it signs
pub record Level : Type 0 where
  pub signature : List ℕ
  pub next_key : List ℕ

-- the levels above the last and then the last signature, as a signature spells them
abbrev pub spelled : List Level → List ℕ → List ℕ
spelled [] last = last
spelled (level ∷ levels) last = level.signature ++ (level.next_key ++ spelled levels last)

-- the key of each level signs the next key, and the last key signs the message
abbrev pub Signs : List ℕ → List Level → List ℕ → List ℕ → Type 0
Signs key [] last message = Valid key message last
Signs key (level ∷ levels) last message =
    Valid key level.next_key level.signature × Signs level.next_key levels last message

-- a signature of a message under a public key
pub record HssValid (public message signature : List ℕ) : Type 0 where
  pub key : List ℕ
  pub levels : List Level
  pub last : List ℕ
  pub at_most_eight : length levels < 8
  pub public_is : public ≡ to_be_bytes w32 (length levels + 1) ++ key
  pub signature_is : signature ≡ to_be_bytes w32 (length levels) ++ spelled levels last
  pub signs : Signs key levels last message

-- a refusal where a test fails, else what the later tests give
abbrev pub unless : Bool → HssRefusal → Option HssRefusal → Option HssRefusal
unless passed refusal later = if passed then later else Some refusal

-- the bytes of a signature under a key of a set
abbrev pub size_under : List ℕ → ℕ
size_under key = unwrap_or (option_map size_of (set_in key)) 0

-- the parts of what is left of a signature at a level above the last
abbrev pub signature_in : List ℕ → List ℕ → List ℕ
signature_in key rest = take (size_under key) rest

abbrev pub next_key_in : List ℕ → List ℕ → List ℕ
next_key_in key rest = take 56 (drop (size_under key) rest)

abbrev pub rest_after : List ℕ → List ℕ → List ℕ
rest_after key rest = drop (size_under key + 56) rest

-- what LMS refuses at a level
abbrev pub refusal_at : ℕ → List ℕ → List ℕ → List ℕ → Option HssRefusal
refusal_at level key message signature = option_map (Lms level) (lms_refusal key message signature)

-- the first test that fails at a level above the last
abbrev pub refusal_above : ℕ → List ℕ → List ℕ → Option HssRefusal
refusal_above level key rest =
    unless (is_some (set_in key)) (SetType level)
    (unless (nat_le (size_under key + 56) (length rest)) (Short level)
    (refusal_at level key (next_key_in key rest) (signature_in key rest)))

-- the first test that fails at the last level, whose signature is all that is left
abbrev pub refusal_last : ℕ → List ℕ → List ℕ → List ℕ → Option HssRefusal
refusal_last level key message rest = unless (is_some (set_in key)) (SetType level) (refusal_at level key message rest)

-- the first test that fails from a level on, where so many levels stand below it
abbrev pub refusal_from : ℕ → ℕ → List ℕ → List ℕ → List ℕ → Option HssRefusal
refusal_from zero level key message rest = refusal_last level key message rest
refusal_from (suc below) level key message rest =
    or_else (refusal_above level key rest)
    (refusal_from below (level + 1) (next_key_in key rest) message (rest_after key rest))

-- the first test that fails
unfoldable pub first_refusal : List ℕ → List ℕ → List ℕ → Option HssRefusal
first_refusal public message signature =
    unless (length public == 60) KeyLength
    (unless (nat_le 1 (number_at public 0) && nat_le (number_at public 0) 8) Levels
    (unless (nat_le 4 (length signature) && number_at signature 0 == number_at public 0 - 1) Count
    (refusal_from (number_at public 0 - 1) 0 (take 56 (drop 4 public)) message (drop 4 signature))))

-- Ok where no test fails
abbrev pub answer_of : Option HssRefusal → Result (Unit {0}) HssRefusal
answer_of None = Ok tt
answer_of (Some refusal) = Err refusal
