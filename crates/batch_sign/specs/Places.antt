-- A message's place in a batch.
use Rattle.std.specs.Prelude.{◌≡◌, ◌≢◌, ℕ, zero, suc, ◌/◌, ◌^◌, ◌<◌, nat_lt, Bool, ◌&&◌, List, [], length}
use Rattle.std.specs.Prelude.{slice_index_or, Result, Ok, Err, ⊤, if◌then◌else◌}
use Rattle.std.specs.Str.{bytes_eq}
use Rattle.sha2.specs.Sha256.{sha256}
use Rattle.batch_sign.specs.Trees.{climbed, depth_over, leaf_of, leaf_text, parent_text, path_over, words_over}
use Rattle.batch_sign.specs.Signatures.{depth_in, leaf_number_in, leaves_of, named, path_in, place_beside}
use Rattle.batch_sign.specs.declared.finding.PlaceFault.{PlaceFault}
use Rattle.batch_sign.specs.declared.finding.PlaceFault.TheVariants as fault

-- whether a signature leads from a message to the root words of these messages, of which there is one at least
abbrev pub leads_to : (messages : List (List ℕ)) (message signature : List ℕ) → Bool
leads_to messages message signature =
    nat_lt 0 (length messages) && bytes_eq (named message signature) (words_over (leaves_of messages))

-- the batch's own message at the place that a signature names
abbrev pub message_beside : (messages : List (List ℕ)) (signature : List ℕ) → List ℕ
message_beside messages signature = slice_index_or messages (place_beside messages signature) []

-- ---- two ways to one root

-- the texts that are hashed on the way from a message to a root: the leaf's, and that of the node at each level above
unfoldable pub text_above : (path : ℕ → List ℕ) (r : ℕ) (message : List ℕ) → (level : ℕ) → List ℕ
text_above path r message zero = leaf_text message
text_above path r message (suc level) =
    parent_text (r / 2 ^ level) (path level) (climbed path r (leaf_of message) level)

-- the way of a message by a signature's path, and that of the batch's own message by its own
abbrev pub way_of : (message signature : List ℕ) → (level : ℕ) → List ℕ
way_of message signature = text_above (path_in signature) (leaf_number_in signature) message

abbrev pub way_in : (messages : List (List ℕ)) (signature : List ℕ) → (level : ℕ) → List ℕ
way_in messages signature =
    text_above (path_over (leaves_of messages) (depth_over (leaves_of messages)) (leaf_number_in signature))
    (leaf_number_in signature) (message_beside messages signature)

-- the highest level, up to this one, at which two ways differ; else that of the leaves
unfoldable pub parting : (first second : ℕ → List ℕ) → (level : ℕ) → ℕ
parting first second zero = 0
parting first second (suc level) =
    if bytes_eq (first (suc level)) (second (suc level)) then parting first second level else suc level

-- ---- what is found

pub data Found : Type 0 where
  -- the message and the signature's path lead to another root
  Elsewhere : Found
  -- the message stands at this place
  At : (place : ℕ) → Found
  -- two texts have one digest
  Meets : (first second : List ℕ) → Found

-- the texts of two ways to one root where they part
abbrev pub meets_at : (first second : ℕ → List ℕ) → (level : ℕ) → Found
meets_at first second level = Meets (first level) (second level)

abbrev pub meeting_of : (messages : List (List ℕ)) (message signature : List ℕ) → Found
meeting_of messages message signature =
    meets_at (way_of message signature) (way_in messages signature)
    (parting (way_of message signature) (way_in messages signature) (depth_in signature))

-- where a message stands by a signature of good form: at the place that this names, if it leads to the batch's root
abbrev pub found_in : (messages : List (List ℕ)) (message signature : List ℕ) → Found
found_in messages message signature =
    if leads_to messages message signature then
    (if bytes_eq (message_beside messages signature) message then At (place_beside messages signature)
    else meeting_of messages message signature)
    else Elsewhere

-- the answer is what is found, or memory is wanting
abbrev pub Tells : Found → Result ℕ PlaceFault → Type 0
Tells found (Ok place) = found ≡ At place
Tells found (Err fault.OtherBatch) = found ≡ Elsewhere
Tells found (Err (fault.Collision first second)) = found ≡ Meets first second
Tells found (Err fault.NoMemory) = ⊤

-- ---- what it means

-- a message stands at a place
pub record StandsAt (messages : List (List ℕ)) (message : List ℕ) (place : ℕ) : Type 0 where
  pub below : place < length messages
  pub is : slice_index_or messages place [] ≡ message

-- two texts with one digest
pub record Collides (first second : List ℕ) : Type 0 where
  pub differ : first ≢ second
  pub same : sha256 first ≡ sha256 second

-- the message stands where it is found, and two texts that meet collide
abbrev pub IsReal : (messages : List (List ℕ)) (message : List ℕ) → Found → Type 0
IsReal messages message Elsewhere = ⊤
IsReal messages message (At place) = StandsAt messages message place
IsReal messages message (Meets first second) = Collides first second
