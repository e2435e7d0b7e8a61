-- Signatures of messages in a batch.
use Rattle.std.specs.Prelude.{◌≡◌, ℕ, ◌+◌, ◌*◌, ◌^◌, ◌<◌, nat_le, nat_lt, Bool, true, ◌&&◌, List, [], ◌∷◌, ◌++◌}
use Rattle.std.specs.Prelude.{length, map, slice_index, slice_index_or, take, drop, Option, Some, None}
use Rattle.std.specs.Prelude.{if◌then◌else◌}
use Rattle.basil_types.specs.declared.party.Party.{Party}
use Rattle.keyring.specs.Signing.{Signing}
use Rattle.lms_ots.specs.Chains.{joined}
use Rattle.batch_sign.specs.declared.form.BatchRefusal.{BatchRefusal}
use Rattle.batch_sign.specs.declared.form.BatchRefusal.TheVariants.{Short, Range}
use Rattle.batch_sign.specs.Trees.{most_depth, leaf_of, climbed, depth_over, path_over, place_among, root_words}
use Rattle.batch_sign.specs.Trees.{words_over}

-- a signature: u8 depth ‖ u8 place ‖ the path, 32 bytes a level ‖ the signature of the root words
abbrev pub depth_in : List ℕ → ℕ
depth_in signature = slice_index signature 0

abbrev pub place_in : List ℕ → ℕ
place_in signature = slice_index signature 1

abbrev pub path_in : List ℕ → ℕ → List ℕ
path_in signature i = take 32 (drop (2 + 32 * i) signature)

abbrev pub inner_in : List ℕ → List ℕ
inner_in signature = drop (2 + 32 * depth_in signature) signature

-- why bytes can't be a signature: too few of them, or a depth above 8 or a place beyond the tree
abbrev pub form_refusal : List ℕ → Option BatchRefusal
form_refusal signature =
    if nat_lt (length signature) 2 then Some Short
    else if nat_lt most_depth (depth_in signature) then Some Range
    else if nat_lt (length signature) (2 + 32 * depth_in signature) then Some Short
    else if nat_le (2 ^ depth_in signature) (place_in signature) then Some Range
    else None

abbrev pub is_formed : List ℕ → Bool
is_formed signature =
    nat_le 2 (length signature) && nat_le (depth_in signature) most_depth
    && nat_le (2 + 32 * depth_in signature) (length signature) && nat_lt (place_in signature) (2 ^ depth_in signature)

-- the number of the leaf that a signature names, and the root to which its path leads from a message
abbrev pub leaf_number_in : List ℕ → ℕ
leaf_number_in signature = 2 ^ depth_in signature + place_in signature

abbrev pub root_from : (message signature : List ℕ) → List ℕ
root_from message signature =
    climbed (path_in signature) (leaf_number_in signature) (leaf_of message) (depth_in signature)

-- the place among messages that a signature names, the last one's where that is beyond them
abbrev pub place_beside : (messages : List (List ℕ)) (signature : List ℕ) → ℕ
place_beside messages signature = place_among (length messages) (place_in signature)

-- the root words to which a message and a path lead
abbrev pub named : (message signature : List ℕ) → List ℕ
named message signature = root_words (depth_in signature) (root_from message signature)

-- a relation of party, words and signature, of signatures in batches: the inner signature is one of the named words
abbrev pub in_batch : (Party → List ℕ → List ℕ → Bool) → Party → List ℕ → List ℕ → Bool
in_batch inner party words signature =
    is_formed signature && inner party (named words signature) (inner_in signature)

-- ---- made signatures

-- the leaves of messages
abbrev pub leaves_of : List (List ℕ) → List (List ℕ)
leaves_of messages = map leaf_of messages

-- a batch that was signed: its leaves, and the signature of its root words
pub record Sealing : Type 0 where
  pub leaves : List (List ℕ)
  pub inner : List ℕ

-- the signature of the message at a place
abbrev pub signature_of : Sealing → ℕ → List ℕ
signature_of s place =
    depth_over s.leaves ∷ place ∷ joined (path_over s.leaves (depth_over s.leaves) (2 ^ depth_over s.leaves + place))
    (depth_over s.leaves)
    ++ s.inner

-- the signature of words as a batch of one: depth 0, place 0, no path
abbrev pub alone : List ℕ → List ℕ
alone inner = 0 ∷ 0 ∷ inner

abbrev pub words_alone : List ℕ → List ℕ
words_alone message = root_words 0 (leaf_of message)

-- a signer each of whose signatures is a batch of one, two bytes longer than the inner one's
abbrev pub batch_signing : Signing → Signing
batch_signing s = record {
  party = s.party;
  size = s.size + 2;
  gives = λ place words. alone (s.gives place (words_alone words));
  holds = in_batch s.holds;
}

-- what a signer's signature with a number seals
abbrev pub sealing_of : Signing → (spent : ℕ) → (messages : List (List ℕ)) → Sealing
sealing_of s spent messages = record {
  leaves = leaves_of messages;
  inner = s.gives spent (words_over (leaves_of messages));
}

-- each signature of a batch holds of its message
abbrev pub AllHold : (Party → List ℕ → List ℕ → Bool) → Party → (messages : List (List ℕ)) → Sealing → Type 0
AllHold holds party messages s =
    (place : ℕ) → place < length messages
    → in_batch holds party (slice_index_or messages place []) (signature_of s place) ≡ true

-- the numbers of the refusals
abbrev pub refusal_number : BatchRefusal → ℕ
refusal_number Short = 1
refusal_number Range = 2
