-- The key of a party of a file, as its own seed gives it.
use Rattle.std.specs.Prelude.{◌≡◌, ⊤, ℕ, nat_lt, not, List, if◌then◌else◌, Option, Some, None, Result, Ok, Err}
use Rattle.std.specs.Str.{bytes_eq}
use Rattle.basil_types.specs.declared.party.Party.{Party}
use Rattle.cluster_file.specs.Listing.{Listing}
use Rattle.keyring_lms.specs.Keys.{public_in}
use Rattle.lms_sign.specs.declared.sets.LmsSet.{LmsSet}
use Rattle.lms_sign.specs.Sets.{leaves_of}
use Rattle.lms_sign.specs.Signing.{Key}
use Rattle.lms_sign.specs.Tree.{Tree, tree_of, public_of}
use Rattle.lms_sign.specs.Verifying.{ident_in}
use Rattle.party_seat.specs.declared.fault.SeatFault.{SeatFault}
use Rattle.party_seat.specs.declared.fault.SeatFault.TheVariants.{WrongKey, WrongLeaf, NoMemory}

-- the tree of a seed, with the identifier of a public key
abbrev pub own_tree : LmsSet → (public seed : List ℕ) → Tree
own_tree set public seed = tree_of set (ident_in public) seed

-- its key from a leaf on, if it has that public key, and so many leaves
abbrev pub key_with : LmsSet → (public seed : List ℕ) → (leaf : ℕ) → Result Key SeatFault
key_with set public seed leaf =
    if not (bytes_eq (public_of (own_tree set public seed)) public) then Err WrongKey
    else if nat_lt (leaves_of set) leaf then Err WrongLeaf
    else Ok (record { tree = own_tree set public seed; next = leaf })

abbrev pub key_under : LmsSet → (public : Option (List ℕ)) → (seed : List ℕ) → (leaf : ℕ) → Result Key SeatFault
key_under set None seed leaf = Err WrongKey
key_under set (Some public) seed leaf = key_with set public seed leaf

-- the key of a party that the file lists
abbrev pub key_in : Listing → Party → (seed : List ℕ) → (leaf : ℕ) → Result Key SeatFault
key_in l party seed leaf = key_under l.set (public_in l.publics party) seed leaf

-- a fault that isn't want of memory is the one of the definition
abbrev pub Tells : {A : Type 0} → SeatFault → Result A SeatFault → Type 0
Tells WrongKey answer = answer ≡ Err WrongKey
Tells WrongLeaf answer = answer ≡ Err WrongLeaf
Tells NoMemory answer = ⊤
