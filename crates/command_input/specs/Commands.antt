-- The commands, as arguments spell them.
use Rattle.std.specs.Prelude.{ℕ, ◌<◌, ◌==◌, nat_lt, List, [], ◌∷◌, length, Bool, true, false, codes}
use Rattle.std.specs.Prelude.{Option, Some, None, option_map, Result, Ok, Err, ⊤, if◌then◌else◌}
use Rattle.std.specs.Str.{bytes_eq}
use Rattle.hss_sign.specs.Keys.{material_of as key_of, numbers_of}
use Rattle.lms_sign.specs.Sets.{leaves_of}
use Rattle.lms_sign.specs.declared.sets.LmsSet.{LmsSet}
use Rattle.lms_sign.specs.declared.sets.LmsSet.TheVariants.{W4H5, W4H10, W8H5, W8H10}
use Rattle.line_fields.specs.Fields.{hex, number, number_in}
use Rattle.line_fields.specs.Tokens.{Token}
use Rattle.line_fields.specs.declared.complaint.Complaint.{Complaint}
use Rattle.command_input.specs.Ranges.{seed_size, ident_size, most_drawn}
use Rattle.command_input.specs.declared.command.Claim.{Claim}
use Rattle.command_input.specs.declared.command.Command.{Command}
use Rattle.command_input.specs.declared.command.Command.TheVariants.{Replay, Generate, Load, Keys}
use Rattle.command_input.specs.declared.command.Command.TheVariants.{Sign, Verify, Check, Confirm, Audit}
use Rattle.command_input.specs.declared.command.Command.TheVariants.{HssKeys, HssSign, HssVerify, Batch, Unbatch}
use Rattle.command_input.specs.declared.command.HssMaterial.{HssMaterial}
use Rattle.command_input.specs.declared.command.KeyMaterial.{KeyMaterial}
use Rattle.command_input.specs.declared.command.LoadSize.{LoadSize}
use Rattle.command_input.specs.declared.command.SigningLeaf.{SigningLeaf}

-- what an argument says, whatever is wrong with another
abbrev pub said : {A : Type 0} → Result A Complaint → Option A
said (Ok a) = Some a
said (Err c) = None

abbrev pub set_of : Token → Option LmsSet
set_of argument =
    if bytes_eq argument (codes "w4h5") then Some W4H5
    else if bytes_eq argument (codes "w4h10") then Some W4H10
    else if bytes_eq argument (codes "w8h5") then Some W8H5
    else if bytes_eq argument (codes "w8h10") then Some W8H10
    else None

abbrev pub exactly : ℕ → Option (List ℕ) → Option (List ℕ)
exactly count None = None
exactly count (Some bytes) = if length bytes == count then Some bytes else None

-- so many bytes in lower-case hex
abbrev pub hex_of : ℕ → Token → Option (List ℕ)
hex_of count argument = exactly count (said (hex argument))

-- SET SEED IDENT: a set, the bytes of a seed and of an identifier
abbrev pub material_with : Option LmsSet → Option (List ℕ) → Option (List ℕ) → Option KeyMaterial
material_with None seed ident = None
material_with (Some set) None ident = None
material_with (Some set) (Some seed) None = None
material_with (Some set) (Some seed) (Some ident) = Some (record { set = set; seed = seed; ident = ident })

abbrev pub material_of : Token → Token → Token → Option KeyMaterial
material_of set seed ident = material_with (set_of set) (hex_of seed_size seed) (hex_of ident_size ident)

-- SET SET SEED IDENT: the key of the top level, and the set of the bottom one
abbrev pub hss_material_with : Option KeyMaterial → Option LmsSet → Option HssMaterial
hss_material_with None bottom = None
hss_material_with (Some top) None = None
hss_material_with (Some top) (Some bottom) = Some (record { top = top; bottom = bottom })

abbrev pub hss_material_of : Token → Token → Token → Token → Option HssMaterial
hss_material_of top bottom seed ident = hss_material_with (material_of top seed ident) (set_of bottom)

-- the numbers of its signatures
abbrev pub numbers_in : HssMaterial → ℕ
numbers_in m = numbers_of (key_of m.top.seed m.top.ident m.top.set m.bottom)

abbrev pub below : ℕ → Option ℕ → Option ℕ
below bound None = None
below bound (Some n) = if nat_lt n bound then Some n else None

-- Q: the number of a leaf of the set's tree
abbrev pub leaf_of : LmsSet → Token → Option ℕ
leaf_of set argument = below (leaves_of set) (said (number argument))

-- SET SEED IDENT Q: a key, and one of its leaves
abbrev pub at_leaf : KeyMaterial → (leaf : ℕ) → SigningLeaf
at_leaf m leaf = record { material = m; leaf = leaf }

abbrev pub signing_by : Option KeyMaterial → Token → Option SigningLeaf
signing_by None leaf = None
signing_by (Some m) leaf = option_map (at_leaf m) (leaf_of m.set leaf)

abbrev pub signing_of : List Token → Option SigningLeaf
signing_of (set ∷ seed ∷ ident ∷ leaf ∷ []) = signing_by (material_of set seed ident) leaf
signing_of _ = None

-- the leaf is one of the key's
abbrev pub IsLeaf : SigningLeaf → Type 0
IsLeaf signing = signing.leaf < leaves_of signing.material.set

-- N: the number of a signature
abbrev pub number_of : HssMaterial → Token → Option ℕ
number_of m argument = below (numbers_in m) (said (number argument))

abbrev pub hss_sign_by : Option HssMaterial → Token → Option Command
hss_sign_by None number = None
hss_sign_by (Some m) number = option_map (HssSign m) (number_of m number)

-- PUBLIC SIGNATURE: both in hex
abbrev pub claim_with : Option (List ℕ) → Option (List ℕ) → Option Claim
claim_with None signature = None
claim_with (Some public) None = None
claim_with (Some public) (Some signature) = Some (record { public = public; signature = signature })

abbrev pub claim_of : List Token → Option Claim
claim_of (public ∷ signature ∷ []) = claim_with (said (hex public)) (said (hex signature))
claim_of _ = None

-- `replay`, and `loopback`, where links carry each delivery
abbrev pub replay_of : (carried : Bool) → List Token → Option Command
replay_of carried [] = Some (Replay carried)
replay_of carried (argument ∷ arguments) = None

-- N and COUNT: a number, and how many transactions, from 1
abbrev pub size_with : Option ℕ → Option ℕ → Option LoadSize
size_with None count = None
size_with (Some seed) None = None
size_with (Some seed) (Some count) = Some (record { seed = seed; count = count })

abbrev pub size_of : Token → Token → Option LoadSize
size_of seed count = size_with (said (number seed)) (said (number_in 1 most_drawn count))

-- `generate N COUNT`
abbrev pub generate_of : List Token → Option Command
generate_of (seed ∷ count ∷ []) = option_map Generate (size_of seed count)
generate_of _ = None

-- `load N COUNT`
abbrev pub load_of : List Token → Option Command
load_of (seed ∷ count ∷ []) = option_map Load (size_of seed count)
load_of _ = None

-- `keys SET SEED IDENT`
abbrev pub keys_of : List Token → Option Command
keys_of (set ∷ seed ∷ ident ∷ []) = option_map Keys (material_of set seed ident)
keys_of _ = None

-- `sign SET SEED IDENT Q`
abbrev pub sign_of : List Token → Option Command
sign_of arguments = option_map Sign (signing_of arguments)

-- `verify PUBLIC SIGNATURE`
abbrev pub verify_of : List Token → Option Command
verify_of arguments = option_map Verify (claim_of arguments)

-- `hsskeys SET SET SEED IDENT`
abbrev pub hss_keys_of : List Token → Option Command
hss_keys_of (top ∷ bottom ∷ seed ∷ ident ∷ []) = option_map HssKeys (hss_material_of top bottom seed ident)
hss_keys_of _ = None

-- `hsssign SET SET SEED IDENT N`
abbrev pub hss_sign_of : List Token → Option Command
hss_sign_of (top ∷ bottom ∷ seed ∷ ident ∷ number ∷ []) = hss_sign_by (hss_material_of top bottom seed ident) number
hss_sign_of _ = None

-- `hssverify PUBLIC SIGNATURE`
abbrev pub hss_verify_of : List Token → Option Command
hss_verify_of arguments = option_map HssVerify (claim_of arguments)

-- `batch SET SEED IDENT Q`
abbrev pub batch_of : List Token → Option Command
batch_of arguments = option_map Batch (signing_of arguments)

-- `unbatch PUBLIC SIGNATURE`
abbrev pub unbatch_of : List Token → Option Command
unbatch_of arguments = option_map Unbatch (claim_of arguments)

-- `check`
abbrev pub check_of : List Token → Option Command
check_of [] = Some Check
check_of (argument ∷ arguments) = None

-- `confirm`
abbrev pub confirm_of : List Token → Option Command
confirm_of [] = Some Confirm
confirm_of (argument ∷ arguments) = None

-- `audit`
abbrev pub audit_of : List Token → Option Command
audit_of [] = Some Audit
audit_of (argument ∷ arguments) = None

abbrev pub command_of : List Token → Option Command
command_of [] = None
command_of (name ∷ arguments) =
    if bytes_eq name (codes "replay") then replay_of false arguments
    else if bytes_eq name (codes "loopback") then replay_of true arguments
    else if bytes_eq name (codes "generate") then generate_of arguments
    else if bytes_eq name (codes "load") then load_of arguments
    else if bytes_eq name (codes "keys") then keys_of arguments
    else if bytes_eq name (codes "sign") then sign_of arguments
    else if bytes_eq name (codes "verify") then verify_of arguments
    else if bytes_eq name (codes "hsskeys") then hss_keys_of arguments
    else if bytes_eq name (codes "hsssign") then hss_sign_of arguments
    else if bytes_eq name (codes "hssverify") then hss_verify_of arguments
    else if bytes_eq name (codes "batch") then batch_of arguments
    else if bytes_eq name (codes "unbatch") then unbatch_of arguments
    else if bytes_eq name (codes "check") then check_of arguments
    else if bytes_eq name (codes "confirm") then confirm_of arguments
    else if bytes_eq name (codes "audit") then audit_of arguments
    else None

-- whether a command has an input
abbrev pub reads : Command → Bool
reads (Generate size) = false
reads (Load size) = false
reads (Keys m) = false
reads (HssKeys m) = false
reads other = true

-- whether arguments are a command that has an input
abbrev pub arguments_read : Option Command → Bool
arguments_read None = false
arguments_read (Some command) = reads command

-- whether a command runs the schedule that it reads
abbrev pub runs : Command → Bool
runs (Replay carried) = true
runs other = false

-- whether links carry a command's deliveries
abbrev pub is_carried : Command → Bool
is_carried (Replay carried) = carried
is_carried other = false

-- whether arguments are a command whose deliveries links carry
abbrev pub arguments_carried : Option Command → Bool
arguments_carried None = false
arguments_carried (Some command) = is_carried command

-- a command that signs names a leaf of its tree, or a number of its key
abbrev pub HasLeaf : Command → Type 0
HasLeaf (Sign leaf) = IsLeaf leaf
HasLeaf (HssSign m number) = number < numbers_in m
HasLeaf (Batch leaf) = IsLeaf leaf
HasLeaf other = ⊤
