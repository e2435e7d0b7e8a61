-- The text of a file.
use Rattle.std.specs.Prelude.{◌≡◌, ⊤, ℕ, List, if◌then◌else◌, Option, Some, None, option_and_then, Result, Ok, Err}
use Rattle.std.specs.Str.{is_utf8}
use Rattle.json.specs.Json.{Json, document}
use Rattle.cluster_file.specs.Values.{FileValue}
use Rattle.cluster_file.specs.Grammar.{file_in}
use Rattle.cluster_file.specs.Faults.{fault_of}
use Rattle.cluster_file.specs.Listing.{Listing, listing_of}
use Rattle.cluster_file.specs.declared.fault.TheConstants.{NOT_A_FILE}
use Rattle.cluster_file.specs.declared.fault.FileFault.{FileFault}
use Rattle.cluster_file.specs.declared.fault.FileFault.TheVariants.{BadFile, NoMemory}

-- the value of JSON (RFC 8259) that bytes in UTF-8 write
abbrev pub json_in : List ℕ → Option Json
json_in bytes = if is_utf8 bytes then document bytes else None

abbrev pub answer_unless : Option ℕ → Listing → Result Listing ℕ
answer_unless None listing = Ok listing
answer_unless (Some reason) listing = Err reason

abbrev pub judged : Option FileValue → Result Listing ℕ
judged None = Err NOT_A_FILE
judged (Some v) = answer_unless (fault_of v) (listing_of v)

-- what a value of JSON gives, or the first reason to refuse it
abbrev pub cluster_of : Json → Result Listing ℕ
cluster_of j = judged (file_in j)

-- what a text gives, or the first reason to refuse it
abbrev pub cluster_in : List ℕ → Result Listing ℕ
cluster_in bytes = judged (option_and_then file_in (json_in bytes))

-- a fault that isn't want of memory has the reason of the definition
abbrev pub Tells : FileFault → Result Listing ℕ → Type 0
Tells (BadFile reason) answer = answer ≡ Err reason
Tells NoMemory answer = ⊤
