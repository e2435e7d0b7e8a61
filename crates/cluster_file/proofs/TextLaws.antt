-- From bytes to the value of a file.
use Rattle.std.proofs.Common.{◌≡◌, ℕ, List, Bool, Option, Some, None, option_and_then, if◌then◌else◌, Result}
use Rattle.std.proofs.Common.{sym, ap, ◌∙◌}
use Rattle.std.specs.Str.{IsUtf8, is_utf8}
use Rattle.std.proofs.lemmas.Str.{IsUtf8-from_is_utf8, is_utf8-from_IsUtf8}
use Rattle.std.proofs.lemmas.Bool.{false_from_ne_true}
use Rattle.json.specs.Json.{Json, document}
use Rattle.cluster_file.specs.Values.{FileValue}
use Rattle.cluster_file.specs.Grammar.{file_in}
use Rattle.cluster_file.specs.Text.{judged, cluster_in}

abbrev judged_if : List ℕ → Bool → Result Rattle.cluster_file.specs.Listing.Listing ℕ
judged_if bytes b = judged (option_and_then file_in (if b then document bytes else None))

-- bytes that aren't UTF-8
pub no_text : (bytes : List ℕ) → (IsUtf8 bytes → ⊥) → cluster_in bytes ≡ judged None
no_text bytes other = ap (judged_if bytes) (false_from_ne_true (is_utf8 bytes) (λ yes. other (IsUtf8-from_is_utf8 bytes yes)))

-- a text that is a value of JSON
pub some_text : (bytes : List ℕ) (j : Json) (v : Option FileValue) → IsUtf8 bytes → document bytes ≡ Some j → v ≡ file_in j
    → cluster_in bytes ≡ judged v
some_text bytes j v text is file =
    ap (judged_if bytes) (is_utf8-from_IsUtf8 bytes text) ∙ ap (λ (o : Option Json). judged (option_and_then file_in o)) is
    ∙ ap judged (sym file)
