-- What an audit's input leads to.
use Rattle.std.specs.Prelude.{ℕ, List, [], ◌∷◌, ◌++◌, codes, find, slice_get}
use Rattle.std.specs.Prelude.{Option, Some, None, Result, Ok, Err, if◌then◌else◌}
use Rattle.audit_text.specs.Listing.{Names, ListingValue, listed}
use Rattle.audit_text.specs.declared.finding.Finding.{Finding}
use Rattle.audit_text.specs.declared.finding.Finding.TheVariants as finding
use Rattle.basil_types.specs.Version.{genesis, same_version}
use Rattle.basil_types.specs.declared.version.Version.{Version}
use Rattle.line_fields.specs.Refusals.{Refusal}
use Rattle.schedule_text.specs.Spelling.{key_token}
use Rattle.line_fields.specs.Tokens.{Token}
use Rattle.serial_audit.specs.Verdicts.{verdict_of}
use Rattle.serial_audit.specs.declared.audit.Verdict.{Verdict}
use Rattle.serial_audit.specs.declared.audit.Verdict.TheVariants as verdict

abbrev pub name_token : Option (List ℕ × Version) → Token
name_token None = []
name_token (Some n) = n.0

-- the first name that has the version, or `-` for genesis
abbrev pub version_token : Names → Version → Token
version_token names v = if same_version v genesis then codes "-" else name_token (find (λ n. same_version n.1 v) names)

-- `stray NAME KEY FOUND EXPECTED`
abbrev pub stray_line : Names → (place : ℕ) → (key : List ℕ) → (found expected : Version) → List ℕ
stray_line names place key found expected =
    codes "stray " ++ name_token (slice_get names place) ++ 32 ∷ key_token key ++ 32 ∷ version_token names found ++ 32
    ∷ version_token names expected ++ 10 ∷ []

abbrev pub found_by : Names → Verdict → Finding
found_by names verdict.Serial = finding.Serial
found_by names (verdict.Stray place key found expected) = finding.Stray (stray_line names place key found expected)

abbrev pub found_in : Result ListingValue Refusal → Finding
found_in (Ok st) = found_by st.names (verdict_of st.list)
found_in (Err refusal) = finding.BadLine refusal.line refusal.reason

abbrev pub finding_of : List ℕ → Finding
finding_of bytes = found_in (listed bytes)
