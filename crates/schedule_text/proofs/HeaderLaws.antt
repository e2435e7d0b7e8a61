-- What the spelling of a header is read as.
use Rattle.std.proofs.Common.{◌≡◌, ℕ, ◌+◌, ◌*◌, List, ◌∷◌, ◌++◌, Bool, true, false, refl, arith, Ok, codes}
use Rattle.std.specs.Fmt.{decimal}
use Rattle.basil_types.specs.Limits.{IsU64}
use Rattle.basil_types.specs.Setting.{Setting, IsSetting}
use Rattle.line_fields.specs.declared.keys_kind.KeysKind.{KeysKind}
use Rattle.line_fields.specs.declared.keys_kind.KeysKind.TheVariants.{Plain, W4H5, W4H10, W8H5, W8H10, Batch}
use Rattle.schedule_text.specs.declared.line.Line.TheVariants.{Header}
use Rattle.line_fields.specs.Tokens.{Token, one_of, two_of, three_of, four_of, five_of, six_of, seven_of, eight_of}
use Rattle.line_fields.specs.Complaints.{all3, all4}
use Rattle.line_fields.specs.Fields.{behind, literal, number, keys_kind, labelled}
use Rattle.schedule_text.specs.Headers.{header, header_fields, journal_fields, cluster_numbers, cluster_of}
use Rattle.schedule_text.specs.Kinds.{kind_of}
use Rattle.schedule_text.specs.Lines.{line_of}
use Rattle.schedule_text.specs.Reading.{said}
use Rattle.schedule_text.specs.Spelling.{keys_token, journal_tokens}
use Rattle.schedule_text.specs.Fitting.{Fits}
use Rattle.schedule_text.proofs.TokenLaws.{all_clean, clean, clean-decimal}
use Rattle.schedule_text.proofs.FieldLaws.{number-again, keys-again, le-yes}

abbrev pub header_rest : Setting → ℕ → KeysKind → Bool → List Token
header_rest s c k j =
    codes "1" ∷ (codes "f=" ++ decimal s.f) ∷ (codes "shards=" ++ decimal s.shards) ∷ (codes "reads=" ++ decimal s.reads)
    ∷ (codes "delta=" ++ decimal s.delta) ∷ (codes "clock=" ++ decimal c) ∷ (codes "keys=" ++ keys_token k) ∷ journal_tokens j

numbers-again : (s : Setting) → IsSetting s → IsU64 s.delta
    → cluster_numbers (codes "f=" ++ decimal s.f) (codes "shards=" ++ decimal s.shards) (codes "reads=" ++ decimal s.reads)
    (codes "delta=" ++ decimal s.delta) ≡ Ok (record { f = s.f; shards = s.shards; reads = s.reads; delta = s.delta })
unfolding cluster_numbers behind all4 all3
numbers-again s h d =
    let a = h.faulty in let b = h.few in let c = h.correct in
    rw (
      number-again s.f (omega arith),
      number-again s.shards (omega arith),
      number-again s.reads (omega arith),
      number-again s.delta d,
    ) refl

clock-again : (c : ℕ) → IsU64 c → labelled (codes "clock=") number (codes "clock=" ++ decimal c) ≡ Ok c
unfolding behind
clock-again c h = number-again c h

keys-label : (k : KeysKind) → labelled (codes "keys=") keys_kind (codes "keys=" ++ keys_token k) ≡ Ok k
unfolding behind
keys-label k = keys-again k

cluster-again : (s : Setting) → IsSetting s → cluster_of (record { f = s.f; shards = s.shards; reads = s.reads; delta = s.delta }) ≡ Ok s
unfolding cluster_of
cluster-again s h =
    rw (
      le-yes s.f 6 h.faulty,
      le-yes 1 s.shards h.some,
      le-yes s.shards 8 h.few,
      le-yes (s.f + 1) s.reads h.enough,
      le-yes s.reads (4 * s.f + 1) h.correct,
    ) refl

fields-again : (s : Setting) (c : ℕ) (k : KeysKind) (j : Bool) → IsSetting s → IsU64 s.delta → IsU64 c
    → header_fields j (
      codes "1",
      codes "f=" ++ decimal s.f,
      codes "shards=" ++ decimal s.shards,
      codes "reads=" ++ decimal s.reads,
      codes "delta=" ++ decimal s.delta,
      codes "clock=" ++ decimal c,
      codes "keys=" ++ keys_token k,
    )
    ≡ Ok (record { numbers = record { f = s.f; shards = s.shards; reads = s.reads; delta = s.delta }; clock = c; keys = k; journal = j })
unfolding header_fields literal all4 all3
fields-again s c k j h d u = rw (numbers-again s h d, clock-again c u, keys-label k) refl

pub said-header : (s : Setting) (c : ℕ) (k : KeysKind) (j : Bool) →
    Fits (Header s c k j) → said (codes "basil" ∷ header_rest s c k j) ≡ Ok (Header s c k j)
unfolding said kind_of line_of header journal_fields literal eight_of seven_of six_of five_of four_of three_of two_of one_of
said-header s c k true h = rw (fields-again s c k true h.0 h.1 h.2, cluster-again s h.0) refl
said-header s c k false h = rw (fields-again s c k false h.0 h.1 h.2, cluster-again s h.0) refl

keys-clean : (k : KeysKind) → clean (keys_token k) ≡ true
keys-clean Plain = refl
keys-clean W4H5 = refl
keys-clean W4H10 = refl
keys-clean W8H5 = refl
keys-clean W8H10 = refl
keys-clean Batch = refl

pub clean-header : (s : Setting) (c : ℕ) (k : KeysKind) (j : Bool) →
    Fits (Header s c k j) → all_clean (codes "basil" ∷ header_rest s c k j) ≡ true
clean-header s c k true h =
    let a = h.0.faulty in let b = h.0.few in let r = h.0.correct in
    rw (
      clean-decimal s.f (omega arith),
      clean-decimal s.shards (omega arith),
      clean-decimal s.reads (omega arith),
      clean-decimal s.delta h.1,
      clean-decimal c h.2,
      keys-clean k,
    ) refl
clean-header s c k false h =
    let a = h.0.faulty in let b = h.0.few in let r = h.0.correct in
    rw (
      clean-decimal s.f (omega arith),
      clean-decimal s.shards (omega arith),
      clean-decimal s.reads (omega arith),
      clean-decimal s.delta h.1,
      clean-decimal c h.2,
      keys-clean k,
    ) refl
