-- What is read as a header is its spelling.
use Rattle.std.proofs.Common.{◌≡◌, ℕ, ◌+◌, ◌*◌, List, [], ◌∷◌, ◌++◌, Bool, true, false, ◌&&◌, refl}
use Rattle.std.proofs.Common.{sym, ap, ◌∙◌, Result, Ok, Err, Option, Some, None, codes, subst}
use Rattle.std.specs.Prelude.{nat_le, if◌then◌else◌}
use Rattle.std.specs.Fmt.{decimal}
use Rattle.basil_types.specs.Limits.{IsU64}
use Rattle.basil_types.specs.Setting.{Setting, IsSetting}
use Rattle.basil_types.specs.declared.cluster.ClusterFault.{ClusterFault}
use Rattle.basil_types.specs.declared.cluster.ClusterFault.TheVariants.{FOutOfRange, ShardsOutOfRange, ReadsOutOfRange}
use Rattle.line_fields.specs.declared.complaint.Complaint.{Complaint}
use Rattle.line_fields.specs.declared.keys_kind.KeysKind.{KeysKind}
use Rattle.schedule_text.specs.declared.line.Line.{Line}
use Rattle.schedule_text.specs.declared.line.Line.TheVariants.{Header}
use Rattle.schedule_text.specs.declared.kinds.header.ClusterNumbers.{ClusterNumbers}
use Rattle.schedule_text.specs.declared.kinds.header.HeaderFields.{HeaderFields}
use Rattle.line_fields.specs.Tokens.{Token, seven_of, eight_of}
use Rattle.line_fields.specs.Complaints.{both, all4}
use Rattle.line_fields.specs.Fields.{literal, number, keys_kind, labelled}
use Rattle.schedule_text.specs.Headers.{header, header_fields, journal_fields, cluster_numbers}
use Rattle.schedule_text.specs.Headers.{cluster_of, accepted, with_cluster, seven_fields, eight_fields}
use Rattle.schedule_text.specs.Spelling.{line_tokens, keys_token, journal_tokens}
use Rattle.schedule_text.proofs.TokenLaws.{and-left, and-right}
use Rattle.schedule_text.proofs.ResultTakes.{ok-is, made-takes, both-takes, all4-takes, seven-take, eight-take}
use Rattle.schedule_text.proofs.FieldTakes.{number-takes, literal-takes, labelled-takes, keys-takes, le-of}
use Rattle.schedule_text.proofs.KindTakes.{Stands}

label-number : (label w : Token) (n : ℕ) → labelled label number w ≡ Ok n → (label ++ decimal n ≡ w) × IsU64 n
label-number label w n h =
    let l = labelled-takes label number w n h in
    let t = number-takes l.0 n l.2 in
    (ap (λ (z : Token). label ++ z) t.0 ∙ sym l.1, t.1)

label-keys : (label w : Token) (k : KeysKind) → labelled label keys_kind w ≡ Ok k → label ++ keys_token k ≡ w
label-keys label w k h =
    let l = labelled-takes label keys_kind w k h in
    ap (λ (z : Token). label ++ z) (keys-takes l.0 k l.2) ∙ sym l.1

abbrev Numbers : Token → Token → Token → Token → ClusterNumbers → Type 0
Numbers f s r d n =
    (codes "f=" ++ decimal n.f ≡ f) × (codes "shards=" ++ decimal n.shards ≡ s) ×
    (codes "reads=" ++ decimal n.reads ≡ r) × (codes "delta=" ++ decimal n.delta ≡ d) × IsU64 n.delta

numbers-take : (f s r d : Token) (n : ClusterNumbers) → cluster_numbers f s r d ≡ Ok n → Numbers f s r d n
unfolding cluster_numbers
numbers-take f s r d n h =
    let F : ℕ × ℕ × ℕ × ℕ → ClusterNumbers = λ t. record { f = t.0; shards = t.1; reads = t.2; delta = t.3 } in
    let A = labelled (codes "f=") number f in
    let B = labelled (codes "shards=") number s in
    let C = labelled (codes "reads=") number r in
    let D = labelled (codes "delta=") number d in
    let m = made-takes F (all4 A B C D) n h in
    let q = all4-takes A B C D m.0 m.1 in
    let a = label-number (codes "f=") f m.0.0 q.0 in
    let b = label-number (codes "shards=") s m.0.1 q.1 in
    let c = label-number (codes "reads=") r m.0.2 q.2 in
    let e = label-number (codes "delta=") d m.0.3 q.3 in
    subst (Numbers f s r d) m.2 (a.0, b.0, c.0, e.0, e.1)

abbrev Seven : Type 0
Seven = Token × Token × Token × Token × Token × Token × Token

abbrev seven_tokens : HeaderFields → Seven
seven_tokens h = (
  codes "1",
  codes "f=" ++ decimal h.numbers.f,
  codes "shards=" ++ decimal h.numbers.shards,
  codes "reads=" ++ decimal h.numbers.reads,
  codes "delta=" ++ decimal h.numbers.delta,
  codes "clock=" ++ decimal h.clock,
  codes "keys=" ++ keys_token h.keys,
)

abbrev Told : Bool → Seven → HeaderFields → Type 0
Told j t h = (seven_tokens h ≡ t) × (h.journal ≡ j) × IsU64 h.numbers.delta × IsU64 h.clock

fields-told : (j : Bool) (t : Seven) (h : HeaderFields) → header_fields j t ≡ Ok h → Told j t h
unfolding header_fields
fields-told j t h e =
    let F : (Unit {0}) × ClusterNumbers × ℕ × KeysKind → HeaderFields =
    λ u. record { numbers = u.1; clock = u.2; keys = u.3; journal = j } in
    let A = literal (codes "1") t.0 in
    let B = cluster_numbers t.1 t.2 t.3 t.4 in
    let C = labelled (codes "clock=") number t.5 in
    let D = labelled (codes "keys=") keys_kind t.6 in
    let m = made-takes F (all4 A B C D) h e in
    let q = all4-takes A B C D m.0 m.1 in
    let a = literal-takes (codes "1") t.0 m.0.0 q.0 in
    let b = numbers-take t.1 t.2 t.3 t.4 m.0.1 q.1 in
    let c = label-number (codes "clock=") t.5 m.0.2 q.2 in
    let k = label-keys (codes "keys=") t.6 m.0.3 q.3 in
    subst (Told j t) m.2 ((λ i. (sym a i, b.0 i, b.1 i, b.2 i, b.3 i, c.0 i, k i)), refl, b.4, c.1)

cluster-takes : (n : ClusterNumbers) (s : Setting) →
    cluster_of n ≡ Ok s → (s ≡ record { f = n.f; shards = n.shards; reads = n.reads; delta = n.delta }) × IsSetting s
unfolding cluster_of
cluster-takes n s h = tested (nat_le n.f 6) refl
    (nat_le 1 n.shards && nat_le n.shards 8) refl (nat_le (n.f + 1) n.reads && nat_le n.reads (4 * n.f + 1)) refl h
  where
    S : Setting
    S = record { f = n.f; shards = n.shards; reads = n.reads; delta = n.delta }

    fault : Bool → Bool → Bool → Option ClusterFault
    fault a b c = if a then (if b then (if c then None else Some ReadsOutOfRange) else Some ShardsOutOfRange) else Some FOutOfRange

    tested : (a : Bool) → nat_le n.f 6 ≡ a → (b : Bool) →
        (nat_le 1 n.shards && nat_le n.shards 8) ≡ b → (c : Bool) → (nat_le (n.f + 1) n.reads && nat_le n.reads (4 * n.f + 1)) ≡ c
        → accepted (fault a b c) S ≡ Ok s → (s ≡ S) × IsSetting s
    tested false i b j c k h = cc h
    tested true i false j c k h = cc h
    tested true i true j false k h = cc h
    tested true i true j true k h =
        let e : S ≡ s = ok-is S s h in
        subst (λ (z : Setting). (z ≡ S) × IsSetting z) e (
          refl,
          record {
            faulty = le-of n.f 6 i;
            some = le-of 1 n.shards (and-left (nat_le 1 n.shards) (nat_le n.shards 8) j);
            few = le-of n.shards 8 (and-right (nat_le 1 n.shards) (nat_le n.shards 8) j);
            enough = le-of (n.f + 1) n.reads (and-left (nat_le (n.f + 1) n.reads) (nat_le n.reads (4 * n.f + 1)) k);
            correct = le-of n.reads (4 * n.f + 1) (and-right (nat_le (n.f + 1) n.reads) (nat_le n.reads (4 * n.f + 1)) k);
          },
        )

-- the tokens of a header are its seven, and `journal` or nothing
abbrev Header_of : List Token → HeaderFields → Type 0
Header_of ws h =
    (codes "1" ∷ (codes "f=" ++ decimal h.numbers.f)
    ∷ (codes "shards=" ++ decimal h.numbers.shards) ∷ (codes "reads=" ++ decimal h.numbers.reads)
    ∷ (codes "delta=" ++ decimal h.numbers.delta)
    ∷ (codes "clock=" ++ decimal h.clock) ∷ (codes "keys=" ++ keys_token h.keys) ∷ journal_tokens h.journal ≡ ws)
    × IsU64 h.numbers.delta × IsU64 h.clock

without_journal : (ws : List Token) (t : Seven) (h : HeaderFields) → seven_of ws ≡ Some t → header_fields false t ≡ Ok h → Header_of ws h
without_journal ws t h s e =
    let f = fields-told false t h e in
    let p = f.0 in (
      (λ i. (p i).0 ∷ (p i).1 ∷ (p i).2 ∷ (p i).3 ∷ (p i).4 ∷ (p i).5 ∷ (p i).6 ∷ journal_tokens (f.1 i))
          ∙ sym (seven-take ws t s),
      f.2,
      f.3,
    )

with_journal : (ws : List Token) (t : Token × Token × Token × Token × Token × Token × Token × Token) (h : HeaderFields) →
    eight_of ws ≡ Some t → journal_fields t ≡ Ok h → Header_of ws h
unfolding journal_fields
with_journal ws t h s e =
    let A = literal (codes "journal") t.7 in
    let S : Seven = (t.0, t.1, t.2, t.3, t.4, t.5, t.6) in
    let B = header_fields true S in
    let m = made-takes (λ (u : (Unit {0}) × HeaderFields). u.1) (both A B) h e in
    let q = both-takes A B m.0 m.1 in
    let l = literal-takes (codes "journal") t.7 m.0.0 q.0 in
    let f = fields-told true S h (q.1 ∙ ap (λ (z : HeaderFields). Ok z) m.2) in
    let p = f.0 in (
      (λ i. (p i).0 ∷ (p i).1 ∷ (p i).2 ∷ (p i).3 ∷ (p i).4 ∷ (p i).5 ∷ (p i).6 ∷ journal_tokens (f.1 i))
          ∙ (λ i. t.0 ∷ t.1 ∷ t.2 ∷ t.3 ∷ t.4 ∷ t.5 ∷ t.6 ∷ sym l i ∷ []) ∙ sym (eight-take ws t s),
      f.2,
      f.3,
    )

fields-are : (ws : List Token) (h : HeaderFields) → seven_fields (eight_fields (eight_of ws)) (seven_of ws) ≡ Ok h → Header_of ws h
fields-are ws h e = tested (seven_of ws) refl (eight_of ws) refl e
  where
    tested : (a : Option (Token × Token × Token × Token × Token × Token × Token)) →
        seven_of ws ≡ a → (b : Option (Token × Token × Token × Token × Token × Token × Token × Token)) → eight_of ws ≡ b
        → seven_fields (eight_fields b) a ≡ Ok h → Header_of ws h
    tested (Some t) i b j e = without_journal ws t h i e
    tested None i (Some t) j e = with_journal ws t h j e
    tested None i None j e = cc e

pub header-takes : (ws : List Token) (v : Line) → header ws ≡ Ok v → Stands (codes "basil" ∷ ws) v
unfolding header line_tokens
header-takes ws v h = read (seven_fields (eight_fields (eight_of ws)) (seven_of ws)) refl h
  where
    read : (r : Result HeaderFields Complaint) →
        seven_fields (eight_fields (eight_of ws)) (seven_of ws) ≡ r → with_cluster r ≡ Ok v → Stands (codes "basil" ∷ ws) v
    read (Err c) e h = cc h
    read (Ok f) e h =
        let m = made-takes (λ (s : Setting). Header s f.clock f.keys f.journal) (cluster_of f.numbers) v h in
        let s = cluster-takes f.numbers m.0 m.1 in
        let t = fields-are ws f e in
        subst (Stands (codes "basil" ∷ ws)) (ap (λ (z : Setting). Header z f.clock f.keys f.journal) (sym s.0) ∙ m.2)
        (ap (λ (z : List Token). codes "basil" ∷ z) t.0, (subst IsSetting s.0 s.1, t.1, t.2))
