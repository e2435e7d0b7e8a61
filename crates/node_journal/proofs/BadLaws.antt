-- Bytes are the records of one list of frames, or bad at one place.
use Rattle.std.proofs.Common.{◌≡◌, ℕ, ◌+◌, ◌^◌, ◌≤◌, ◌<◌, List, [], ◌∷◌, ◌++◌, length, drop, get_or, Some}
use Rattle.std.proofs.Common.{refl, sym, ap, subst, ◌∙◌, append_assoc, length-append, arith}
use Rattle.std.specs.List.{flat_map}
use Rattle.std.proofs.lemmas.List.{append-nil, map-append}
use Rattle.std.proofs.lemmas.List.Concat.{flat_map-append}
use Rattle.journal_records.specs.declared.limits.TheConstants.{JOURNAL_LIMIT}
use Rattle.journal_records.specs.Found.{BeginsClosed}
use Rattle.journal_records.specs.Journal.{IsEntry, last_gate, opened}
use Rattle.journal_records.proofs.RecordLaws.{same_record}
use Rattle.node_steps.specs.Pens.{PenValue}
use Rattle.replica_core.specs.Answers.{answer}
use Rattle.replica_core.specs.Replicas.{ReplicaSelf, BookValue, empty_book}
use Rattle.replica_laws.specs.Steps.{Handed, book_after, step}
use Rattle.node_journal.specs.Entries.{entry_of, handed_in}
use Rattle.node_journal.specs.Journals.{Accepts, AcceptsAll, Keeps, entries_of}
use Rattle.node_journal.specs.Opening.{HasNext, IsBadAt}
use Rattle.node_journal.proofs.EntryLaws.{entries-read, length-entry_of}
use Rattle.node_journal.proofs.FrameLaws.{accepted-has_size}
use Rattle.node_journal.proofs.TakenLaws.{ok-of}

-- ---- one record

pub same-opened : (a b x y : List ℕ) → IsEntry a → IsEntry b → opened a ++ x ≡ opened b ++ y → (a ≡ b) × (x ≡ y)
same-opened a b x y fits-a fits-b e = same_record a b x y fits-a fits-b (ap (drop 1) e)

same-handed : (h k : Handed) → h.now < 2 ^ 64 → k.now < 2 ^ 64 → entry_of h ≡ entry_of k → h ≡ k
same-handed h k small-h small-k e =
    let s : Some h ≡ Some k = sym (entries-read h small-h) ∙ ap handed_in e ∙ entries-read k small-k in cc s

pub accepted-entry : (me : ReplicaSelf) (book : BookValue) (h : Handed) → Accepts me book h → IsEntry (entry_of h)
accepted-entry me book h a =
    let d = ok-of (answer me h.now h.from book h.frame) a.answered in
    let s = accepted-has_size me h.now h.from book h.frame d.0 d.1 in
    (omega (arith, length-entry_of h, s.some), omega (arith, length-entry_of h, s.short))

first-is : (a b : ℕ) (x y : List ℕ) → a ∷ x ≡ b ∷ y → a ≡ b
first-is a b x y e = ap (λ (l : List ℕ). get_or l 0 0) e

-- ---- the records of some frames stand before those of others

record IsFront (hs ks : List Handed) (x y : List ℕ) : Type 0 where
  more : List Handed
  are : hs ≡ ks ++ more
  rest : y ≡ flat_map opened (entries_of more) ++ x

front-both : (hs ks : List Handed) (h k : Handed) (x y : List ℕ) → h ≡ k → IsFront hs ks x y → IsFront (h ∷ hs) (k ∷ ks) x y
front-both hs ks h k x y same f =
    record {
      more = f.more;
      are = ap (λ (l : List Handed). h ∷ l) f.are ∙ ap (λ (z : Handed). z ∷ ks ++ f.more) same;
      rest = f.rest;
    }

front-of : (me : ReplicaSelf) (book : BookValue) (at place : ℕ) (hs ks : List Handed) (x y : List ℕ) → AcceptsAll me book hs →
    AcceptsAll me book ks → place ≡ at + last_gate (entries_of hs) → at + last_gate (entries_of ks) < JOURNAL_LIMIT →
    ¬ HasNext me (book_after me book hs) place x →
    flat_map opened (entries_of hs) ++ x ≡ flat_map opened (entries_of ks) ++ y → IsFront hs ks x y
front-of me book at place hs [] x y a b gate near none e = record { more = hs; are = refl; rest = sym e }
front-of me book at place [] (k ∷ ks) x y a b gate near none e =
    let front = opened (entry_of k) in
    let rest = flat_map opened (entries_of ks) in
    absurd (none (record {
      next = k;
      stands = record { fits = accepted-entry me book k b.0; behind = rest ++ y; are = e ∙ append_assoc front rest y };
      accepted = b.0;
      near = omega (arith, gate, near, length-append front rest);
    }))
front-of me book at place (h ∷ hs) (k ∷ ks) x y a b gate near none e =
    let front = opened (entry_of h) in
    let other = opened (entry_of k) in
    let rest = flat_map opened (entries_of hs) in
    let others = flat_map opened (entries_of ks) in
    let heads = same-opened (entry_of h) (entry_of k) (rest ++ x) (others ++ y) (accepted-entry me book h a.0)
    (accepted-entry me book k b.0) (sym (append_assoc front rest x) ∙ e ∙ append_assoc other others y) in
    let same : h ≡ k = same-handed h k a.0.moment b.0.moment heads.0 in
    let long : length front ≡ length other = ap (λ (z : Handed). length (opened (entry_of z))) same in
    front-both hs ks h k x y same (front-of me (step me book h).book (at + length front) place hs ks x y a.1
    (subst (λ (z : Handed). AcceptsAll me (step me book z).book ks) (sym same) b.1)
    (omega (arith, gate, length-append front rest)) (omega (arith, near, long, length-append other others)) none heads.1)

-- from the first gate on
front-begun : (me : ReplicaSelf) (begun : PenValue) (place : ℕ) (hs ks : List Handed) (x y : List ℕ) →
    AcceptsAll me (empty_book begun) hs → AcceptsAll me (empty_book begun) ks → place ≡ last_gate (entries_of hs) →
    last_gate (entries_of ks) < JOURNAL_LIMIT → ¬ HasNext me (book_after me (empty_book begun) hs) place x →
    flat_map opened (entries_of hs) ++ x ≡ flat_map opened (entries_of ks) ++ y → IsFront hs ks x y
front-begun me begun place hs ks x y a b gate near none e =
    front-of me (empty_book begun) 0 place hs ks x y a b (omega (arith, gate)) (omega (arith, near)) none e

front-length : (hs ks : List Handed) (x y : List ℕ) → IsFront hs ks x y → last_gate (entries_of ks) ≤ last_gate (entries_of hs)
front-length hs ks x y f =
    let both : flat_map opened (entries_of hs) ≡ flat_map opened (entries_of ks) ++ flat_map opened (entries_of f.more) =
    ap (λ (l : List Handed). flat_map opened (entries_of l)) f.are
    ∙ ap (flat_map opened) (map-append entry_of ks f.more) ∙ flat_map-append opened (entries_of ks) (entries_of f.more) in
    omega (arith, ap length both, length-append (flat_map opened (entries_of ks)) (flat_map opened (entries_of f.more)))

-- nothing stands between them where the others have a closed gate behind them
record IsWhole (hs ks : List Handed) (x y : List ℕ) : Type 0 where
  same : hs ≡ ks
  rest : y ≡ x

whole-by : (hs ks more : List Handed) (x y : List ℕ) → BeginsClosed y → hs ≡ ks ++ more →
    y ≡ flat_map opened (entries_of more) ++ x → IsWhole hs ks x y
whole-by hs ks [] x y c are rest = record { same = are ∙ append-nil ks; rest = rest }
whole-by hs ks (m ∷ more) x y c are rest = absurd (c.closed (first-is _ _ _ _ (sym c.are ∙ rest)))

-- ---- what is opened

module _ (me : ReplicaSelf) (begun : PenValue) (bytes : List ℕ) where
  closed-of : (hs : List Handed) (k : Keeps me begun hs bytes) → BeginsClosed (k.holds.gate ∷ k.holds.behind)
  closed-of hs k = record { gate = k.holds.gate; closed = k.holds.closed; behind = k.holds.behind; are = refl }

  pub keeps-one : (hs ks : List Handed) → Keeps me begun hs bytes → Keeps me begun ks bytes → hs ≡ ks
  keeps-one hs ks a b =
      let f = front-begun me begun (last_gate (entries_of hs)) hs ks _ _ a.accepted b.accepted refl b.near
      (λ n. a.holds.closed (first-is _ _ _ _ n.stands.are)) (sym a.holds.are ∙ b.holds.are) in
      (whole-by hs ks f.more _ _ (closed-of ks b) f.are f.rest).same

  pub never-both : (hs : List Handed) (place : ℕ) → Keeps me begun hs bytes → IsBadAt me begun bytes place → ⊥
  never-both hs place k b =
      let f = front-begun me begun place b.hs hs _ _ b.accepted k.accepted b.gate k.near b.no_next (sym b.are ∙ k.holds.are) in
      b.not_closed (subst BeginsClosed (whole-by b.hs hs f.more _ _ (closed-of hs k) f.are f.rest).rest (closed-of hs k))

  bad-least : (p q : ℕ) → IsBadAt me begun bytes p → IsBadAt me begun bytes q → q ≤ p
  bad-least p q a b =
      let f = front-begun me begun p a.hs b.hs _ _ a.accepted b.accepted a.gate
      (subst (λ (n : ℕ). n < JOURNAL_LIMIT) b.gate b.near) a.no_next (sym a.are ∙ b.are) in
      omega (arith, a.gate, b.gate, front-length a.hs b.hs _ _ f)

  pub bad-one : (p q : ℕ) → IsBadAt me begun bytes p → IsBadAt me begun bytes q → p ≡ q
  bad-one p q a b = omega (arith, bad-least p q a b, bad-least q p b a)
