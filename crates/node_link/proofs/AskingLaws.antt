-- An answer is read piece by piece, and an ask is answered, or a call of it fails.
use Rattle.std.proofs.Common.{◌≡◌, ℕ, ◌+◌, ◌-◌, ◌<◌, ◌≤◌, true, List, [], ◌∷◌, ◌++◌, length, take, drop, min}
use Rattle.std.proofs.Common.{Option, Some, None, Result, Ok, Err, is_some, refl, sym, ap, subst, ◌∙◌, append_assoc, arith}
use Rattle.std.proofs.Common.{inl, inr}
use Rattle.std.specs.Prelude.{◌||◌, IfOk, nat_le, option_map}
use Rattle.std.specs.Int.{w32, from_be_bytes}
use Rattle.std.specs.Io.KnownBytes.{Consumes, IsAtEnd}
use Rattle.std.proofs.lemmas.Bool.{le-leb, leb-true, or_cases}
use Rattle.std.proofs.lemmas.List.{append-nil, length-append, length-take-le, take_all, take-take, take-append-le, take-append-drop}
use Rattle.std.proofs.lemmas.List.{drop_all}
use Rattle.std.proofs.Math.Seq.{take-append-add}
use Rattle.basil_types.specs.Causes.{Rose}
use Rattle.basil_types.specs.declared.links.LinkFail.{LinkFail}
use Rattle.basil_types.specs.declared.memory.NoMemory.{NoMemory}
use Rattle.basil_types.specs.declared.outbox.Envelope.{Envelope}
use Rattle.basil_types.specs.Links.{LinkState, WrotePrefix, closes, first_of, opens, reads, unread, writes}
use Rattle.basil_types.specs.Setting.{Setting}
use Rattle.node_link.specs.declared.cause.EndCause.{EndCause}
use Rattle.node_link.specs.Asking.{Answered, Unopened, Cut, IsAsked, IsCut, IsLeft, IsOpen, IsTalked, Whole, Failing, ReadsAnswer}
use Rattle.node_link.specs.Asking.{ReadsByte, ReadsCount, answer_in, answer_limit, envelopes_in, read_of, so_many}
use Rattle.node_link.specs.Dialogue.{Dialogue, connection_limit, dialogue_of}
use Rattle.node_link.specs.Standing.{Reading, Stands}
use Rattle.node_link.proofs.StandingLaws.{envelopes_grow, ended_stays}

-- ---- what is left of the open connection

-- a piece of it was read
pub record Left (s : LinkState) (bytes piece : List ℕ) (told : Option LinkState) : Type 0 where
  pub rest : List ℕ
  pub split : bytes ≡ piece ++ rest
  pub left : IsLeft s told rest

pub left_read : (s : LinkState) (bytes piece : List ℕ) (told after : Option LinkState) (count : ℕ) → IsLeft s told bytes →
    after ≡ option_map (reads count) told → Consumes (unread told) (unread after) piece → Left s bytes piece after
left_read s bytes piece told after count e m c =
    let here : IsLeft s after (drop count bytes) = m ∙ ap (option_map (reads count)) e in
    record {
      rest = drop count bytes;
      split = subst (λ (t : Option LinkState). Consumes (unread t) (unread (Some (record s { rest = Some (drop count bytes) }))) piece) e
          (subst (λ (t : Option LinkState). Consumes (unread told) (unread t) piece) here c);
      left = here;
    }

pub left_end : (s : LinkState) (rest : List ℕ) (told : Option LinkState) → IsLeft s told rest → IsAtEnd (unread told) → rest ≡ []
left_end s rest told e h = subst (λ (t : Option LinkState). IsAtEnd (unread t)) e h

pub open_as : (s : LinkState) (told after : Option LinkState) (rest : List ℕ) → IsLeft s told rest → after ≡ told → IsOpen s after
open_as s told after rest e same = record { rest = rest; left = same ∙ e }

-- ---- a byte

one_byte : (buf : List ℕ) (b count : ℕ) → length buf ≡ 1 → take 1 buf ≡ b ∷ [] → count ≤ 1 → (count ≡ 0 → ⊥) → take count buf ≡ b ∷ []
one_byte buf b count one is few some =
    let here : count ≡ 1 = omega (arith, some) in
    ap (λ k. take k buf) here ∙ is

pub byte_read : (s : LinkState) (bytes : List ℕ) (b : ℕ) (told : Option LinkState) → Left s bytes (b ∷ []) told →
    ReadsByte bytes (Some b) s told
byte_read s bytes b told l = subst (λ (t : List ℕ). ReadsByte t (Some b) s told) (sym l.split) (refl, l.left)

pub byte_none : (s : LinkState) (bytes piece : List ℕ) (told : Option LinkState) → Left s bytes piece told → piece ≡ [] →
    IsAtEnd (unread told) → ReadsByte bytes None s told
byte_none s bytes piece told l none end =
    let rest : l.rest ≡ [] = left_end s l.rest told l.left end in
    let empty : bytes ≡ [] = l.split ∙ ap (λ (p : List ℕ). p ++ l.rest) none ∙ rest in
    subst (λ (t : List ℕ). ReadsByte t None s told) (sym empty) (refl, subst (λ (r : List ℕ). IsLeft s told r) rest l.left)

-- ---- a count

-- a byte was read
pub record Behind (s : LinkState) (bytes : List ℕ) (b : ℕ) (told : Option LinkState) : Type 0 where
  pub rest : List ℕ
  pub is : bytes ≡ b ∷ rest
  pub left : IsLeft s told rest

pub behind_byte : (s : LinkState) (bytes : List ℕ) (b : ℕ) (told : Option LinkState) → ReadsByte bytes (Some b) s told →
    Behind s bytes b told
behind_byte s [] b told h = absurd (let none = h.0 in cc)
behind_byte s (x ∷ xs) b told h =
    let same : x ≡ b = let e = h.0 in cc in
    record { rest = xs; is = ap (λ (y : ℕ). y ∷ xs) same; left = h.1 }

pub record Empty (s : LinkState) (bytes : List ℕ) (told : Option LinkState) : Type 0 where
  pub is : bytes ≡ []
  pub left : IsLeft s told []

pub at_none : (s : LinkState) (bytes : List ℕ) (told : Option LinkState) → ReadsByte bytes None s told → Empty s bytes told
at_none s [] told h = record { is = refl; left = h.1 }
at_none s (x ∷ xs) told h = absurd (let e = h.0 in cc)

-- by what was read
pub byte_first : (s : LinkState) (bytes : List ℕ) (byte : Option ℕ) (b : ℕ) (told : Option LinkState) → ReadsByte bytes byte s told →
    byte ≡ Some b → Behind s bytes b told
byte_first s bytes byte b told h is = behind_byte s bytes b told (subst (λ (o : Option ℕ). ReadsByte bytes o s told) is h)

pub none_of : (s : LinkState) (bytes : List ℕ) (byte : Option ℕ) (told : Option LinkState) → ReadsByte bytes byte s told →
    byte ≡ None → Empty s bytes told
none_of s bytes byte told h is = at_none s bytes told (subst (λ (o : Option ℕ). ReadsByte bytes o s told) is h)

pub open_byte : (s : LinkState) (bytes : List ℕ) (byte : Option ℕ) (told : Option LinkState) → ReadsByte bytes byte s told → IsOpen s told
open_byte s [] byte told h = record { rest = []; left = h.1 }
open_byte s (x ∷ xs) byte told h = record { rest = xs; left = h.1 }

-- the connection ends behind none, one, two or three bytes
module _ (s : LinkState) (told : Option LinkState) where
  pub count_0 : (bytes : List ℕ) → Empty s bytes told → ReadsCount bytes None s told
  count_0 bytes e = subst (λ (t : List ℕ). ReadsCount t None s told) (sym e.is) (refl, record { rest = []; left = e.left })

  pub count_1 : (bytes rest : List ℕ) (a : ℕ) → bytes ≡ a ∷ rest → Empty s rest told → ReadsCount bytes None s told
  count_1 bytes rest a is e =
      let all : bytes ≡ a ∷ [] = is ∙ ap (λ (t : List ℕ). a ∷ t) e.is in
      subst (λ (t : List ℕ). ReadsCount t None s told) (sym all) (refl, record { rest = []; left = e.left })

  pub count_2 : (bytes r1 r2 : List ℕ) (a b : ℕ) → bytes ≡ a ∷ r1 → r1 ≡ b ∷ r2 → Empty s r2 told → ReadsCount bytes None s told
  count_2 bytes r1 r2 a b p q e =
      let all : bytes ≡ a ∷ b ∷ [] = p ∙ ap (λ (t : List ℕ). a ∷ t) (q ∙ ap (λ (t : List ℕ). b ∷ t) e.is) in
      subst (λ (t : List ℕ). ReadsCount t None s told) (sym all) (refl, record { rest = []; left = e.left })

  pub count_3 : (bytes r1 r2 r3 : List ℕ) (a b c : ℕ) → bytes ≡ a ∷ r1 → r1 ≡ b ∷ r2 → r2 ≡ c ∷ r3 → Empty s r3 told →
      ReadsCount bytes None s told
  count_3 bytes r1 r2 r3 a b c p q r e =
      let all : bytes ≡ a ∷ b ∷ c ∷ [] =
      p ∙ ap (λ (t : List ℕ). a ∷ t) (q ∙ ap (λ (t : List ℕ). b ∷ t) (r ∙ ap (λ (t : List ℕ). c ∷ t) e.is)) in
      subst (λ (t : List ℕ). ReadsCount t None s told) (sym all) (refl, record { rest = []; left = e.left })

  pub count_4 : (bytes r1 r2 r3 r4 : List ℕ) (a b c d : ℕ) (count : Option ℕ) → bytes ≡ a ∷ r1 → r1 ≡ b ∷ r2 → r2 ≡ c ∷ r3 →
      r3 ≡ d ∷ r4 → count ≡ Some (from_be_bytes w32 (a ∷ b ∷ c ∷ d ∷ [])) → IsLeft s told r4 → ReadsCount bytes count s told
  count_4 bytes r1 r2 r3 r4 a b c d count p q r t e left =
      let all : bytes ≡ a ∷ b ∷ c ∷ d ∷ r4 =
      p ∙ ap (λ (x : List ℕ). a ∷ x) (q ∙ ap (λ (x : List ℕ). b ∷ x) (r ∙ ap (λ (x : List ℕ). c ∷ x) t)) in
      subst (λ (x : List ℕ). ReadsCount x count s told) (sym all) (e, left)

-- ---- so many envelopes

so_many_whole : (count : ℕ) (es : List Envelope) → count ≤ length es → so_many count es ≡ take count es
so_many_whole count es few = rw (le-leb _ _ few) refl

so_many_grow : (count : ℕ) (es more : List Envelope) → count ≤ length es → so_many count (es ++ more) ≡ so_many count es
so_many_grow count es more few =
    let enough : count ≤ length (es ++ more) = omega (arith, length-append es more) in
    so_many_whole count (es ++ more) enough ∙ take-append-le count es more few ∙ sym (so_many_whole count es few)

-- ---- the pieces

-- these of its bytes were fed, and unless no more may be, all that were read
pub record Heard (heard : List ℕ) (left : ℕ) (s : LinkState) (bytes : List ℕ) (told : Option LinkState) : Type 0 where
  pub later : List ℕ
  pub split : bytes ≡ heard ++ later
  pub rest : List ℕ
  pub opened : IsLeft s told rest
  pub on : 0 < left → later ≡ rest

pub record Hearing (told after : Option LinkState) (setting : Setting) (reader : Reading) (left faults fails : ℕ) : Type 0 where
  pub heard : List ℕ
  pub cluster : reader.cluster ≡ setting
  pub stands : Stands reader heard 0
  pub room : left + length heard ≡ answer_limit
  pub unfailed : fails ≡ faults
  pub at : (s : LinkState) (bytes : List ℕ) → IsLeft s told bytes → Heard heard left s bytes after

pub hearing_none : (told : Option LinkState) (setting : Setting) (reader : Reading) (left faults : ℕ) → reader.cluster ≡ setting →
    Stands reader [] 0 → left ≡ 16777212 → Hearing told told setting reader left faults faults
unfolding answer_limit connection_limit
hearing_none told setting reader left faults c stands room =
    record {
      heard = [];
      cluster = c;
      stands = stands;
      room = omega arith;
      unfailed = refl;
      at = λ s bytes e. record { later = bytes; split = refl; rest = bytes; opened = e; on = λ _. refl };
    }

-- of a piece that was read so much is fed
heard_more : (heard : List ℕ) (left count got : ℕ) (s : LinkState) (bytes buf : List ℕ) (told mid : Option LinkState) →
    Heard heard left s bytes told → 0 < left → count ≡ min got left → mid ≡ option_map (reads got) told → got ≤ length buf →
    Consumes (unread told) (unread mid) (take got buf) → Heard (heard ++ take count buf) (left - count) s bytes mid
heard_more heard left count got s bytes buf told mid h some is m within c =
    let l = left_read s h.rest (take got buf) told mid got h.opened m c in
    let few : count ≤ got = omega arith in
    let front : take count (take got buf) ≡ take count buf = take-take count got buf few in
    let piece : take count buf ++ drop count (take got buf) ≡ take got buf =
    ap (λ (t : List ℕ). t ++ drop count (take got buf)) (sym front) ∙ take-append-drop count (take got buf) in
    record {
      later = drop count (take got buf) ++ l.rest;
      split = h.split ∙ ap (λ (t : List ℕ). heard ++ t)
          (h.on some ∙ l.split ∙ ap (λ (t : List ℕ). t ++ l.rest) (sym piece)
          ∙ append_assoc (take count buf) (drop count (take got buf)) l.rest)
          ∙ sym (append_assoc heard (take count buf) (drop count (take got buf) ++ l.rest));
      rest = l.rest;
      opened = l.left;
      on = λ more.
          let size : length (take got buf) ≡ got = length-take-le got buf within in
          let whole : length (take got buf) ≤ count = omega arith in
          ap (λ (t : List ℕ). t ++ l.rest) (drop_all count (take got buf) whole);
    }

pub hearing_more : (told after mid : Option LinkState) (setting : Setting) (reader fed : Reading)
    (left new count got faults fails failed : ℕ) (buf piece : List ℕ)
    (h : Hearing told after setting reader left faults fails) → 0 < left → count ≡ min got left → new ≡ left - count →
    mid ≡ option_map (reads got) after → got ≤ length buf → Consumes (unread after) (unread mid) (take got buf) →
    piece ≡ take count buf → fed.cluster ≡ reader.cluster → Stands fed (h.heard ++ piece) 0 → failed ≡ fails →
    Hearing told mid setting fed new faults failed
hearing_more told after mid setting reader fed left new count got faults fails failed buf piece
    h some is n m within c p cluster stands u =
    let few : count ≤ length buf = omega arith in
    let size : length (take count buf) ≡ count = length-take-le count buf few in
    let len : length (h.heard ++ take count buf) ≡ length h.heard + length (take count buf) = length-append h.heard (take count buf) in
    let room : left + length h.heard ≡ answer_limit = h.room in
    record {
      heard = h.heard ++ take count buf;
      cluster = cluster ∙ h.cluster;
      stands = subst (λ (t : List ℕ). Stands fed (h.heard ++ t) 0) p stands;
      room = omega arith;
      unfailed = u ∙ h.unfailed;
      at = λ s bytes e.
          subst (λ (k : ℕ). Heard (h.heard ++ take count buf) k s bytes mid) (sym n)
          (heard_more h.heard left count got s bytes buf after mid (h.at s bytes e) some is m within c);
    }

-- ---- the ends of an answer

-- the bytes within its limit
limited : (heard later : List ℕ) (left : ℕ) → left + length heard ≡ answer_limit →
    take answer_limit (heard ++ later) ≡ heard ++ take left later
limited heard later left room =
    let at : answer_limit ≡ length heard + left = omega (arith, room) in
    ap (λ (k : ℕ). take k (heard ++ later)) at ∙ take-append-add heard later left

abbrev spoken : Setting → List ℕ → List Envelope
spoken cluster bytes = (dialogue_of cluster bytes).envelopes

-- what waits are the envelopes of what was fed
waiting_are : (setting : Setting) (reader : Reading) (heard : List ℕ) → reader.cluster ≡ setting → Stands reader heard 0 →
    reader.waiting ≡ spoken setting heard
waiting_are setting reader heard c s = s.waiting ∙ ap (λ (k : Setting). spoken k heard) c

-- so many are whole
whole_at : (setting : Setting) (heard more : List ℕ) (wanted : ℕ) → wanted ≤ length (spoken setting heard) →
    so_many wanted (spoken setting (heard ++ more)) ≡ so_many wanted (spoken setting heard)
whole_at setting heard more wanted few =
    let grows = envelopes_grow setting heard more in
    ap (so_many wanted) grows.is ∙ so_many_grow wanted (spoken setting heard) grows.later few

-- the rules ended it
ended_at : (setting : Setting) (heard more : List ℕ) (wanted : ℕ) (ended : Option EndCause) →
    ended ≡ (dialogue_of setting heard).ended → is_some ended ≡ true →
    so_many wanted (spoken setting (heard ++ more)) ≡ so_many wanted (spoken setting heard)
ended_at setting heard more wanted (Some cause) e some =
    ap (λ (d : Dialogue). so_many wanted d.envelopes) (ended_stays setting heard more cause (sym e))
ended_at setting heard more wanted None e some = absurd cc

settled_at : (setting : Setting) (reader : Reading) (heard more : List ℕ) (wanted : ℕ) → reader.cluster ≡ setting →
    Stands reader heard 0 → (nat_le wanted (length reader.waiting) || is_some reader.ended) ≡ true →
    so_many wanted (spoken setting (heard ++ more)) ≡ so_many wanted (spoken setting heard)
settled_at setting reader heard more wanted c s h =
    elim (or_cases (nat_le wanted (length reader.waiting)) (is_some reader.ended) h) [
      | inl enough ↦
          let few : wanted ≤ length reader.waiting = leb-true wanted (length reader.waiting) enough in
          let same : length reader.waiting ≡ length (spoken setting heard) = ap length (waiting_are setting reader heard c s) in
          whole_at setting heard more wanted (omega (arith, few, same))
      | inr ended ↦
          ended_at setting heard more wanted reader.ended (s.ended ∙ ap (λ (k : Setting). (dialogue_of k heard).ended) c) ended
    ]

-- what the reader gives is what the whole answer gives
module _ (told after : Option LinkState) (setting : Setting) (reader : Reading) (left faults fails : ℕ)
    (h : Hearing told after setting reader left faults fails) (wanted : ℕ) (given : List Envelope)
    (is : given ≡ so_many wanted reader.waiting) (s : LinkState) (bytes : List ℕ) (e : IsLeft s told bytes) where
  heard_so : (later : List ℕ) → bytes ≡ h.heard ++ later →
      so_many wanted (spoken setting (h.heard ++ take left later)) ≡ so_many wanted (spoken setting h.heard) →
      given ≡ envelopes_in setting wanted bytes
  heard_so later split same =
      is ∙ ap (so_many wanted) (waiting_are setting reader h.heard h.cluster h.stands) ∙ sym same
      ∙ ap (λ (t : List ℕ). so_many wanted (spoken setting t)) (sym (limited h.heard later left h.room))
      ∙ ap (λ (t : List ℕ). envelopes_in setting wanted t) (sym split)

  -- no more bytes may come
  pub given_at_limit : left ≡ 0 → given ≡ envelopes_in setting wanted bytes
  given_at_limit none =
      let at = h.at s bytes e in
      heard_so at.later at.split
      (ap (λ (t : List ℕ). so_many wanted (spoken setting (h.heard ++ t))) (ap (λ k. take k at.later) none)
      ∙ ap (λ (t : List ℕ). so_many wanted (spoken setting t)) (append-nil h.heard))

  -- no more need to
  pub given_settled : (nat_le wanted (length reader.waiting) || is_some reader.ended) ≡ true → given ≡ envelopes_in setting wanted bytes
  given_settled settled =
      let at = h.at s bytes e in
      heard_so at.later at.split (settled_at setting reader h.heard (take left at.later) wanted h.cluster h.stands settled)

  -- no more do
  pub given_at_end : (mid : Option LinkState) (got : ℕ) (piece : List ℕ) → 0 < left → mid ≡ option_map (reads got) after →
      Consumes (unread after) (unread mid) piece → piece ≡ [] → IsAtEnd (unread mid) → given ≡ envelopes_in setting wanted bytes
  given_at_end mid got piece some m c none end =
      let at = h.at s bytes e in
      let l = left_read s at.rest piece after mid got at.opened m c in
      let empty : at.later ≡ [] =
      at.on some ∙ l.split ∙ ap (λ (p : List ℕ). p ++ l.rest) none ∙ left_end s l.rest mid l.left end in
      heard_so at.later at.split
      (ap (λ (t : List ℕ). so_many wanted (spoken setting (h.heard ++ t)))
      (ap (λ (t : List ℕ). take left t) empty ∙ take_all left [] (omega arith))
      ∙ ap (λ (t : List ℕ). so_many wanted (spoken setting t)) (append-nil h.heard))

-- ---- an answer

pub answer_none : (cluster : Setting) (bytes : List ℕ) (s : LinkState) (told : Option LinkState) (taken : List Envelope) → taken ≡ [] →
    ReadsCount bytes None s told → ReadsAnswer cluster bytes taken s told
answer_none cluster [] s told taken none h = record { given = none; opened = h.1 }
answer_none cluster (a ∷ []) s told taken none h = record { given = none; opened = h.1 }
answer_none cluster (a ∷ b ∷ []) s told taken none h = record { given = none; opened = h.1 }
answer_none cluster (a ∷ b ∷ c ∷ []) s told taken none h = record { given = none; opened = h.1 }
answer_none cluster (a ∷ b ∷ c ∷ d ∷ bytes) s told taken none h = absurd (let e = h.0 in cc)

-- so many of them were read
pub answer_of : (cluster : Setting) (bytes rest : List ℕ) (count wanted : ℕ) (s : LinkState) {told : Option LinkState}
    {D : Type 0} (items : D → List Envelope) (r : Result D LinkFail) → answer_in cluster bytes ≡ envelopes_in cluster (read_of count) rest →
    wanted ≡ read_of count → IfOk r (λ given. items given ≡ envelopes_in cluster wanted rest) → IsOpen s told →
    IfOk r (λ given. ReadsAnswer cluster bytes (items given) s told)
answer_of cluster bytes rest count wanted s items (Ok given) is n h stays =
    record { given = h ∙ ap (λ (k : ℕ). envelopes_in cluster k rest) n ∙ sym is; opened = stays }
answer_of cluster bytes rest count wanted s items (Err fail) is n h stays = tt

-- the bytes behind a count
pub record Counted (cluster : Setting) (bytes : List ℕ) (count : ℕ) (s : LinkState) (told : Option LinkState) : Type 0 where
  pub rest : List ℕ
  pub left : IsLeft s told rest
  pub answer : answer_in cluster bytes ≡ envelopes_in cluster (read_of count) rest

pub counted : (cluster : Setting) (bytes : List ℕ) (count : ℕ) (s : LinkState) (told : Option LinkState) →
    ReadsCount bytes (Some count) s told → Counted cluster bytes count s told
counted cluster [] count s told h = absurd (let e = h.0 in cc)
counted cluster (a ∷ []) count s told h = absurd (let e = h.0 in cc)
counted cluster (a ∷ b ∷ []) count s told h = absurd (let e = h.0 in cc)
counted cluster (a ∷ b ∷ c ∷ []) count s told h = absurd (let e = h.0 in cc)
counted cluster (a ∷ b ∷ c ∷ d ∷ bytes) count s told h =
    let same : count ≡ from_be_bytes w32 (a ∷ b ∷ c ∷ d ∷ []) = let e = h.0 in cc in
    record {
      rest = bytes;
      left = h.1;
      answer = ap (λ (k : ℕ). envelopes_in cluster (read_of k) bytes) (sym same);
    }

-- by what was read
pub counted_by : (cluster : Setting) (bytes : List ℕ) (read : Option ℕ) (count : ℕ) (s : LinkState) (told : Option LinkState) →
    ReadsCount bytes read s told → read ≡ Some count → Counted cluster bytes count s told
counted_by cluster bytes read count s told h is =
    counted cluster bytes count s told (subst (λ (o : Option ℕ). ReadsCount bytes o s told) is h)

pub answer_none_by : (cluster : Setting) (bytes : List ℕ) (read : Option ℕ) (s : LinkState) (told : Option LinkState)
    (taken : List Envelope) → taken ≡ [] → ReadsCount bytes read s told → read ≡ None → ReadsAnswer cluster bytes taken s told
answer_none_by cluster bytes read s told taken none h is =
    answer_none cluster bytes s told taken none (subst (λ (o : Option ℕ). ReadsCount bytes o s told) is h)

-- ---- an envelope and its answer

pub written_left : (s : LinkState) (told after : Option LinkState) (bytes envelope : List ℕ) → IsLeft s told bytes →
    after ≡ option_map (writes envelope) told → IsLeft (writes envelope s) after bytes
written_left s told after bytes envelope e w = w ∙ ap (option_map (writes envelope)) e

pub cut_write : (s : LinkState) (told after : Option LinkState) (bytes envelope : List ℕ) → IsLeft s told bytes →
    WrotePrefix told after envelope → IsCut s after envelope
cut_write s told after bytes envelope e w =
    record {
      written = w.count;
      within = w.within;
      opened = record { rest = bytes; left = w.is ∙ ap (option_map (writes (take w.count envelope))) e };
    }

pub cut_read : (s : LinkState) (after : Option LinkState) (envelope : List ℕ) → IsOpen (writes envelope s) after → IsCut s after envelope
cut_read s after envelope o =
    let whole : take (length envelope) envelope ≡ envelope = take_all (length envelope) envelope (omega arith) in
    record {
      written = length envelope;
      within = omega arith;
      opened = subst (λ (t : List ℕ). IsOpen (writes t s) after) (sym whole) o;
    }

-- ---- the connection is closed

closed : (s : LinkState) (told after : Option LinkState) → IsOpen s told → after ≡ option_map closes told → after ≡ Some (closes s)
closed s told after o c = c ∙ ap (option_map closes) o.left

pub talked_whole : (cluster : Setting) (bytes envelope : List ℕ) (s : LinkState) (told after : Option LinkState) (before now : ℕ)
    (taken : List Envelope) → ReadsAnswer cluster bytes taken (writes envelope s) told → after ≡ option_map closes told → before ≤ now →
    IsTalked cluster bytes envelope s after before now taken
talked_whole cluster bytes envelope s told after before now taken r c later =
    Whole (closed (writes envelope s) told after r.opened c) r.given later

pub talked_cut : (cluster : Setting) (bytes envelope : List ℕ) (s : LinkState) (told after : Option LinkState) (before now : ℕ)
    (taken : List Envelope) → IsCut s told envelope → after ≡ option_map closes told → taken ≡ [] → Rose before now →
    IsTalked cluster bytes envelope s after before now taken
talked_cut cluster bytes envelope s told after before now taken cut c none risen =
    Failing cut.written (closed (writes (take cut.written envelope) s) told after cut.opened c) none risen

-- ---- an ask

pub opened : (s : LinkState) (told after : Option LinkState) (address : List ℕ) → told ≡ Some s → after ≡ option_map (opens address) told →
    IsLeft (opens address s) after (first_of s.coming)
opened s told after address e o = o ∙ ap (option_map (opens address)) e

pub asked_open : (cluster : Setting) (address envelope : List ℕ) (s : LinkState) (told : Option LinkState) (before mid now : ℕ)
    (taken : List Envelope) → IsTalked cluster (first_of s.coming) envelope (opens address s) told mid now taken → mid ≡ before →
    IsAsked cluster address envelope s told before now taken
asked_open cluster address envelope s told before mid now taken (Whole links given later) same =
    record { fate = Answered; links = links; given = given; failed = omega arith }
asked_open cluster address envelope s told before mid now taken (Failing written links given risen) same =
    record { fate = Cut written; links = links; given = given; failed = omega (arith, risen, same) }

pub asked_open_if : (cluster : Setting) (address envelope written : List ℕ) (s : LinkState) (told : Option LinkState) (before mid now : ℕ)
    {D : Type 0} (items : D → List Envelope) (r : Result D NoMemory) → mid ≡ before → written ≡ envelope →
    IfOk r (λ given. IsTalked cluster (first_of s.coming) written (opens address s) told mid now (items given)) →
    IfOk r (λ given. IsAsked cluster address envelope s told before now (items given))
asked_open_if cluster address envelope written s told before mid now items (Ok given) same is h =
    subst (λ (e : List ℕ). IsAsked cluster address e s told before now (items given)) is
    (asked_open cluster address written s told before mid now (items given) h same)
asked_open_if cluster address envelope written s told before mid now items (Err wanting) same is h = tt

pub asked_unopened : (cluster : Setting) (address envelope : List ℕ) (s : LinkState) (told after : Option LinkState) (before now : ℕ)
    (taken : List Envelope) → told ≡ Some s → after ≡ told → taken ≡ [] → Rose before now →
    IsAsked cluster address envelope s after before now taken
asked_unopened cluster address envelope s told after before now taken e same none risen =
    record { fate = Unopened; links = same ∙ e; given = none; failed = risen }
