-- What a reader stands for, before and after a piece.
use Rattle.std.proofs.Common.{◌≡◌, ℕ, zero, suc, ◌+◌, ◌-◌, ◌<◌, ◌≤◌, Bool, true, false, List, [], ◌++◌, length, take, drop, Option, Some}
use Rattle.std.proofs.Common.{None, Ok, Err, is_some, min, refl, sym, ap, subst, ◌∙◌, arith, inl, inr}
use Rattle.std.proofs.lemmas.Bool.{cases_lt, le-leb, lt-leb}
use Rattle.std.proofs.lemmas.List.{append-nil, length-append, length-take, drop_all, take_all, take-append-le, drop-append-le}
use Rattle.std.proofs.Math.Seq.{take-append-add}
use Rattle.basil_types.specs.declared.outbox.Envelope.{Envelope}
use Rattle.basil_types.specs.Setting.{Setting}
use Rattle.node_link.specs.declared.cause.EndCause.{EndCause}
use Rattle.node_link.specs.Envelopes.{Field, envelope_at}
use Rattle.node_link.specs.Dialogue.{Dialogue, begun, behind, spoken, spoken_in, or_connection, cut_off, dialogue_of, connection_limit}
use Rattle.node_link.specs.Standing.{Reading, Stands, Adds}
use Rattle.node_link.proofs.DialogueLaws.{resumed, spoken_more, empty_once_ended}

-- ---- the dialogue of bytes within the limit, and beyond it

pub within : (cluster : Setting) (bytes : List ℕ) → length bytes ≤ connection_limit → dialogue_of cluster bytes ≡ spoken_in cluster bytes
unfolding dialogue_of
within cluster bytes few = rw (le-leb _ _ few) refl

pub beyond : (cluster : Setting) (bytes : List ℕ) → connection_limit < length bytes →
    dialogue_of cluster bytes ≡ cut_off (spoken_in cluster (take connection_limit bytes))
unfolding dialogue_of
beyond cluster bytes many = rw (lt-leb _ _ many) refl

pub nothing : (cluster : Setting) → dialogue_of cluster [] ≡ record { envelopes = []; partial = []; ended = None }
unfolding dialogue_of spoken_in spoken connection_limit
nothing cluster = refl

pub stands_at_first : (r : Reading) → r.waiting ≡ [] → r.partial ≡ [] → r.ended ≡ None → r.left ≡ 16777216 → Stands r [] 0
unfolding connection_limit
stands_at_first r waiting partial ended left =
    record {
      among = omega arith;
      waiting = rw (nothing r.cluster) waiting;
      partial = rw (nothing r.cluster) partial;
      ended = rw (nothing r.cluster) ended;
      left = λ e. omega arith;
    }

-- ---- a piece behind the bytes

open_more : (cluster : Setting) (bytes piece : List ℕ) → (spoken_in cluster bytes).ended ≡ None →
    spoken_in cluster (bytes ++ piece) ≡
    behind (spoken_in cluster bytes).envelopes (spoken_in cluster ((spoken_in cluster bytes).partial ++ piece))
open_more cluster bytes piece e = spoken_more cluster bytes piece ∙ by (spoken_in cluster bytes) e where
  by : (d : Dialogue) → d.ended ≡ None → resumed cluster d piece ≡ behind d.envelopes (spoken_in cluster (d.partial ++ piece))
  by d e = rw e refl

ended_more : (cluster : Setting) (bytes piece : List ℕ) (cause : EndCause) → (spoken_in cluster bytes).ended ≡ Some cause →
    spoken_in cluster (bytes ++ piece) ≡ spoken_in cluster bytes
ended_more cluster bytes piece cause e = spoken_more cluster bytes piece ∙ by (spoken_in cluster bytes) e where
  by : (d : Dialogue) → d.ended ≡ Some cause → resumed cluster d piece ≡ d
  by d e = rw e refl

-- ---- the limit

-- the bytes within the limit
within_limit : (left : ℕ) (bytes piece : List ℕ) → left + length bytes ≡ connection_limit →
    take connection_limit (bytes ++ piece) ≡ bytes ++ take left piece
within_limit left bytes piece e =
    let at : connection_limit ≡ length bytes + left = omega (arith, e) in
    ap (λ (k : ℕ). take k (bytes ++ piece)) at ∙ take-append-add bytes piece left

cut_off_same : (d : Dialogue) (cause : EndCause) → d.ended ≡ Some cause → d.partial ≡ [] → cut_off d ≡ d
cut_off_same d cause = by d.envelopes d.partial d.ended where
  by : (envelopes : List Envelope) (partial : List ℕ) (ended : Option EndCause) → ended ≡ Some cause → partial ≡ [] →
      cut_off (record { envelopes = envelopes; partial = partial; ended = ended }) ≡
      record { envelopes = envelopes; partial = partial; ended = ended }
  by envelopes partial ended e p = rw (e, p) refl

-- nothing comes of bytes behind the end
ended_at_once : (cluster : Setting) (bytes piece : List ℕ) (cause : EndCause) → length bytes ≤ connection_limit →
    (spoken_in cluster bytes).ended ≡ Some cause → dialogue_of cluster (bytes ++ piece) ≡ spoken_in cluster bytes
ended_at_once cluster bytes piece cause few e =
    elim (cases_lt connection_limit (length (bytes ++ piece))) [
      | inr le ↦ within cluster (bytes ++ piece) le ∙ ended_more cluster bytes piece cause e
      | inl lt ↦ let left : (connection_limit - length bytes) + length bytes ≡ connection_limit = omega arith in
          beyond cluster (bytes ++ piece) lt ∙
          ap (λ (text : List ℕ). cut_off (spoken_in cluster text)) (within_limit _ bytes piece left) ∙
          ap cut_off (ended_more cluster bytes (take (connection_limit - length bytes) piece) cause e) ∙
          cut_off_same (spoken_in cluster bytes) cause e (empty_once_ended cluster bytes cause e)
    ]

pub ended_stays : (cluster : Setting) (bytes piece : List ℕ) (cause : EndCause) → (dialogue_of cluster bytes).ended ≡ Some cause →
    dialogue_of cluster (bytes ++ piece) ≡ dialogue_of cluster bytes
ended_stays cluster bytes piece cause e =
    elim (cases_lt connection_limit (length bytes)) [
      | inr le ↦ let here = within cluster bytes le in
          ended_at_once cluster bytes piece cause le (ap (λ (d : Dialogue). d.ended) (sym here) ∙ e) ∙ sym here
      | inl lt ↦ let more : connection_limit < length (bytes ++ piece) = omega (arith, length-append bytes piece) in
          let few : connection_limit ≤ length bytes = omega arith in
          beyond cluster (bytes ++ piece) more ∙
          ap (λ (text : List ℕ). cut_off (spoken_in cluster text)) (take-append-le connection_limit bytes piece few) ∙
          sym (beyond cluster bytes lt)
    ]

-- what hasn't ended goes on
continues : (cluster : Setting) (bytes piece partial : List ℕ) → length bytes ≤ connection_limit →
    (dialogue_of cluster bytes).ended ≡ None → partial ≡ (dialogue_of cluster bytes).partial →
    spoken_in cluster (bytes ++ piece) ≡
    behind (dialogue_of cluster bytes).envelopes (spoken_in cluster (partial ++ piece))
continues cluster bytes piece partial few =
    rw (within cluster bytes few)
    (λ e p. open_more cluster bytes piece e ∙
    ap (λ (text : List ℕ). behind (spoken_in cluster bytes).envelopes (spoken_in cluster (text ++ piece))) (sym p))

-- ---- readers

-- ended readers stay as they are
some_none : (x : Option EndCause) (cause : EndCause) → x ≡ Some cause → x ≡ None → ⊥
some_none x cause p q = cc

pub stays : (r : Reading) (bytes piece : List ℕ) (taken : ℕ) (cause : EndCause) → r.ended ≡ Some cause → Stands r bytes taken →
    Stands r (bytes ++ piece) taken
stays r bytes piece taken cause e s =
    let same : dialogue_of r.cluster (bytes ++ piece) ≡ dialogue_of r.cluster bytes =
    ended_stays r.cluster bytes piece cause (sym s.ended ∙ e) in
    record {
      among = rw same s.among;
      waiting = rw same s.waiting;
      partial = rw same s.partial;
      ended = rw same s.ended;
      left = λ none. absurd (some_none r.ended cause e none);
    }

-- what waits, once more envelopes came
waits : (old waiting more all : List Envelope) (taken : ℕ) → taken ≤ length all → old ≡ drop taken all → waiting ≡ old ++ more →
    waiting ≡ drop taken (all ++ more)
waits old waiting more all taken among e w =
    w ∙ ap (λ (es : List Envelope). es ++ more) e ∙ sym (drop-append-le taken all more among)

-- a piece within what is left
pub fed_within : (old mid : Reading) (bytes piece : List ℕ) (taken : ℕ) → old.ended ≡ None → Stands old bytes taken →
    length piece ≤ old.left → Adds old mid (spoken_in old.cluster (old.partial ++ piece)) →
    Stands (record mid { left = mid.left - length piece }) (bytes ++ piece) taken
fed_within old mid bytes piece taken none s few a =
    let c = old.cluster in
    let room : old.left + length bytes ≡ connection_limit = s.left none in
    let len : length (bytes ++ piece) ≡ length bytes + length piece = length-append bytes piece in
    let added = spoken_in c (old.partial ++ piece) in
    let all : dialogue_of mid.cluster (bytes ++ piece) ≡ behind (dialogue_of c bytes).envelopes added =
    ap (λ (cluster : Setting). dialogue_of cluster (bytes ++ piece)) a.cluster ∙ within c (bytes ++ piece) (omega arith) ∙
    continues c bytes piece old.partial (omega arith) (sym s.ended ∙ none) s.partial in
    record {
      among = rw all (omega (arith, length-append (dialogue_of c bytes).envelopes added.envelopes, s.among));
      waiting = rw all (waits _ _ _ _ taken s.among s.waiting a.waiting);
      partial = rw all a.partial;
      ended = rw all a.ended;
      left = λ none. omega (arith, a.left);
    }

-- a piece that passes it
not_none : (ended : Option EndCause) → or_connection ended ≡ None → ⊥
not_none None e = cc
not_none (Some cause) e = cc

pub fed_beyond : (old mid : Reading) (bytes piece : List ℕ) (taken : ℕ) → old.ended ≡ None → Stands old bytes taken →
    old.left < length piece → Adds old mid (spoken_in old.cluster (old.partial ++ take old.left piece)) →
    Stands (record mid { left = mid.left - old.left; partial = []; ended = or_connection mid.ended }) (bytes ++ piece) taken
fed_beyond old mid bytes piece taken none s many a =
    let c = old.cluster in
    let room : old.left + length bytes ≡ connection_limit = s.left none in
    let len : length (bytes ++ piece) ≡ length bytes + length piece = length-append bytes piece in
    let added = spoken_in c (old.partial ++ take old.left piece) in
    let all : dialogue_of mid.cluster (bytes ++ piece) ≡ cut_off (behind (dialogue_of c bytes).envelopes added) =
    ap (λ (cluster : Setting). dialogue_of cluster (bytes ++ piece)) a.cluster ∙ beyond c (bytes ++ piece) (omega arith) ∙
    ap (λ (text : List ℕ). cut_off (spoken_in c text)) (within_limit old.left bytes piece room) ∙
    ap cut_off (continues c bytes (take old.left piece) old.partial (omega arith) (sym s.ended ∙ none) s.partial) in
    record {
      among = rw all (omega (arith, length-append (dialogue_of c bytes).envelopes added.envelopes, s.among));
      waiting = rw all (waits _ _ _ _ taken s.among s.waiting a.waiting);
      partial = rw all refl;
      ended = rw all (ap or_connection a.ended);
      left = λ none. absurd (not_none mid.ended none);
    }

-- ---- as a call takes the piece: the old reader is seen as before, and the middle one as after

none_of : (ended : Option EndCause) (b : Bool) → b ≡ is_some ended → b ≡ false → ended ≡ None
none_of None b p q = refl
none_of (Some cause) b p q = absurd cc

some_of : (ended : Option EndCause) (b : Bool) → b ≡ is_some ended → b ≡ true → (cause : EndCause) × (ended ≡ Some cause)
some_of None b p q = absurd cc
some_of (Some cause) b p q = (cause, refl)

pub fed_nothing : (before old : Reading) (bytes piece : List ℕ) (taken : ℕ) (b : Bool) → before ≡ old → b ≡ is_some before.ended →
    b ≡ true → Stands old bytes taken → Stands old (bytes ++ piece) taken
fed_nothing before old bytes piece taken b seen p q s =
    let e = some_of before.ended b p q in
    stays old bytes piece taken e.0 (ap (λ (r : Reading). r.ended) (sym seen) ∙ e.1) s

-- how many bytes of a piece are taken
abbrev IsCount : ℕ → List ℕ → ℕ → Type 0
IsCount count piece left = count ≡ min (length piece) left

pub fed_whole : (before old mid after : Reading) (bytes piece : List ℕ) (taken count : ℕ) (b : Bool) → before ≡ old →
    after ≡ mid → b ≡ is_some before.ended → b ≡ false → IsCount count piece before.left → length piece ≤ count →
    Adds old mid (spoken_in old.cluster (old.partial ++ take count piece)) → Stands old bytes taken →
    Stands (record after { left = after.left - count }) (bytes ++ piece) taken
fed_whole before old mid after bytes piece taken count b seen known p q e all a s =
    let none : old.ended ≡ None = ap (λ (r : Reading). r.ended) (sym seen) ∙ none_of before.ended b p q in
    let left : before.left ≡ old.left = ap (λ (r : Reading). r.left) seen in
    let here : count ≡ length piece = omega arith in
    let added : Adds old mid (spoken_in old.cluster (old.partial ++ piece)) =
    subst (λ (text : List ℕ). Adds old mid (spoken_in old.cluster (old.partial ++ text))) (take_all count piece (omega arith)) a in
    rw (known, here) (fed_within old mid bytes piece taken none s (omega arith) added)

pub fed_in_part : (before old mid after : Reading) (bytes piece : List ℕ) (taken count : ℕ) (b : Bool) → before ≡ old →
    after ≡ mid → b ≡ is_some before.ended → b ≡ false → IsCount count piece before.left → count < length piece →
    Adds old mid (spoken_in old.cluster (old.partial ++ take count piece)) → Stands old bytes taken →
    Stands (record after { left = after.left - count; partial = []; ended = or_connection after.ended }) (bytes ++ piece) taken
fed_in_part before old mid after bytes piece taken count b seen known p q e some a s =
    let none : old.ended ≡ None = ap (λ (r : Reading). r.ended) (sym seen) ∙ none_of before.ended b p q in
    let left : before.left ≡ old.left = ap (λ (r : Reading). r.left) seen in
    let here : count ≡ old.left = omega arith in
    let added : Adds old mid (spoken_in old.cluster (old.partial ++ take old.left piece)) =
    subst (λ (k : ℕ). Adds old mid (spoken_in old.cluster (old.partial ++ take k piece))) here a in
    rw (known, here) (fed_beyond old mid bytes piece taken none s (omega arith) added)

-- ---- the envelopes of a connection

-- more bytes bring more envelopes, and take none away
pub record Grows (some all : List Envelope) : Type 0 where
  pub later : List Envelope
  pub is : all ≡ some ++ later

grows_none : (all : List Envelope) → Grows all all
grows_none all = record { later = []; is = sym (append-nil all) }

resumed_grows : (cluster : Setting) (d : Dialogue) (more : List ℕ) → Grows d.envelopes (resumed cluster d more).envelopes
resumed_grows cluster d more = by d.ended where
  by : (ended : Option EndCause) → Grows d.envelopes (resumed cluster (record d { ended = ended }) more).envelopes
  by None = record { later = (spoken_in cluster (d.partial ++ more)).envelopes; is = refl }
  by (Some cause) = grows_none d.envelopes

spoken_grows : (cluster : Setting) (bytes more : List ℕ) →
    Grows (spoken_in cluster bytes).envelopes (spoken_in cluster (bytes ++ more)).envelopes
spoken_grows cluster bytes more = rw (spoken_more cluster bytes more) (resumed_grows cluster (spoken_in cluster bytes) more)

pub envelopes_grow : (cluster : Setting) (bytes more : List ℕ) →
    Grows (dialogue_of cluster bytes).envelopes (dialogue_of cluster (bytes ++ more)).envelopes
envelopes_grow cluster bytes more =
    elim (cases_lt connection_limit (length bytes)) [
      | inl lt ↦ let longer : connection_limit < length (bytes ++ more) = omega (arith, length-append bytes more) in
          let few : connection_limit ≤ length bytes = omega arith in
          rw (beyond cluster bytes lt, beyond cluster (bytes ++ more) longer, take-append-le connection_limit bytes more few)
          (grows_none (spoken_in cluster (take connection_limit bytes)).envelopes)
      | inr le ↦ elim (cases_lt connection_limit (length (bytes ++ more))) [
        | inl lt ↦ let left : (connection_limit - length bytes) + length bytes ≡ connection_limit = omega arith in
            rw (within cluster bytes le, beyond cluster (bytes ++ more) lt, within_limit _ bytes more left)
            (spoken_grows cluster bytes (take (connection_limit - length bytes) more))
        | inr few ↦ rw (within cluster bytes le, within cluster (bytes ++ more) few) (spoken_grows cluster bytes more)
      ]
    ]

begun_few : (most : ℕ) (r : Field Envelope) (bytes : List ℕ) (later : List ℕ → Dialogue) →
    ((rest : List ℕ) → length (later rest).envelopes ≤ most) → length (begun r bytes later).envelopes ≤ suc most
begun_few most (Ok x) bytes later h = omega (arith, h x.1)
begun_few most (Err None) bytes later h = omega arith
begun_few most (Err (Some cause)) bytes later h = omega arith

spoken_few : (most : ℕ) (cluster : Setting) (bytes : List ℕ) → length (spoken most cluster bytes).envelopes ≤ most
unfolding spoken
spoken_few zero cluster bytes = omega arith
spoken_few (suc most) cluster bytes =
    begun_few most (envelope_at cluster bytes) bytes (λ rest. spoken most cluster rest) (λ rest. spoken_few most cluster rest)

spoken_in_few : (cluster : Setting) (bytes : List ℕ) → length (spoken_in cluster bytes).envelopes ≤ length bytes
unfolding spoken_in
spoken_in_few cluster bytes = spoken_few (length bytes) cluster bytes

-- there are no more envelopes than bytes
pub few_envelopes : (cluster : Setting) (bytes : List ℕ) → length (dialogue_of cluster bytes).envelopes ≤ connection_limit
few_envelopes cluster bytes =
    elim (cases_lt connection_limit (length bytes)) [
      | inl lt ↦ rw (beyond cluster bytes lt) (omega (
        arith,
        spoken_in_few cluster (take connection_limit bytes),
        length-take connection_limit bytes,
      ))
      | inr le ↦ rw (within cluster bytes le) (omega (arith, spoken_in_few cluster bytes))
    ]

-- a reader of which all is taken
pub stands_emptied : (r : Reading) (bytes : List ℕ) (taken : ℕ) → Stands r bytes taken →
    Stands (record r { waiting = [] }) bytes (length (dialogue_of r.cluster bytes).envelopes)
stands_emptied r bytes taken s =
    record {
      among = omega arith;
      waiting = sym (drop_all _ (dialogue_of r.cluster bytes).envelopes (omega arith));
      partial = s.partial;
      ended = s.ended;
      left = s.left;
    }
