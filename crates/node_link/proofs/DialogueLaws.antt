-- The dialogue of bytes, and of more bytes behind them.
use Rattle.std.proofs.Common.{◌≡◌, ℕ, zero, suc, ◌<◌, ◌≤◌, List, [], ◌∷◌, ◌++◌, length, Option, Some, None, Ok, Err, IfOk, refl, sym, ap}
use Rattle.std.proofs.Common.{subst, ◌∙◌, arith}
use Rattle.basil_types.specs.declared.outbox.Envelope.{Envelope}
use Rattle.basil_types.specs.Setting.{Setting}
use Rattle.node_link.specs.declared.cause.EndCause.{EndCause}
use Rattle.node_link.specs.Envelopes.{Field, party_at, envelope_at}
use Rattle.node_link.specs.Dialogue.{Dialogue, without, behind, begun, spoken, spoken_in}
use Rattle.node_link.proofs.FieldLaws.{extended, envelope_more, envelope_behind}

-- ---- as many envelopes as bytes are enough

begun_same : (r : Field Envelope) (bytes : List ℕ) (later others : List ℕ → Dialogue) →
    IfOk r (λ x. later x.1 ≡ others x.1) → begun r bytes later ≡ begun r bytes others
begun_same (Ok x) bytes later others e = ap (behind (x.0 ∷ [])) e
begun_same (Err cause) bytes later others e = refl

on_ok : (r : Field Envelope) (P Q : Envelope × List ℕ → Type 0) → IfOk r P → ((x : Envelope × List ℕ) → P x → Q x) → IfOk r Q
on_ok (Ok x) P Q h f = f x h
on_ok (Err cause) P Q h f = tt

nothing_begun : (cluster : Setting) (later : List ℕ → Dialogue) → begun (envelope_at cluster []) [] later ≡ without [] None
unfolding envelope_at party_at
nothing_begun cluster later = refl

pub enough : (m n : ℕ) (cluster : Setting) (bytes : List ℕ) → length bytes ≤ m → length bytes ≤ n →
    spoken m cluster bytes ≡ spoken n cluster bytes
unfolding spoken
enough zero zero cluster bytes p q = refl
enough zero (suc n) cluster [] p q = sym (nothing_begun cluster _)
enough zero (suc n) cluster (b ∷ bytes) p q = absurd (omega arith)
enough (suc m) zero cluster [] p q = nothing_begun cluster _
enough (suc m) zero cluster (b ∷ bytes) p q = absurd (omega arith)
enough (suc m) (suc n) cluster bytes p q =
    begun_same (envelope_at cluster bytes) bytes _ _ (on_ok (envelope_at cluster bytes) _ _ (envelope_behind cluster bytes)
    (λ x short. enough m n cluster x.1 (omega arith) (omega arith)))

-- ---- one envelope after the other

pub spoken_step : (cluster : Setting) (bytes : List ℕ) → spoken_in cluster bytes ≡
    begun (envelope_at cluster bytes) bytes (λ rest. spoken_in cluster rest)
unfolding spoken_in spoken
spoken_step cluster [] = sym (nothing_begun cluster (λ rest. spoken_in cluster rest))
spoken_step cluster (b ∷ bytes) =
    begun_same (envelope_at cluster (b ∷ bytes)) (b ∷ bytes) _ _
    (on_ok (envelope_at cluster (b ∷ bytes)) _ _ (envelope_behind cluster (b ∷ bytes))
    (λ x short. enough (length bytes) (length x.1) cluster x.1 (omega arith) (omega arith)))

-- a whole envelope stands before the dialogue of what is behind it
pub spoken_whole : (cluster : Setting) (bytes rest : List ℕ) (first : Envelope) → envelope_at cluster bytes ≡ Ok (first, rest) →
    spoken_in cluster bytes ≡ behind (first ∷ []) (spoken_in cluster rest)
spoken_whole cluster bytes rest first e =
    spoken_step cluster bytes ∙ ap (λ (r : Field Envelope). begun r bytes (λ rest. spoken_in cluster rest)) e

-- without one, bytes are missing, or the connection ends
pub spoken_part : (cluster : Setting) (bytes : List ℕ) (ended : Option EndCause) → envelope_at cluster bytes ≡ Err ended →
    spoken_in cluster bytes ≡ without bytes ended
spoken_part cluster bytes ended e =
    spoken_step cluster bytes ∙ ap (λ (r : Field Envelope). begun r bytes (λ rest. spoken_in cluster rest)) e

-- ---- more bytes

-- what a dialogue becomes with more bytes: nothing more once it has ended
abbrev pub resumed : Setting → Dialogue → List ℕ → Dialogue
resumed cluster d more = elim d.ended [ None ↦ behind d.envelopes (spoken_in cluster (d.partial ++ more)) | Some cause ↦ d ]

resumed_behind : (cluster : Setting) (first : Envelope) (d : Dialogue) (more : List ℕ) →
    behind (first ∷ []) (resumed cluster d more) ≡ resumed cluster (behind (first ∷ []) d) more
resumed_behind cluster first d more =
    by d.ended where
      by : (ended : Option EndCause) →
          behind (first ∷ []) (resumed cluster (record d { ended = ended }) more) ≡
          resumed cluster (behind (first ∷ []) (record d { ended = ended })) more
      by None = refl
      by (Some cause) = refl

open_more : (cluster : Setting) (bytes more : List ℕ) → envelope_at cluster bytes ≡ Err None →
    spoken_in cluster (bytes ++ more) ≡ resumed cluster (spoken_in cluster bytes) more
open_more cluster bytes more e = rw (spoken_part cluster bytes None e) refl

ended_more : (cluster : Setting) (bytes more : List ℕ) (cause : EndCause) → envelope_at cluster bytes ≡ Err (Some cause) →
    spoken_in cluster (bytes ++ more) ≡ resumed cluster (spoken_in cluster bytes) more
ended_more cluster bytes more cause e =
    let further : envelope_at cluster (bytes ++ more) ≡ Err (Some cause) =
    envelope_more cluster bytes more (λ none. absurd cc) ∙ ap (extended more) e in
    rw (spoken_part cluster bytes (Some cause) e, spoken_part cluster (bytes ++ more) (Some cause) further) refl

whole_more : (cluster : Setting) (bytes more : List ℕ) (x : Envelope × List ℕ) → envelope_at cluster bytes ≡ Ok x →
    spoken_in cluster (x.1 ++ more) ≡ resumed cluster (spoken_in cluster x.1) more →
    spoken_in cluster (bytes ++ more) ≡ resumed cluster (spoken_in cluster bytes) more
whole_more cluster bytes more x e later =
    let further : envelope_at cluster (bytes ++ more) ≡ Ok (x.0, x.1 ++ more) =
    envelope_more cluster bytes more (λ none. absurd cc) ∙ ap (extended more) e in
    rw (spoken_whole cluster bytes x.1 x.0 e, spoken_whole cluster (bytes ++ more) (x.1 ++ more) x.0 further, later)
    (resumed_behind cluster x.0 (spoken_in cluster x.1) more)

shorter : (cluster : Setting) (bytes : List ℕ) (x : Envelope × List ℕ) → envelope_at cluster bytes ≡ Ok x → length x.1 < length bytes
shorter cluster bytes x e =
    subst (λ (r : Field Envelope). IfOk r (λ x. length x.1 < length bytes)) e (envelope_behind cluster bytes)

more_by : (most : ℕ) (cluster : Setting) (bytes more : List ℕ) → length bytes ≤ most →
    spoken_in cluster (bytes ++ more) ≡ resumed cluster (spoken_in cluster bytes) more
more_by zero cluster bytes more short =
    by (envelope_at cluster bytes) refl where
      by : (r : Field Envelope) → envelope_at cluster bytes ≡ r →
          spoken_in cluster (bytes ++ more) ≡ resumed cluster (spoken_in cluster bytes) more
      by (Err None) e = open_more cluster bytes more e
      by (Err (Some cause)) e = ended_more cluster bytes more cause e
      by (Ok x) e = absurd (omega (arith, shorter cluster bytes x e))
more_by (suc most) cluster bytes more short =
    by (envelope_at cluster bytes) refl (λ rest few. more_by most cluster rest more few) where
      by : (r : Field Envelope) → envelope_at cluster bytes ≡ r →
          ((rest : List ℕ) → length rest ≤ most → spoken_in cluster (rest ++ more) ≡ resumed cluster (spoken_in cluster rest) more) →
          spoken_in cluster (bytes ++ more) ≡ resumed cluster (spoken_in cluster bytes) more
      by (Err None) e later = open_more cluster bytes more e
      by (Err (Some cause)) e later = ended_more cluster bytes more cause e
      by (Ok x) e later = whole_more cluster bytes more x e (later x.1 (omega (arith, shorter cluster bytes x e)))

pub spoken_more : (cluster : Setting) (bytes more : List ℕ) →
    spoken_in cluster (bytes ++ more) ≡ resumed cluster (spoken_in cluster bytes) more
spoken_more cluster bytes more = more_by (length bytes) cluster bytes more (omega arith)

-- ---- nothing is partial once it has ended

abbrev EmptyOnceEnded : Dialogue → Type 0
EmptyOnceEnded d = (cause : EndCause) → d.ended ≡ Some cause → d.partial ≡ []

begun_ended : (r : Field Envelope) (bytes : List ℕ) (later : List ℕ → Dialogue) →
    ((rest : List ℕ) → EmptyOnceEnded (later rest)) → EmptyOnceEnded (begun r bytes later)
begun_ended (Ok x) bytes later h cause e = h x.1 cause e
begun_ended (Err None) bytes later h cause e = absurd cc
begun_ended (Err (Some other)) bytes later h cause e = refl

spoken_ended : (most : ℕ) (cluster : Setting) (bytes : List ℕ) → EmptyOnceEnded (spoken most cluster bytes)
unfolding spoken
spoken_ended zero cluster bytes cause e = absurd cc
spoken_ended (suc most) cluster bytes cause e =
    begun_ended (envelope_at cluster bytes) bytes (λ rest. spoken most cluster rest) (λ rest. spoken_ended most cluster rest) cause e

pub empty_once_ended : (cluster : Setting) (bytes : List ℕ) (cause : EndCause) → (spoken_in cluster bytes).ended ≡ Some cause →
    (spoken_in cluster bytes).partial ≡ []
unfolding spoken_in
empty_once_ended cluster bytes = spoken_ended (length bytes) cluster bytes
