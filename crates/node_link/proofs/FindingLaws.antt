-- What is found in bytes, one envelope after the other.
use Rattle.std.proofs.Common.{◌≡◌, ℕ, ◌+◌, ◌-◌, ◌≤◌, List, [], ◌∷◌, ◌++◌, length, drop, Option, Some, None, Ok, Err, IfOk, refl, sym, ap}
use Rattle.std.proofs.Common.{subst, ◌∙◌, append_assoc, arith}
use Rattle.std.proofs.lemmas.List.{append-nil, length-drop, drop-drop, drop_all}
use Rattle.basil_types.specs.declared.outbox.Envelope.{Envelope}
use Rattle.basil_types.specs.Setting.{Setting}
use Rattle.node_link.specs.declared.cause.EndCause.{EndCause}
use Rattle.node_link.specs.declared.found.Found.{Found}
use Rattle.node_link.specs.Envelopes.{Field, envelope_at}
use Rattle.node_link.specs.Dialogue.{without, behind, spoken_in}
use Rattle.node_link.specs.Finding.{IsFound}
use Rattle.node_link.proofs.FieldLaws.{Drops, envelope_drops}
use Rattle.node_link.proofs.DialogueLaws.{spoken_whole, spoken_part}

-- the bytes are the last ones
pub record IsEnd (rest bytes : List ℕ) : Type 0 where
  pub few : length rest ≤ length bytes
  pub last : rest ≡ drop (length bytes - length rest) bytes

end_of_dropped : (bytes middle rest : List ℕ) → IsEnd middle bytes → Drops middle rest → IsEnd rest bytes
end_of_dropped bytes middle rest p q =
    let len : length rest ≡ length middle - q.count = ap length q.is ∙ length-drop q.count middle in
    let at : (length bytes - length middle) + q.count ≡ length bytes - length rest = omega (arith, p.few, q.within) in
    record {
      few = omega (arith, p.few);
      last = q.is ∙ ap (drop q.count) p.last ∙ drop-drop q.count (length bytes - length middle) bytes ∙
          ap (λ (k : ℕ). drop k bytes) at;
    }

pub end_more : (cluster : Setting) (bytes middle rest : List ℕ) (first : Envelope) → IsEnd middle bytes →
    envelope_at cluster middle ≡ Ok (first, rest) → IsEnd rest bytes
end_more cluster bytes middle rest first p e =
    end_of_dropped bytes middle rest p
    (subst (λ (r : Field Envelope). IfOk r (λ x. Drops middle x.1)) e (envelope_drops cluster middle))

pub found_more : (cluster : Setting) (bytes middle rest : List ℕ) (envelopes : List Envelope) (first : Envelope) →
    behind envelopes (spoken_in cluster middle) ≡ spoken_in cluster bytes → envelope_at cluster middle ≡ Ok (first, rest) →
    behind (envelopes ++ first ∷ []) (spoken_in cluster rest) ≡ spoken_in cluster bytes
found_more cluster bytes middle rest envelopes first e g =
    let d = spoken_in cluster rest in
    ap (λ (es : List Envelope). record d { envelopes = es }) (append_assoc envelopes (first ∷ []) d.envelopes) ∙
    ap (behind envelopes) (sym (spoken_whole cluster middle rest first g)) ∙ e

partial_at_end : (bytes rest : List ℕ) (ended : Option EndCause) → IsEnd rest bytes →
    drop (length bytes - length (without rest ended).partial) bytes ≡ (without rest ended).partial
partial_at_end bytes rest None p = sym p.last
partial_at_end bytes rest (Some cause) p = drop_all (length bytes - 0) bytes (omega arith)

few_at_end : (bytes rest : List ℕ) (ended : Option EndCause) → IsEnd rest bytes → length (without rest ended).partial ≤ length bytes
few_at_end bytes rest None p = p.few
few_at_end bytes rest (Some cause) p = omega arith

ended_is : (rest : List ℕ) (ended : Option EndCause) → ended ≡ (without rest ended).ended
ended_is rest None = refl
ended_is rest (Some cause) = refl

none_more : (rest : List ℕ) (ended : Option EndCause) → (without rest ended).envelopes ≡ []
none_more rest None = refl
none_more rest (Some cause) = refl

pub found_all : (cluster : Setting) (bytes rest : List ℕ) (found : Found) →
    behind found.envelopes.items (spoken_in cluster rest) ≡ spoken_in cluster bytes → IsEnd rest bytes →
    envelope_at cluster rest ≡ Err found.ended → found.left ≡ length (without rest found.ended).partial →
    IsFound (spoken_in cluster bytes) bytes found
found_all cluster bytes rest found e p g left =
    let d : spoken_in cluster bytes ≡ behind found.envelopes.items (without rest found.ended) =
    sym e ∙ ap (behind found.envelopes.items) (spoken_part cluster rest found.ended g) in
    rw d
    (record {
      envelopes = sym (append-nil found.envelopes.items) ∙ ap (λ (es : List Envelope). found.envelopes.items ++ es)
          (sym (none_more rest found.ended));
      partial = ap (λ (k : ℕ). drop (length bytes - k) bytes) left ∙ partial_at_end bytes rest found.ended p;
      left = rw left (few_at_end bytes rest found.ended p);
      ended = ended_is rest found.ended;
    })
