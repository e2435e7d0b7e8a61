-- What is heard in the messages of a pool, one after the other.
use Rattle.std.proofs.Common.{◌≡◌, ◌∙◌, ℕ, zero, suc, ◌+◌, Bool, true, false, cond, List, []}
use Rattle.std.proofs.Common.{◌∷◌, ◌++◌, Option, Some, None, drop, map, refl, sym, ap, add-one}
use Rattle.std.specs.Prelude.{◌==◌, ◌||◌, slice_get}
use Rattle.std.specs.List.{cons_option, list_any}
use Rattle.std.proofs.lemmas.List.{map-append}
use Rattle.basil_types.specs.Setting.{Setting}
use Rattle.certificates.specs.Accepted.{Accepted}
use Rattle.frame_values.specs.declared.owned.parts.ElectPart.{ElectPart}
use Rattle.frame_values.specs.Owned.{word_value}
use Rattle.frame_views.specs.Values.{WordValue}
use Rattle.cluster_run.specs.States.{Posted}
use Rattle.faulty_parties.specs.declared.question.Question.{Question}
use Rattle.faulty_parties.specs.Hearing.{heard_in, heard_of, joined, joined_all, joined_some, same_replica}

pub joined_next : (o : Option WordValue) (xs ws : List WordValue) → joined_all (cons_option o xs) ws ≡ joined_all xs (joined_some o ws)
joined_next None xs ws = refl
joined_next (Some x) xs ws = refl

drop_next : {A : Type 0} (xs : List A) (i : ℕ) (x : A) → slice_get xs i ≡ Some x → drop i xs ≡ x ∷ drop (suc i) xs
drop_next [] i x e = absurd cc
drop_next (y ∷ ys) zero x e = cc
drop_next (y ∷ ys) (suc i) x e = drop_next ys i x e

drop_past : {A : Type 0} (xs : List A) (i : ℕ) → slice_get xs i ≡ None → drop i xs ≡ []
drop_past [] zero e = refl
drop_past [] (suc i) e = refl
drop_past (y ∷ ys) zero e = absurd cc
drop_past (y ∷ ys) (suc i) e = drop_past ys i e

drop_later : {A : Type 0} (xs : List A) (i : ℕ) → slice_get xs i ≡ None → drop (suc i) xs ≡ []
drop_later [] i e = refl
drop_later (y ∷ ys) zero e = absurd cc
drop_later (y ∷ ys) (suc i) e = drop_later ys i e

-- ---- one more of a replica, or none

said_any : (w : WordValue) (parts : List ElectPart) →
    list_any (λ (p : ElectPart). w.replica == p.replica) parts ≡ list_any (same_replica w) (map word_value parts)
said_any w [] = refl
said_any w (p ∷ ps) = ap (λ b. (w.replica == p.replica) || b) (said_any w ps)

pub joins_none : (w : WordValue) (parts : List ElectPart) (b : Bool) →
    b ≡ list_any (λ (p : ElectPart). w.replica == p.replica) parts → b ≡ true → map word_value parts ≡ joined w (map word_value parts)
joins_none w parts b is e =
    sym (ap (λ t. cond t (map word_value parts) (map word_value parts ++ w ∷ [])) (sym (said_any w parts) ∙ sym is ∙ e))

pub joins_one : (w : WordValue) (parts new : List ElectPart) (part : ElectPart) (b : Bool) →
    b ≡ list_any (λ (p : ElectPart). w.replica == p.replica) parts → b ≡ false → new ≡ parts ++ part ∷ [] → word_value part ≡ w →
    map word_value new ≡ joined w (map word_value parts)
joins_one w parts new part b is e n same =
    ap (map word_value) n ∙ map-append word_value parts (part ∷ []) ∙ ap (λ x. map word_value parts ++ x ∷ []) same
    ∙ sym (ap (λ t. cond t (map word_value parts) (map word_value parts ++ w ∷ [])) (sym (said_any w parts) ∙ sym is ∙ e))

-- ---- the messages

module _ (A : Accepted) (c : Setting) (i : List ℕ) (q : Question) (posts : List Posted) where
  -- one more message is heard
  pub next_heard : (place : ℕ) (p : Posted) (ws new total : List WordValue) → slice_get posts place ≡ Some p →
      new ≡ joined_some (heard_in A c i q p.frame) ws → joined_all (heard_of A c i q (drop place posts)) ws ≡ total →
      joined_all (heard_of A c i q (drop (place + 1) posts)) new ≡ total
  next_heard place p ws new total at is before =
      ap (λ n. joined_all (heard_of A c i q (drop n posts)) new) (add-one place)
      ∙ ap (joined_all (heard_of A c i q (drop (suc place) posts))) is
      ∙ sym (joined_next (heard_in A c i q p.frame) (heard_of A c i q (drop (suc place) posts)) ws)
      ∙ ap (λ l. joined_all (heard_of A c i q l) ws) (sym (drop_next posts place p at)) ∙ before

  -- past the end nothing is
  pub none_heard : (place : ℕ) (ws total : List WordValue) → slice_get posts place ≡ None →
      joined_all (heard_of A c i q (drop place posts)) ws ≡ total → joined_all (heard_of A c i q (drop (place + 1) posts)) ws ≡ total
  none_heard place ws total at before =
      ap (λ n. joined_all (heard_of A c i q (drop n posts)) ws) (add-one place)
      ∙ ap (λ l. joined_all (heard_of A c i q l) ws) (drop_later posts place at ∙ sym (drop_past posts place at)) ∙ before
