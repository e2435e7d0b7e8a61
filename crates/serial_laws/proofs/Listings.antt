-- The transactions that have had a commit certificate shown are a list.
use Rattle.std.proofs.Common.{◌≡◌, Bool, true, ◌⊎◌, inl, inr, List, [], ◌∷◌, refl, ap, sym, ◌∙◌, subst}
use Rattle.std.specs.Prelude.{filter, map}
use Rattle.std.specs.List.{Contains}
use Rattle.std.proofs.lemmas.Slice.Eq.{bytes_eq-Decides}
use Rattle.basil_types.specs.Transaction.{id}
use Rattle.agreement_laws.specs.Words.{Id, same_id}
use Rattle.agreement_laws.proofs.Puts.{put_id_cases}
use Rattle.serial_laws.specs.Bases.{Basis}
use Rattle.serial_laws.specs.Laws.{ShownAreListed, InEveryRun}
use Rattle.serial_laws.specs.Runs.{State, Step, Does, Certifies, Forms, happens, run, start}
use Rattle.basil_types.proofs.MemberLaws.{in_none, in_head, in_tail, in_cases, in_filter, filter_in, in_map, map_in}

-- the ids that have one are those of the list
pub record AreIds (st : State) (xs : List Id) : Type 0 where
  pub only : (x : Id) → Contains xs x → st.committed x ≡ true
  pub every : (x : Id) → st.committed x ≡ true → Contains xs x

after : (e : Step) (st : State) (xs : List Id) → AreIds st xs → (ys : List Id) × AreIds (happens st e) ys
after (Does e) st xs h = (xs, record { only = h.only; every = h.every })
after (Forms x given) st xs h = (xs, record { only = h.only; every = h.every })
after (Certifies x) st xs h = (
  x ∷ xs,
  record {
    only = λ y i.
        put_id_cases (λ z t. (x ≡ z) ⊎ (st.committed z ≡ true) → t ≡ true) st.committed x true
        (λ _. refl) (λ z n k. elim k [ inl e ↦ absurd (n (sym e)) | inr e ↦ e ])
        y (elim (in_cases x xs y i) [ inl e ↦ inl e | inr k ↦ inr (h.only y k) ]);
    every = put_id_cases (λ z t. t ≡ true → Contains (x ∷ xs) z) st.committed x true
        (λ _. in_head x xs) (λ z n k. in_tail x xs z (h.every z k));
  },
)

after_all : (es : List Step) (st : State) (xs : List Id) → AreIds st xs → (ys : List Id) × AreIds (run es st) ys
after_all [] st xs h = (xs, h)
after_all (e ∷ es) st xs h = let o = after e st xs h in after_all es (happens st e) o.0 o.1

listed : (b : Basis) (st : State) (xs : List Id) → AreIds st xs → ShownAreListed b st
listed b st xs h =
    let named : Id → Bool = λ x. same_id (id (b.text x)) x in
    let ys = filter named xs in (
      map b.text ys,
      record {
        only = λ t i.
            let o = in_map b.text ys t i in
            let k = in_filter named xs o.0 o.1 in
            let e : id (b.text o.0) ≡ o.0 = (bytes_eq-Decides (id (b.text o.0)) o.0).0 k.1 in
            let own : id t ≡ o.0 = ap id (sym o.2) ∙ e in
            record { text = ap b.text own ∙ o.2; shown = ap st.committed own ∙ h.only o.0 k.0 };
        every = λ t s.
            let n : named (id t) ≡ true = (bytes_eq-Decides (id (b.text (id t))) (id t)).1 (ap id s.text) in
            subst (λ z. Contains (map b.text ys) z) s.text (map_in b.text ys (id t) (filter_in named xs (id t) (h.every (id t) s.shown) n));
      },
    )

pub shown_are_listed : InEveryRun ShownAreListed
shown_are_listed b few es lawful =
    let o = after_all es start [] (record { only = λ x i. absurd (in_none x i); every = λ x h. cc }) in
    listed b (run es start) o.0 o.1
