-- Where something is read, each of its parts is.
use Rattle.std.proofs.Common.{◌≡◌, List, [], ◌∷◌, Bool, true, false, refl, ap, ◌∙◌, Result, Ok, Err, Option, Some, None, if◌then◌else◌}
use Rattle.std.specs.Prelude.{option_map}
use Rattle.line_fields.specs.declared.complaint.Complaint.{Complaint}
use Rattle.line_fields.specs.Tokens.{Token, one_of, two_of, three_of, four_of, five_of, six_of, seven_of, eight_of}
use Rattle.line_fields.specs.Complaints.{both, made, all3, all4, all5}
use Rattle.schedule_text.specs.Lines.{fields}

pub ok-is : {A : Type 0} (a b : A) → ◌≡◌ {A = Result A Complaint} (Ok a) (Ok b) → a ≡ b
ok-is a b h = cc

pub some-is : {A : Type 0} (a b : A) → ◌≡◌ {A = Option A} (Some a) (Some b) → a ≡ b
some-is a b h = cc

pub if-ok : {A : Type 0} (b : Bool) (x : Result A Complaint) (e : Complaint) (v : A) →
    (if b then x else Err e) ≡ Ok v → (b ≡ true) × (x ≡ Ok v)
if-ok true x e v h = (refl, h)
if-ok false x e v h = cc h

pub made-takes : {A B : Type 0} (f : A → B) (r : Result A Complaint) (v : B) → made f r ≡ Ok v → (x : A) × (r ≡ Ok x) × (f x ≡ v)
made-takes f (Ok a) v h = (a, refl, ok-is (f a) v h)
made-takes f (Err c) v h = cc h

pub both-takes : {A B : Type 0} (a : Result A Complaint) (b : Result B Complaint) (t : A × B) →
    both a b ≡ Ok t → (a ≡ Ok t.0) × (b ≡ Ok t.1)
both-takes {A} {B} (Ok a) (Ok b) t h = let e : ◌≡◌ {A = A × B} (a, b) t =
    ok-is (a, b) t h in (ap (λ (z : A × B). Ok z.0) e, ap (λ (z : A × B). Ok z.1) e)
both-takes (Ok a) (Err d) t h = cc h
both-takes (Err c) (Ok b) t h = cc h
both-takes (Err c) (Err d) t h = cc h

pub all3-takes : {A B C : Type 0} (a : Result A Complaint) (b : Result B Complaint) (c : Result C Complaint) (t : A × B × C) →
    all3 a b c ≡ Ok t → (a ≡ Ok t.0) × (b ≡ Ok t.1) × (c ≡ Ok t.2)
unfolding all3
all3-takes {A} {B} {C} a b c t h =
    let f : A × (B × C) → A × B × C = λ u. (u.0, u.1.0, u.1.1) in
    let m = made-takes f (both a (both b c)) t h in
    let p = both-takes a (both b c) m.0 m.1 in
    let q = both-takes b c m.0.1 p.1 in
    (p.0 ∙ ap (λ (z : A × B × C). Ok z.0) m.2, q.0 ∙ ap (λ (z : A × B × C). Ok z.1) m.2, q.1 ∙ ap (λ (z : A × B × C). Ok z.2) m.2)

pub all4-takes : {A B C D : Type 0} (a : Result A Complaint)
    (b : Result B Complaint) (c : Result C Complaint) (d : Result D Complaint) (t : A × B × C × D) → all4 a b c d ≡ Ok t
    → (a ≡ Ok t.0) × (b ≡ Ok t.1) × (c ≡ Ok t.2) × (d ≡ Ok t.3)
unfolding all4
all4-takes {A} {B} {C} {D} a b c d t h =
    let f : A × (B × C × D) → A × B × C × D = λ u. (u.0, u.1.0, u.1.1, u.1.2) in
    let m = made-takes f (both a (all3 b c d)) t h in
    let p = both-takes a (all3 b c d) m.0 m.1 in
    let q = all3-takes b c d m.0.1 p.1 in (
      p.0 ∙ ap (λ (z : A × B × C × D). Ok z.0) m.2,
      q.0 ∙ ap (λ (z : A × B × C × D). Ok z.1) m.2,
      q.1 ∙ ap (λ (z : A × B × C × D). Ok z.2) m.2,
      q.2 ∙ ap (λ (z : A × B × C × D). Ok z.3) m.2,
    )

pub all5-takes : {A B C D E : Type 0} (a : Result A Complaint) (b : Result B Complaint)
    (c : Result C Complaint) (d : Result D Complaint) (e : Result E Complaint) (t : A × B × C × D × E) → all5 a b c d e ≡ Ok t
    → (a ≡ Ok t.0) × (b ≡ Ok t.1) × (c ≡ Ok t.2) × (d ≡ Ok t.3) × (e ≡ Ok t.4)
unfolding all5
all5-takes {A} {B} {C} {D} {E} a b c d e t h =
    let f : A × (B × C × D × E) → A × B × C × D × E = λ u. (u.0, u.1.0, u.1.1, u.1.2, u.1.3) in
    let m = made-takes f (both a (all4 b c d e)) t h in
    let p = both-takes a (all4 b c d e) m.0 m.1 in
    let q = all4-takes b c d e m.0.1 p.1 in (
      p.0 ∙ ap (λ (z : A × B × C × D × E). Ok z.0) m.2,
      q.0 ∙ ap (λ (z : A × B × C × D × E). Ok z.1) m.2,
      q.1 ∙ ap (λ (z : A × B × C × D × E). Ok z.2) m.2,
      q.2 ∙ ap (λ (z : A × B × C × D × E). Ok z.3) m.2,
      q.3 ∙ ap (λ (z : A × B × C × D × E). Ok z.4) m.2,
    )

pub fields-take : {A Z : Type 0} (o : Option A) (f : A → Result Z Complaint) (v : Z) →
    fields o f ≡ Ok v → (t : A) × (o ≡ Some t) × (f t ≡ Ok v)
fields-take None f v h = cc h
fields-take (Some t) f v h = (t, refl, h)

map-takes : {A B : Type 0} (f : A → B) (o : Option A) (y : B) → option_map f o ≡ Some y → (x : A) × (o ≡ Some x) × (f x ≡ y)
map-takes f None y h = cc h
map-takes f (Some x) y h = (x, refl, some-is (f x) y h)

pub one-takes : (ws : List Token) (a : Token) → one_of ws ≡ Some a → ws ≡ a ∷ []
unfolding one_of
one-takes [] a h = cc h
one-takes (x ∷ []) a h = ap (λ (z : Token). z ∷ []) (some-is x a h)
one-takes (x ∷ y ∷ ws) a h = cc h

pub two-takes : (ws : List Token) (t : Token × Token) → two_of ws ≡ Some t → ws ≡ t.0 ∷ t.1 ∷ []
unfolding two_of
two-takes [] t h = cc h
two-takes (x ∷ ws) t h =
    let f : Token → Token × Token = λ u. (x, u) in
    let m = map-takes f (one_of ws) t h in
    ap (λ (r : List Token). x ∷ r) (one-takes ws m.0 m.1) ∙ ap (λ (z : Token × Token). z.0 ∷ z.1 ∷ []) m.2

pub three-take : (ws : List Token) (t : Token × Token × Token) → three_of ws ≡ Some t → ws ≡ t.0 ∷ t.1 ∷ t.2 ∷ []
unfolding three_of
three-take [] t h = cc h
three-take (x ∷ ws) t h =
    let f : (Token × Token) → Token × Token × Token = λ u. (x, u.0, u.1) in
    let m = map-takes f (two_of ws) t h in
    ap (λ (r : List Token). x ∷ r) (two-takes ws m.0 m.1) ∙ ap (λ (z : Token × Token × Token). z.0 ∷ z.1 ∷ z.2 ∷ []) m.2

pub four-take : (ws : List Token) (t : Token × Token × Token × Token) → four_of ws ≡ Some t → ws ≡ t.0 ∷ t.1 ∷ t.2 ∷ t.3 ∷ []
unfolding four_of
four-take [] t h = cc h
four-take (x ∷ ws) t h =
    let f : (Token × Token × Token) → Token × Token × Token × Token = λ u. (x, u.0, u.1, u.2) in
    let m = map-takes f (three_of ws) t h in
    ap (λ (r : List Token). x ∷ r) (three-take ws m.0 m.1) ∙ ap (λ (z : Token × Token × Token × Token). z.0 ∷ z.1 ∷ z.2 ∷ z.3 ∷ []) m.2

pub five-take : (ws : List Token) (t : Token × Token × Token × Token × Token) → five_of ws ≡ Some t → ws ≡ t.0 ∷ t.1 ∷ t.2 ∷ t.3 ∷ t.4 ∷ []
unfolding five_of
five-take [] t h = cc h
five-take (x ∷ ws) t h =
    let f : (Token × Token × Token × Token) → Token × Token × Token × Token × Token = λ u. (x, u.0, u.1, u.2, u.3) in
    let m = map-takes f (four_of ws) t h in
    ap (λ (r : List Token). x ∷ r) (four-take ws m.0 m.1)
    ∙ ap (λ (z : Token × Token × Token × Token × Token). z.0 ∷ z.1 ∷ z.2 ∷ z.3 ∷ z.4 ∷ []) m.2

pub six-take : (ws : List Token) (t : Token × Token × Token × Token × Token × Token) →
    six_of ws ≡ Some t → ws ≡ t.0 ∷ t.1 ∷ t.2 ∷ t.3 ∷ t.4 ∷ t.5 ∷ []
unfolding six_of
six-take [] t h = cc h
six-take (x ∷ ws) t h =
    let f : (Token × Token × Token × Token × Token) → Token × Token × Token × Token × Token × Token = λ u. (x, u.0, u.1, u.2, u.3, u.4) in
    let m = map-takes f (five_of ws) t h in
    ap (λ (r : List Token). x ∷ r) (five-take ws m.0 m.1)
    ∙ ap (λ (z : Token × Token × Token × Token × Token × Token). z.0 ∷ z.1 ∷ z.2 ∷ z.3 ∷ z.4 ∷ z.5 ∷ []) m.2

pub seven-take : (ws : List Token) (t : Token × Token × Token × Token × Token × Token × Token) →
    seven_of ws ≡ Some t → ws ≡ t.0 ∷ t.1 ∷ t.2 ∷ t.3 ∷ t.4 ∷ t.5 ∷ t.6 ∷ []
unfolding seven_of
seven-take [] t h = cc h
seven-take (x ∷ ws) t h =
    let f : (Token × Token × Token × Token × Token × Token) → Token × Token × Token × Token × Token × Token × Token =
    λ u. (x, u.0, u.1, u.2, u.3, u.4, u.5) in
    let m = map-takes f (six_of ws) t h in
    ap (λ (r : List Token). x ∷ r) (six-take ws m.0 m.1)
    ∙ ap (λ (z : Token × Token × Token × Token × Token × Token × Token). z.0 ∷ z.1 ∷ z.2 ∷ z.3 ∷ z.4 ∷ z.5 ∷ z.6 ∷ []) m.2

pub eight-take : (ws : List Token) (t : Token × Token × Token × Token × Token × Token × Token × Token) →
    eight_of ws ≡ Some t → ws ≡ t.0 ∷ t.1 ∷ t.2 ∷ t.3 ∷ t.4 ∷ t.5 ∷ t.6 ∷ t.7 ∷ []
unfolding eight_of
eight-take [] t h = cc h
eight-take (x ∷ ws) t h =
    let f : (Token × Token × Token × Token × Token × Token × Token) → Token × Token × Token × Token × Token × Token × Token × Token =
    λ u. (x, u.0, u.1, u.2, u.3, u.4, u.5, u.6) in
    let m = map-takes f (seven_of ws) t h in
    ap (λ (r : List Token). x ∷ r) (seven-take ws m.0 m.1)
    ∙ ap (λ (z : Token × Token × Token × Token × Token × Token × Token × Token). z.0 ∷ z.1 ∷ z.2 ∷ z.3 ∷ z.4 ∷ z.5 ∷ z.6 ∷ z.7 ∷ []) m.2
