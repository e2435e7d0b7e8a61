-- What is read as a field's value is that value's spelling.
use Rattle.std.proofs.Common.{◌≡◌, ℕ, ◌-◌, ◌<◌, ◌≤◌, ◌^◌, ◌==◌, List, [], ◌∷◌, ◌++◌, length, take, drop, Bool}
use Rattle.std.proofs.Common.{true, false, not, ◌&&◌, ◌||◌, refl, sym, ap, ◌∙◌, arith, Result, Ok, Err, Option}
use Rattle.std.proofs.Common.{Some, None, get_or, codes, slice_index, if◌then◌else◌, subst, append-nil}
use Rattle.std.specs.Prelude.{nat_le, nat_lt, bytes_eq}
use Rattle.std.proofs.lemmas.Grind.{common_steps}
use Rattle.std.proofs.lemmas.Bool.{eqb-true, ltb-true}
use Rattle.std.proofs.lemmas.List.{take-append-drop}
use Rattle.std.proofs.lemmas.Fmt.{decimal-digits_value}
use Rattle.std.proofs.lemmas.Slice.Eq.{bytes_eq-Decides}
use Rattle.std.specs.List.{list_all}
use Rattle.std.specs.Fmt.{decimal}
use Rattle.std.specs.Str.Parse.{digits_value}
use Rattle.basil_types.specs.Limits.{IsU64}
use Rattle.basil_types.specs.declared.party.Party.{Party}
use Rattle.basil_types.specs.declared.party.Party.TheVariants.{Replica, Client}
use Rattle.basil_types.specs.declared.party.Decision.{Decision}
use Rattle.basil_types.specs.declared.party.Decision.TheVariants.{Commit, Abort}
use Rattle.line_fields.specs.declared.complaint.Complaint.{Complaint}
use Rattle.line_fields.specs.declared.complaint.Complaint.TheVariants.{Misspelt, OutOfRange}
use Rattle.line_fields.specs.declared.keys_kind.KeysKind.{KeysKind}
use Rattle.line_fields.specs.declared.keys_kind.KeysKind.TheVariants.{Plain, W4H5, W4H10, W8H5, W8H10, Batch}
use Rattle.line_fields.specs.Tokens.{Token}
use Rattle.line_fields.specs.Complaints.{both, made, made2}
use Rattle.line_fields.specs.Fields.{number, number_in, in_range, is_digit, is_canonical, views, in_order, is_name}
use Rattle.line_fields.specs.Fields.{name, writer, decision, literal, keys_kind, behind, labelled, where_named}
use Rattle.line_fields.specs.Parties.{party, replica_party, client_party, only_party, place, whole, if_ended}
use Rattle.schedule_text.specs.Spelling.{keys_token, decision_token, writer_token, party_tokens}
use Rattle.schedule_text.specs.Fitting.{IsName, IsWriter, IsPlace, IsClient, IsParty}
use Rattle.line_fields.proofs.Digits.{own, AreDigits}
use Rattle.schedule_text.proofs.TokenLaws.{and-left, and-right}
use Rattle.schedule_text.proofs.ResultTakes.{ok-is, some-is, if-ok, made-takes, both-takes}

pub le-of : (a b : ℕ) → nat_le a b ≡ true → a ≤ b
le-of a b h = grind (arith, common_steps)

pub text-is : (w text : Token) → bytes_eq w text ≡ true → w ≡ text
text-is w text h = (bytes_eq-Decides w text).0 h

-- ---- numbers

canonical-one : (w : Token) → is_canonical w ≡ true → get_or w 0 0 ≡ 48 → length w ≡ 1
canonical-one w h e = one-of (length w == 1) refl h
  where
    one-of : (b : Bool) → (length w == 1) ≡ b → (b || not (slice_index w 0 == 48)) ≡ true → length w ≡ 1
    one-of true i h = eqb-true (length w) 1 i
    one-of false i h = let z : (slice_index w 0 == 48) ≡ true = rw e refl in cc (sym h ∙ ap not z)

pub number-takes : (w : Token) (n : ℕ) → number w ≡ Ok n → (decimal n ≡ w) × IsU64 n
unfolding number
number-takes w n h =
    let inner : Result ℕ Complaint =
    if is_canonical w && nat_lt (digits_value 10 w) (2 ^ 64) then Ok (digits_value 10 w) else Err OutOfRange in
    let p = if-ok (nat_lt 0 (length w) && list_all is_digit w) inner Misspelt n h in
    let q = if-ok (is_canonical w && nat_lt (digits_value 10 w) (2 ^ 64)) (Ok (digits_value 10 w)) OutOfRange n p.1 in
    let some : 0 < length w = ltb-true 0 (length w) (and-left (nat_lt 0 (length w)) (list_all is_digit w) p.0) in
    let digits : AreDigits w = and-right (nat_lt 0 (length w)) (list_all is_digit w) p.0 in
    let small : digits_value 10 w < 2 ^ 64 =
    ltb-true (digits_value 10 w) (2 ^ 64) (and-right (is_canonical w) (nat_lt (digits_value 10 w) (2 ^ 64)) q.0) in
    let canonical : is_canonical w ≡ true = and-left (is_canonical w) (nat_lt (digits_value 10 w) (2 ^ 64)) q.0 in
    let e : digits_value 10 w ≡ n = ok-is (digits_value 10 w) n q.1 in
    let same : decimal (digits_value 10 w) ≡ w = decimal-digits_value own w digits some (canonical-one w canonical) small in
    (ap decimal (sym e) ∙ same, subst IsU64 e small)

in_range-takes : (least most : ℕ) (r : Result ℕ Complaint) (n : ℕ) → in_range least most r ≡ Ok n → (r ≡ Ok n) × (least ≤ n) × (n ≤ most)
in_range-takes least most (Err c) n h = cc h
in_range-takes least most (Ok m) n h =
    let p = if-ok (nat_le least m && nat_le m most) (Ok m) OutOfRange n h in
    let e : m ≡ n = ok-is m n p.1 in
    let l : least ≤ m = le-of least m (and-left (nat_le least m) (nat_le m most) p.0) in
    let g : m ≤ most = le-of m most (and-right (nat_le least m) (nat_le m most) p.0) in
    (p.1, omega arith, omega arith)

pub number_in-takes : (least most : ℕ) (w : Token) (n : ℕ) →
    number_in least most w ≡ Ok n → (decimal n ≡ w) × (least ≤ n) × (n ≤ most) × IsU64 n
unfolding number_in
number_in-takes least most w n h =
    let p = in_range-takes least most (number w) n h in
    let t = number-takes w n p.0 in
    (t.0, p.1, p.2, t.1)

pub client-takes : (w : Token) (n : ℕ) → number_in 1 16 w ≡ Ok n → (decimal n ≡ w) × IsClient n
client-takes w n h = let t = number_in-takes 1 16 w n h in (t.0, (t.1, t.2))

pub replica-takes : (w : Token) (n : ℕ) → number_in 0 30 w ≡ Ok n → (decimal n ≡ w) × (n ≤ 30)
replica-takes w n h = let t = number_in-takes 0 30 w n h in (t.0, t.2)

pub place-takes : (s r : Token) (t : ℕ × ℕ) → place s r ≡ Ok t → (decimal t.0 ≡ s) × (decimal t.1 ≡ r) × IsPlace t.0 t.1
place-takes s r t h =
    let p = both-takes (number_in 0 7 s) (number_in 0 30 r) t h in
    let a = number_in-takes 0 7 s t.0 p.0 in
    let b = number_in-takes 0 30 r t.1 p.1 in
    (a.0, b.0, (a.2, b.2))

pub view-takes : (w : Token) (n : ℕ) → number_in 1 (2 ^ 64 - 1) w ≡ Ok n → (decimal n ≡ w) × (1 ≤ n) × IsU64 n
view-takes w n h = let t = number_in-takes 1 (2 ^ 64 - 1) w n h in (t.0, t.1, t.3)

pub views-takes : (d c : Token) (t : ℕ × ℕ) → views d c ≡ Ok t → (decimal t.0 ≡ d) × (decimal t.1 ≡ c) × (t.0 ≤ t.1) × IsU64 t.1
unfolding views
views-takes d c t h = ordered (both (number d) (number c)) refl h
  where
    ordered : (r : Result (ℕ × ℕ) Complaint) →
        both (number d) (number c) ≡ r → in_order r ≡ Ok t → (decimal t.0 ≡ d) × (decimal t.1 ≡ c) × (t.0 ≤ t.1) × IsU64 t.1
    ordered (Err c') e h = cc h
    ordered (Ok v) e h =
        let p = if-ok (nat_le v.0 v.1) (Ok v) OutOfRange t h in
        let q = both-takes (number d) (number c) t (e ∙ p.1) in
        let a = number-takes d t.0 q.0 in
        let b = number-takes c t.1 q.1 in
        let l : v.0 ≤ v.1 = le-of v.0 v.1 p.0 in
        let s : v ≡ t = ok-is v t p.1 in
        (a.0, b.0, subst (λ (z : ℕ × ℕ). z.0 ≤ z.1) s l, b.1)

-- ---- names and spelled tokens

pub name-takes : (w n : Token) → name w ≡ Ok n → (n ≡ w) × IsName n
unfolding name
name-takes w n h =
    let p = if-ok (is_name w) (Ok w) Misspelt n h in
    let e : w ≡ n = ok-is w n p.1 in
    (sym e, subst IsName e p.0)

pub writer-takes : (w : Token) (o : Option (List ℕ)) → writer w ≡ Ok o → (writer_token o ≡ w) × IsWriter o
unfolding writer
writer-takes w o h = dashed (bytes_eq w (codes "-")) refl h
  where
    dashed : (b : Bool) → bytes_eq w (codes "-") ≡ b →
        (if b then Ok None else made Some (name w)) ≡ Ok o → (writer_token o ≡ w) × IsWriter o
    dashed true e h = let s : None ≡ o =
        ok-is None o h in subst (λ (z : Option (List ℕ)). (writer_token z ≡ w) × IsWriter z) s (sym (text-is w (codes "-") e), tt)
    dashed false e h =
        let m = made-takes Some (name w) o h in
        let n = name-takes w m.0 m.1 in
        subst (λ (z : Option (List ℕ)). (writer_token z ≡ w) × IsWriter z) m.2 n

if-token : {A : Type 0} (w text : Token) (a : A) (other : Result A Complaint) (v : A) (P : A → Type 0) →
    (w ≡ text → P a) → (other ≡ Ok v → P v) → (if bytes_eq w text then Ok a else other) ≡ Ok v → P v
if-token {A} w text a other v P same next h = tested (bytes_eq w text) refl h
  where
    tested : (b : Bool) → bytes_eq w text ≡ b → (if b then Ok a else other) ≡ Ok v → P v
    tested true e h = subst P (ok-is a v h) (same (text-is w text e))
    tested false e h = next h

pub decision-takes : (w : Token) (d : Decision) → decision w ≡ Ok d → decision_token d ≡ w
unfolding decision
decision-takes w d h =
    let P : Decision → Type 0 = λ z. decision_token z ≡ w in
    if-token w (codes "commit") Commit _ d P (λ e. sym e)
    (λ h. if-token w (codes "abort") Abort _ d P (λ e. sym e) (λ h. cc h) h) h

pub keys-takes : (w : Token) (k : KeysKind) → keys_kind w ≡ Ok k → keys_token k ≡ w
unfolding keys_kind
keys-takes w k h =
    let P : KeysKind → Type 0 = λ z. keys_token z ≡ w in
    if-token w (codes "plain") Plain _ k P (λ e. sym e)
    (λ h. if-token w (codes "w4h5") W4H5 _ k P (λ e. sym e)
    (λ h. if-token w (codes "w4h10") W4H10 _ k P (λ e. sym e)
    (λ h. if-token w (codes "w8h5") W8H5 _ k P (λ e. sym e)
    (λ h. if-token w (codes "w8h10") W8H10 _ k P (λ e. sym e)
    (λ h. if-token w (codes "batch") Batch _ k P (λ e. sym e) (λ h. cc h) h) h) h) h) h) h

pub literal-takes : (text w : Token) (u : Unit {0}) → literal text w ≡ Ok u → w ≡ text
unfolding literal
literal-takes text w u h = let p = if-ok (bytes_eq w text) (Ok tt) Misspelt u h in text-is w text p.0

pub labelled-takes : {A : Type 0} (label : Token) (field : Token → Result A Complaint) (w : Token) (v : A) →
    labelled label field w ≡ Ok v → (rest : Token) × (w ≡ label ++ rest) × (field rest ≡ Ok v)
unfolding behind
labelled-takes {A} label field w v h = tested (bytes_eq (take (length label) w) label) refl h
  where
    tested : (b : Bool) → bytes_eq (take (length label) w) label ≡ b → where_named field (if b then Some (drop (length label) w) else None)
        ≡ Ok v → (rest : Token) × (w ≡ label ++ rest) × (field rest ≡ Ok v)
    tested false e h = cc h
    tested true e h = (
      drop (length label) w,
      sym (take-append-drop (length label) w)
          ∙ ap (λ (z : Token). z ++ drop (length label) w) (text-is (take (length label) w) label e),
      h,
    )

-- ---- parties

pub party-takes : (ws : List Token) (r : Result Party Complaint) (rest : List Token) (p : Party) →
    party ws ≡ Some (r, rest) → r ≡ Ok p → (ws ≡ party_tokens p ++ rest) × IsParty p
unfolding party
party-takes [] r rest p h e = cc h
party-takes (kind ∷ ws) r rest p h e = tested (bytes_eq kind (codes "replica")) refl (bytes_eq kind (codes "client")) refl h
  where
    P : List Token → Party → Type 0
    P us z = (us ≡ party_tokens z ++ rest) × IsParty z

    of_replica : (us : List Token) → replica_party us ≡ Some (r, rest) → P (codes "replica" ∷ us) p
    of_replica [] h = cc h
    of_replica (s ∷ []) h = cc h
    of_replica (s ∷ i ∷ us) h =
        let q = some-is (made2 Replica (number_in 0 7 s) (number_in 0 30 i), us) (r, rest) h in
        let m = made-takes (λ (t : ℕ × ℕ). Replica t.0 t.1)
        (both (number_in 0 7 s) (number_in 0 30 i)) p (ap (λ (z : Result Party Complaint × List Token). z.0) q ∙ e) in
        let t = place-takes s i m.0 m.1 in
        subst (P (codes "replica" ∷ s ∷ i ∷ us)) m.2
        ((λ j. codes "replica" ∷ sym t.0 j ∷ sym t.1 j ∷ (q j).1), t.2)

    of_client : (us : List Token) → client_party us ≡ Some (r, rest) → P (codes "client" ∷ us) p
    of_client [] h = cc h
    of_client (c ∷ us) h =
        let q = some-is (made Client (number_in 1 16 c), us) (r, rest) h in
        let m = made-takes Client (number_in 1 16 c) p (ap (λ (z : Result Party Complaint × List Token). z.0) q ∙ e) in
        let t = client-takes c m.0 m.1 in
        subst (P (codes "client" ∷ c ∷ us)) m.2 ((λ j. codes "client" ∷ sym t.0 j ∷ (q j).1), t.1)

    tested : (a : Bool) → bytes_eq kind (codes "replica") ≡ a → (b : Bool) → bytes_eq kind (codes "client") ≡ b
        → (if a then replica_party ws else (if b then client_party ws else None)) ≡ Some (r, rest) → P (kind ∷ ws) p
    tested true i b j h = subst (λ (k : Token). P (k ∷ ws) p) (sym (text-is kind (codes "replica") i)) (of_replica ws h)
    tested false i true j h = subst (λ (k : Token). P (k ∷ ws) p) (sym (text-is kind (codes "client") j)) (of_client ws h)
    tested false i false j h = cc h

pub only_party-takes : (ws : List Token) (p : Party) → only_party ws ≡ Ok p → (ws ≡ party_tokens p) × IsParty p
unfolding only_party
only_party-takes ws p h = tested (party ws) refl h
  where
    tested : (o : Option (Result Party Complaint × List Token)) → party ws ≡ o → whole o ≡ Ok p → (ws ≡ party_tokens p) × IsParty p
    tested None i h = cc h
    tested (Some q) i h = ended q.1 refl h
      where
        ended : (rest : List Token) → q.1 ≡ rest → if_ended q.0 rest ≡ Ok p → (ws ≡ party_tokens p) × IsParty p
        ended (a ∷ rest) j h = cc h
        ended [] j h =
            let t = party-takes ws q.0 q.1 p i h in
            (t.0 ∙ ap (λ (z : List Token). party_tokens p ++ z) j ∙ append-nil (party_tokens p), t.1)
