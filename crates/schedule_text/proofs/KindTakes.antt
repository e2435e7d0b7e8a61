-- What is read as a line of a kind is that line's spelling.
use Rattle.std.proofs.Common.{◌≡◌, ℕ, List, [], ◌∷◌, ◌++◌, refl, sym, ap, ◌∙◌, Result, Ok, Option, codes, subst, append_assoc}
use Rattle.std.specs.Fmt.{decimal}
use Rattle.hex.specs.Hex.{encode_lower}
use Rattle.basil_types.specs.declared.party.Party.{Party}
use Rattle.basil_types.specs.declared.party.Decision.{Decision}
use Rattle.line_fields.specs.declared.complaint.Complaint.{Complaint}
use Rattle.schedule_text.specs.declared.line.Line.{Line}
use Rattle.schedule_text.specs.declared.line.Line.TheVariants.{Faulty, Begin, Read, Write, Delete, Claim, Prepare}
use Rattle.schedule_text.specs.declared.line.Line.TheVariants.{Settle, Recover, Invoke, Round, Deliver, Lose, Divert}
use Rattle.schedule_text.specs.declared.line.Line.TheVariants.{Clock, Vote, Second, Logged, Elect, Decide, Raw, Show, Stop}
use Rattle.line_fields.specs.Tokens.{Token, one_of, two_of, three_of, five_of, six_of, seven_of}
use Rattle.line_fields.specs.Complaints.{both, made, made2, made3, made4, made5, all3, all4, all5}
use Rattle.line_fields.specs.Fields.{name, key, value, writer, client, replica, number, decision, views, view, frame, hex, write}
use Rattle.line_fields.specs.Parties.{party, only_party, place}
use Rattle.schedule_text.specs.Lines.{fields, begin, read, write_of, delete, claim, prepare, call, settle, recover, invoke, round}
use Rattle.schedule_text.specs.Lines.{deliver, lose, divert, faulty, clock, vote, second, logged, elect, decide, raw, show, stop}
use Rattle.schedule_text.specs.Spelling.{line_tokens, party_tokens}
use Rattle.schedule_text.specs.Fitting.{Fits, IsName, IsClient}
use Rattle.schedule_text.proofs.ResultTakes.{ok-is, made-takes, both-takes, all3-takes, all4-takes, all5-takes}
use Rattle.schedule_text.proofs.ResultTakes.{fields-take, one-takes, two-takes, three-take, five-take, six-take, seven-take}
use Rattle.schedule_text.proofs.FieldTakes.{number-takes, number_in-takes, client-takes, replica-takes, place-takes, view-takes}
use Rattle.schedule_text.proofs.FieldTakes.{views-takes, name-takes, writer-takes, decision-takes, party-takes, only_party-takes}
use Rattle.schedule_text.proofs.EscapeTakes.{text-takes, value-takes, hex-takes, frame-takes}

-- the tokens of a value, and its ranges
abbrev pub Stands : List Token → Line → Type 0
Stands ws v = (line_tokens v ≡ ws) × Fits v

same_tokens : (token : Token) (a : Line) (us ws : List Token) → line_tokens a ≡ token ∷ us → ws ≡ us → line_tokens a ≡ token ∷ ws
same_tokens token a us ws e s = e ∙ ap (λ (z : List Token). token ∷ z) (sym s)

-- what stands for a value stands for its equal
pub along : (ws : List Token) (a v : Line) → a ≡ v → Stands ws a → Stands ws v
along ws a v e h = subst (Stands ws) e h

pub begin-takes : (ws : List Token) (v : Line) → begin ws ≡ Ok v → Stands (codes "begin" ∷ ws) v
unfolding begin line_tokens
begin-takes ws v h =
    let p = fields-take (three_of ws) (λ (t : Token × Token × Token). made3 Begin (name t.0) (client t.1) (number t.2)) v h in
    let ws-are = three-take ws p.0 p.1 in
    let m = made-takes (λ (t : List ℕ × ℕ × ℕ). Begin t.0 t.1 t.2) (all3 (name p.0.0) (client p.0.1) (number p.0.2)) v p.2 in
    let q = all3-takes (name p.0.0) (client p.0.1) (number p.0.2) m.0 m.1 in
    let t0 = name-takes p.0.0 m.0.0 q.0 in
    let t1 = client-takes p.0.1 m.0.1 q.1 in
    let t2 = number-takes p.0.2 m.0.2 q.2 in
    along (codes "begin" ∷ ws) (Begin m.0.0 m.0.1 m.0.2) v m.2 (
      same_tokens (codes "begin") (Begin m.0.0 m.0.1 m.0.2)
          (p.0.0 ∷ p.0.1 ∷ p.0.2 ∷ []) ws (λ i. codes "begin" ∷ (t0.0) i ∷ (t1.0) i ∷ (t2.0) i ∷ []) ws-are,
      (t0.1, t1.1, t2.1),
    )

pub read-takes : (ws : List Token) (v : Line) → read ws ≡ Ok v → Stands (codes "read" ∷ ws) v
unfolding read line_tokens
read-takes ws v h =
    let p = fields-take (two_of ws) (λ (t : Token × Token). made2 Read (name t.0) (key t.1)) v h in
    let ws-are = two-takes ws p.0 p.1 in
    let m = made-takes (λ (t : List ℕ × List ℕ). Read t.0 t.1) (both (name p.0.0) (key p.0.1)) v p.2 in
    let q = both-takes (name p.0.0) (key p.0.1) m.0 m.1 in
    let t0 = name-takes p.0.0 m.0.0 q.0 in
    let t1 = text-takes 64 p.0.1 m.0.1 q.1 in
    along (codes "read" ∷ ws) (Read m.0.0 m.0.1) v m.2 (
      same_tokens (codes "read")
          (Read m.0.0 m.0.1) (p.0.0 ∷ p.0.1 ∷ []) ws (λ i. codes "read" ∷ (t0.0) i ∷ (t1.0) i ∷ []) ws-are,
      (t0.1, t1.1),
    )

pub write_of-takes : (ws : List Token) (v : Line) → write_of ws ≡ Ok v → Stands (codes "write" ∷ ws) v
unfolding write_of line_tokens
write_of-takes ws v h =
    let p = fields-take (three_of ws) (λ (t : Token × Token × Token). made3 Write (name t.0) (key t.1) (value t.2)) v h in
    let ws-are = three-take ws p.0 p.1 in
    let m = made-takes (λ (t : List ℕ × List ℕ × List ℕ). Write t.0 t.1 t.2) (all3 (name p.0.0) (key p.0.1) (value p.0.2)) v p.2 in
    let q = all3-takes (name p.0.0) (key p.0.1) (value p.0.2) m.0 m.1 in
    let t0 = name-takes p.0.0 m.0.0 q.0 in
    let t1 = text-takes 64 p.0.1 m.0.1 q.1 in
    let t2 = value-takes p.0.2 m.0.2 q.2 in
    along (codes "write" ∷ ws) (Write m.0.0 m.0.1 m.0.2) v m.2 (
      same_tokens (codes "write") (Write m.0.0 m.0.1 m.0.2)
          (p.0.0 ∷ p.0.1 ∷ p.0.2 ∷ []) ws (λ i. codes "write" ∷ (t0.0) i ∷ (t1.0) i ∷ (t2.0) i ∷ []) ws-are,
      (t0.1, t1.1, t2.1),
    )

pub delete-takes : (ws : List Token) (v : Line) → delete ws ≡ Ok v → Stands (codes "delete" ∷ ws) v
unfolding delete line_tokens
delete-takes ws v h =
    let p = fields-take (two_of ws) (λ (t : Token × Token). made2 Delete (name t.0) (key t.1)) v h in
    let ws-are = two-takes ws p.0 p.1 in
    let m = made-takes (λ (t : List ℕ × List ℕ). Delete t.0 t.1) (both (name p.0.0) (key p.0.1)) v p.2 in
    let q = both-takes (name p.0.0) (key p.0.1) m.0 m.1 in
    let t0 = name-takes p.0.0 m.0.0 q.0 in
    let t1 = text-takes 64 p.0.1 m.0.1 q.1 in
    along (codes "delete" ∷ ws) (Delete m.0.0 m.0.1) v m.2 (
      same_tokens (codes "delete")
          (Delete m.0.0 m.0.1) (p.0.0 ∷ p.0.1 ∷ []) ws (λ i. codes "delete" ∷ (t0.0) i ∷ (t1.0) i ∷ []) ws-are,
      (t0.1, t1.1),
    )

pub claim-takes : (ws : List Token) (v : Line) → claim ws ≡ Ok v → Stands (codes "claim" ∷ ws) v
unfolding claim line_tokens
claim-takes ws v h =
    let p = fields-take (three_of ws) (λ (t : Token × Token × Token). made3 Claim (name t.0) (key t.1) (writer t.2)) v h in
    let ws-are = three-take ws p.0 p.1 in
    let m =
    made-takes (λ (t : List ℕ × List ℕ × Option (List ℕ)). Claim t.0 t.1 t.2) (all3 (name p.0.0) (key p.0.1) (writer p.0.2)) v p.2 in
    let q = all3-takes (name p.0.0) (key p.0.1) (writer p.0.2) m.0 m.1 in
    let t0 = name-takes p.0.0 m.0.0 q.0 in
    let t1 = text-takes 64 p.0.1 m.0.1 q.1 in
    let t2 = writer-takes p.0.2 m.0.2 q.2 in
    along (codes "claim" ∷ ws) (Claim m.0.0 m.0.1 m.0.2) v m.2 (
      same_tokens (codes "claim") (Claim m.0.0 m.0.1 m.0.2)
          (p.0.0 ∷ p.0.1 ∷ p.0.2 ∷ []) ws (λ i. codes "claim" ∷ (t0.0) i ∷ (t1.0) i ∷ (t2.0) i ∷ []) ws-are,
      (t0.1, t1.1, t2.1),
    )

pub prepare-takes : (ws : List Token) (v : Line) → prepare ws ≡ Ok v → Stands (codes "prepare" ∷ ws) v
unfolding prepare line_tokens
prepare-takes ws v h =
    let p = fields-take (one_of ws) (λ (t : Token). made Prepare (name t)) v h in
    let ws-are = one-takes ws p.0 p.1 in
    let m = made-takes (λ (t : List ℕ). Prepare t) (name p.0) v p.2 in
    let t0 = name-takes p.0 m.0 m.1 in
    along (codes "prepare" ∷ ws) (Prepare m.0) v m.2
    (same_tokens (codes "prepare") (Prepare m.0) (p.0 ∷ []) ws (λ i. codes "prepare" ∷ (t0.0) i ∷ []) ws-are, t0.1)

pub deliver-takes : (ws : List Token) (v : Line) → deliver ws ≡ Ok v → Stands (codes "deliver" ∷ ws) v
unfolding deliver line_tokens
deliver-takes ws v h =
    let p = fields-take (one_of ws) (λ (t : Token). made Deliver (number t)) v h in
    let ws-are = one-takes ws p.0 p.1 in
    let m = made-takes (λ (t : ℕ). Deliver t) (number p.0) v p.2 in
    let t0 = number-takes p.0 m.0 m.1 in
    along (codes "deliver" ∷ ws) (Deliver m.0) v m.2
    (same_tokens (codes "deliver") (Deliver m.0) (p.0 ∷ []) ws (λ i. codes "deliver" ∷ (t0.0) i ∷ []) ws-are, t0.1)

pub lose-takes : (ws : List Token) (v : Line) → lose ws ≡ Ok v → Stands (codes "lose" ∷ ws) v
unfolding lose line_tokens
lose-takes ws v h =
    let p = fields-take (one_of ws) (λ (t : Token). made Lose (number t)) v h in
    let ws-are = one-takes ws p.0 p.1 in
    let m = made-takes (λ (t : ℕ). Lose t) (number p.0) v p.2 in
    let t0 = number-takes p.0 m.0 m.1 in
    along (codes "lose" ∷ ws) (Lose m.0) v m.2
    (same_tokens (codes "lose") (Lose m.0) (p.0 ∷ []) ws (λ i. codes "lose" ∷ (t0.0) i ∷ []) ws-are, t0.1)

pub clock-takes : (ws : List Token) (v : Line) → clock ws ≡ Ok v → Stands (codes "clock" ∷ ws) v
unfolding clock line_tokens
clock-takes ws v h =
    let p = fields-take (three_of ws) (λ (t : Token × Token × Token). made2 (λ x y. Clock x.0 x.1 y) (place t.0 t.1) (number t.2)) v h in
    let ws-are = three-take ws p.0 p.1 in
    let m = made-takes (λ (t : (ℕ × ℕ) × ℕ). Clock t.0.0 t.0.1 t.1) (both (place p.0.0 p.0.1) (number p.0.2)) v p.2 in
    let q = both-takes (place p.0.0 p.0.1) (number p.0.2) m.0 m.1 in
    let t0 = place-takes p.0.0 p.0.1 m.0.0 q.0 in
    let t1 = number-takes p.0.2 m.0.1 q.1 in
    along (codes "clock" ∷ ws) (Clock m.0.0.0 m.0.0.1 m.0.1) v m.2 (
      same_tokens (codes "clock") (Clock m.0.0.0 m.0.0.1 m.0.1)
          (p.0.0 ∷ p.0.1 ∷ p.0.2 ∷ []) ws (λ i. codes "clock" ∷ (t0.0) i ∷ (t0.1) i ∷ (t1.0) i ∷ []) ws-are,
      (t0.2, t1.1),
    )

pub vote-takes : (ws : List Token) (v : Line) → vote ws ≡ Ok v → Stands (codes "vote" ∷ ws) v
unfolding vote line_tokens
vote-takes ws v h =
    let p = fields-take (five_of ws) (λ (t : Token × Token × Token × Token × Token).
    made4 (λ x y z a. Vote x.0 x.1 y z a) (place t.0 t.1) (name t.2) (decision t.3) (client t.4)) v h in
    let ws-are = five-take ws p.0 p.1 in
    let m = made-takes (λ (t : (ℕ × ℕ) × List ℕ × Decision × ℕ). Vote t.0.0 t.0.1 t.1 t.2 t.3)
    (all4 (place p.0.0 p.0.1) (name p.0.2) (decision p.0.3) (client p.0.4)) v p.2 in
    let q = all4-takes (place p.0.0 p.0.1) (name p.0.2) (decision p.0.3) (client p.0.4) m.0 m.1 in
    let t0 = place-takes p.0.0 p.0.1 m.0.0 q.0 in
    let t1 = name-takes p.0.2 m.0.1 q.1 in
    let t2 = decision-takes p.0.3 m.0.2 q.2 in
    let t3 = client-takes p.0.4 m.0.3 q.3 in
    along (codes "vote" ∷ ws) (Vote m.0.0.0 m.0.0.1 m.0.1 m.0.2 m.0.3) v m.2 (
      same_tokens (codes "vote") (Vote m.0.0.0 m.0.0.1 m.0.1 m.0.2 m.0.3) (p.0.0 ∷ p.0.1 ∷ p.0.2 ∷ p.0.3 ∷ p.0.4 ∷ []) ws
          (λ i. codes "vote" ∷ (t0.0) i ∷ (t0.1) i ∷ (t1.0) i ∷ (t2) i ∷ (t3.0) i ∷ []) ws-are,
      (t0.2, t1.1, t3.1),
    )

pub second-takes : (ws : List Token) (v : Line) → second ws ≡ Ok v → Stands (codes "second" ∷ ws) v
unfolding second line_tokens
second-takes ws v h =
    let p = fields-take (three_of ws) (λ (t : Token × Token × Token). made3 Second (name t.0) (decision t.1) (replica t.2)) v h in
    let ws-are = three-take ws p.0 p.1 in
    let m = made-takes (λ (t : List ℕ × Decision × ℕ). Second t.0 t.1 t.2) (all3 (name p.0.0) (decision p.0.1) (replica p.0.2)) v p.2 in
    let q = all3-takes (name p.0.0) (decision p.0.1) (replica p.0.2) m.0 m.1 in
    let t0 = name-takes p.0.0 m.0.0 q.0 in
    let t1 = decision-takes p.0.1 m.0.1 q.1 in
    let t2 = replica-takes p.0.2 m.0.2 q.2 in
    along (codes "second" ∷ ws) (Second m.0.0 m.0.1 m.0.2) v m.2 (
      same_tokens (codes "second") (Second m.0.0 m.0.1 m.0.2)
          (p.0.0 ∷ p.0.1 ∷ p.0.2 ∷ []) ws (λ i. codes "second" ∷ (t0.0) i ∷ (t1) i ∷ (t2.0) i ∷ []) ws-are,
      (t0.1, t2.1),
    )

pub logged-takes : (ws : List Token) (v : Line) → logged ws ≡ Ok v → Stands (codes "logged" ∷ ws) v
unfolding logged line_tokens
logged-takes ws v h =
    let p = fields-take (seven_of ws) (λ (t : Token × Token × Token × Token × Token × Token × Token).
    made5 (λ x y z a b. Logged x.0 x.1 y z a.0 a.1 b) (place t.0 t.1) (name t.2) (decision t.3) (views t.4 t.5) (client t.6)) v h in
    let ws-are = seven-take ws p.0 p.1 in
    let m = made-takes (λ (t : (ℕ × ℕ) × List ℕ × Decision × (ℕ × ℕ) × ℕ). Logged t.0.0 t.0.1 t.1 t.2 t.3.0 t.3.1 t.4)
    (all5 (place p.0.0 p.0.1) (name p.0.2) (decision p.0.3) (views p.0.4 p.0.5) (client p.0.6)) v p.2 in
    let q = all5-takes (place p.0.0 p.0.1) (name p.0.2) (decision p.0.3) (views p.0.4 p.0.5) (client p.0.6) m.0 m.1 in
    let t0 = place-takes p.0.0 p.0.1 m.0.0 q.0 in
    let t1 = name-takes p.0.2 m.0.1 q.1 in
    let t2 = decision-takes p.0.3 m.0.2 q.2 in
    let t3 = views-takes p.0.4 p.0.5 m.0.3 q.3 in
    let t4 = client-takes p.0.6 m.0.4 q.4 in
    along (codes "logged" ∷ ws) (Logged m.0.0.0 m.0.0.1 m.0.1 m.0.2 m.0.3.0 m.0.3.1 m.0.4) v m.2 (
      same_tokens (codes "logged") (Logged m.0.0.0
          m.0.0.1 m.0.1 m.0.2 m.0.3.0 m.0.3.1 m.0.4) (p.0.0 ∷ p.0.1 ∷ p.0.2 ∷ p.0.3 ∷ p.0.4 ∷ p.0.5 ∷ p.0.6 ∷ []) ws (λ i. codes "logged"
          ∷ (t0.0) i ∷ (t0.1) i ∷ (t1.0) i ∷ (t2) i ∷ (t3.0) i ∷ (t3.1) i ∷ (t4.0) i ∷ []) ws-are,
      (t0.2, t1.1, t3.2, t3.3, t4.1),
    )

pub elect-takes : (ws : List Token) (v : Line) → elect ws ≡ Ok v → Stands (codes "elect" ∷ ws) v
unfolding elect line_tokens
elect-takes ws v h =
    let p = fields-take (five_of ws) (λ (t : Token × Token × Token × Token × Token).
    made4 (λ x y z a. Elect x.0 x.1 y z a) (place t.0 t.1) (name t.2) (decision t.3) (view t.4)) v h in
    let ws-are = five-take ws p.0 p.1 in
    let m = made-takes (λ (t : (ℕ × ℕ) × List ℕ × Decision × ℕ). Elect t.0.0 t.0.1 t.1 t.2 t.3)
    (all4 (place p.0.0 p.0.1) (name p.0.2) (decision p.0.3) (view p.0.4)) v p.2 in
    let q = all4-takes (place p.0.0 p.0.1) (name p.0.2) (decision p.0.3) (view p.0.4) m.0 m.1 in
    let t0 = place-takes p.0.0 p.0.1 m.0.0 q.0 in
    let t1 = name-takes p.0.2 m.0.1 q.1 in
    let t2 = decision-takes p.0.3 m.0.2 q.2 in
    let t3 = view-takes p.0.4 m.0.3 q.3 in
    along (codes "elect" ∷ ws) (Elect m.0.0.0 m.0.0.1 m.0.1 m.0.2 m.0.3) v m.2 (
      same_tokens (codes "elect") (Elect m.0.0.0 m.0.0.1 m.0.1 m.0.2 m.0.3) (p.0.0 ∷ p.0.1 ∷ p.0.2 ∷ p.0.3 ∷ p.0.4 ∷ []) ws
          (λ i. codes "elect" ∷ (t0.0) i ∷ (t0.1) i ∷ (t1.0) i ∷ (t2) i ∷ (t3.0) i ∷ []) ws-are,
      (t0.2, t1.1, t3.1, t3.2),
    )

pub decide-takes : (ws : List Token) (v : Line) → decide ws ≡ Ok v → Stands (codes "decide" ∷ ws) v
unfolding decide line_tokens
decide-takes ws v h =
    let p = fields-take (six_of ws) (λ (t : Token × Token × Token × Token × Token × Token).
    made5 (λ x y z a b. Decide x.0 x.1 y z a b) (place t.0 t.1) (name t.2) (decision t.3) (view t.4) (replica t.5)) v h in
    let ws-are = six-take ws p.0 p.1 in
    let m = made-takes (λ (t : (ℕ × ℕ) × List ℕ × Decision × ℕ × ℕ). Decide t.0.0 t.0.1 t.1 t.2 t.3 t.4)
    (all5 (place p.0.0 p.0.1) (name p.0.2) (decision p.0.3) (view p.0.4) (replica p.0.5)) v p.2 in
    let q = all5-takes (place p.0.0 p.0.1) (name p.0.2) (decision p.0.3) (view p.0.4) (replica p.0.5) m.0 m.1 in
    let t0 = place-takes p.0.0 p.0.1 m.0.0 q.0 in
    let t1 = name-takes p.0.2 m.0.1 q.1 in
    let t2 = decision-takes p.0.3 m.0.2 q.2 in
    let t3 = view-takes p.0.4 m.0.3 q.3 in
    let t4 = replica-takes p.0.5 m.0.4 q.4 in
    along (codes "decide" ∷ ws) (Decide m.0.0.0 m.0.0.1 m.0.1 m.0.2 m.0.3 m.0.4) v m.2 (
      same_tokens (codes "decide") (Decide m.0.0.0 m.0.0.1 m.0.1 m.0.2 m.0.3 m.0.4) (p.0.0 ∷ p.0.1 ∷ p.0.2 ∷ p.0.3 ∷ p.0.4 ∷ p.0.5 ∷ []) ws
          (λ i. codes "decide" ∷ (t0.0) i ∷ (t0.1) i ∷ (t1.0) i ∷ (t2) i ∷ (t3.0) i ∷ (t4.0) i ∷ []) ws-are,
      (t0.2, t1.1, t3.1, t3.2, t4.1),
    )

pub show-takes : (ws : List Token) (v : Line) → show ws ≡ Ok v → Stands (codes "show" ∷ ws) v
unfolding show line_tokens
show-takes ws v h =
    let p = fields-take (one_of ws) (λ (t : Token). made Show (frame t)) v h in
    let ws-are = one-takes ws p.0 p.1 in
    let m = made-takes (λ (t : List ℕ). Show t) (frame p.0) v p.2 in
    let t0 = frame-takes p.0 m.0 m.1 in
    along (codes "show" ∷ ws) (Show m.0) v m.2
    (same_tokens (codes "show") (Show m.0) (p.0 ∷ []) ws (λ i. codes "show" ∷ (t0.0) i ∷ []) ws-are, t0.1)

pub stop-takes : (ws : List Token) (v : Line) → stop ws ≡ Ok v → Stands (codes "stop" ∷ ws) v
unfolding stop line_tokens
stop-takes ws v h =
    let p = fields-take (five_of ws) (λ (t : Token × Token × Token × Token × Token).
    made4 (λ x y z a. Stop x.0 x.1 y z a) (place t.0 t.1) (number t.2) (write t.3) (hex t.4)) v h in
    let ws-are = five-take ws p.0 p.1 in
    let m = made-takes (λ (t : (ℕ × ℕ) × ℕ × ℕ × List ℕ). Stop t.0.0 t.0.1 t.1 t.2 t.3)
    (all4 (place p.0.0 p.0.1) (number p.0.2) (write p.0.3) (hex p.0.4)) v p.2 in
    let q = all4-takes (place p.0.0 p.0.1) (number p.0.2) (write p.0.3) (hex p.0.4) m.0 m.1 in
    let t0 = place-takes p.0.0 p.0.1 m.0.0 q.0 in
    let t1 = number-takes p.0.2 m.0.1 q.1 in
    let t2 = number_in-takes 1 2 p.0.3 m.0.2 q.2 in
    let t3 = hex-takes p.0.4 m.0.3 q.3 in
    along (codes "stop" ∷ ws) (Stop m.0.0.0 m.0.0.1 m.0.1 m.0.2 m.0.3) v m.2 (
      same_tokens (codes "stop") (Stop m.0.0.0 m.0.0.1 m.0.1 m.0.2 m.0.3) (p.0.0 ∷ p.0.1 ∷ p.0.2 ∷ p.0.3 ∷ p.0.4 ∷ []) ws
          (λ i. codes "stop" ∷ (t0.0) i ∷ (t0.1) i ∷ (t1.0) i ∷ (t2.0) i ∷ (t3.0) i ∷ []) ws-are,
      (t0.2, t1.1, t2.1, t2.2, t3.1, t3.2),
    )

call-takes : (ws : List Token) (t : List ℕ × ℕ) → call ws ≡ Ok t → (t.0 ∷ decimal t.1 ∷ [] ≡ ws) × IsName t.0 × IsClient t.1
unfolding call
call-takes ws t h =
    let p = fields-take (two_of ws) (λ (t : Token × Token). both (name t.0) (client t.1)) t h in
    let ws-are = two-takes ws p.0 p.1 in
    let q = both-takes (name p.0.0) (client p.0.1) t p.2 in
    let a = name-takes p.0.0 t.0 q.0 in
    let b = client-takes p.0.1 t.1 q.1 in
    ((λ i. a.0 i ∷ b.0 i ∷ []) ∙ sym ws-are, a.1, b.1)

pub settle-takes : (ws : List Token) (v : Line) → settle ws ≡ Ok v → Stands (codes "settle" ∷ ws) v
unfolding settle line_tokens
settle-takes ws v h =
    let m = made-takes (λ (t : List ℕ × ℕ). Settle t.0 t.1) (call ws) v h in
    let c = call-takes ws m.0 m.1 in
    along (codes "settle" ∷ ws) (Settle m.0.0 m.0.1) v m.2 (ap (λ (z : List Token). codes "settle" ∷ z) c.0, (c.1, c.2))

pub recover-takes : (ws : List Token) (v : Line) → recover ws ≡ Ok v → Stands (codes "recover" ∷ ws) v
unfolding recover line_tokens
recover-takes ws v h =
    let m = made-takes (λ (t : List ℕ × ℕ). Recover t.0 t.1) (call ws) v h in
    let c = call-takes ws m.0 m.1 in
    along (codes "recover" ∷ ws) (Recover m.0.0 m.0.1) v m.2 (ap (λ (z : List Token). codes "recover" ∷ z) c.0, (c.1, c.2))

pub invoke-takes : (ws : List Token) (v : Line) → invoke ws ≡ Ok v → Stands (codes "invoke" ∷ ws) v
unfolding invoke line_tokens
invoke-takes ws v h =
    let m = made-takes (λ (t : List ℕ × ℕ). Invoke t.0 t.1) (call ws) v h in
    let c = call-takes ws m.0 m.1 in
    along (codes "invoke" ∷ ws) (Invoke m.0.0 m.0.1) v m.2 (ap (λ (z : List Token). codes "invoke" ∷ z) c.0, (c.1, c.2))

pub round-takes : (ws : List Token) (v : Line) → round ws ≡ Ok v → Stands (codes "round" ∷ ws) v
unfolding round line_tokens
round-takes [] v h = subst (Stands (codes "round" ∷ [])) (ok-is Round v h) (refl, tt)
round-takes (a ∷ ws) v h = cc h

pub faulty-takes : (ws : List Token) (v : Line) → faulty ws ≡ Ok v → Stands (codes "faulty" ∷ ws) v
unfolding faulty line_tokens
faulty-takes ws v h =
    let m = made-takes Faulty (only_party ws) v h in
    let p = only_party-takes ws m.0 m.1 in
    along (codes "faulty" ∷ ws) (Faulty m.0) v m.2 (ap (λ (z : List Token). codes "faulty" ∷ z) (sym p.0), p.1)

pub divert-takes : (ws : List Token) (v : Line) → divert ws ≡ Ok v → Stands (codes "divert" ∷ ws) v
unfolding divert line_tokens
divert-takes [] v h = cc h
divert-takes (i ∷ ws) v h =
    let m = made-takes (λ (t : ℕ × Party). Divert t.0 t.1) (both (number i) (only_party ws)) v h in
    let q = both-takes (number i) (only_party ws) m.0 m.1 in
    let n = number-takes i m.0.0 q.0 in
    let p = only_party-takes ws m.0.1 q.1 in
    along (codes "divert" ∷ i ∷ ws) (Divert m.0.0 m.0.1) v m.2 ((λ j. codes "divert" ∷ n.0 j ∷ sym p.0 j), (n.1, p.1))

pub raw-takes : (ws : List Token) (v : Line) → raw ws ≡ Ok v → Stands (codes "raw" ∷ ws) v
unfolding raw line_tokens
raw-takes ws v h =
    let P : Type 0 = Result Party Complaint × List Token in
    let p = fields-take (party ws)
    (λ (from : P). fields (party from.1) (λ (to : P). fields (one_of to.1) (λ (t : Token). made3 Raw from.0 to.0 (frame t)))) v h in
    let q = fields-take (party p.0.1) (λ (to : P). fields (one_of to.1) (λ (t : Token). made3 Raw p.0.0 to.0 (frame t))) v p.2 in
    let o = fields-take (one_of q.0.1) (λ (t : Token). made3 Raw p.0.0 q.0.0 (frame t)) v q.2 in
    let m = made-takes (λ (t : Party × Party × List ℕ). Raw t.0 t.1 t.2) (all3 p.0.0 q.0.0 (frame o.0)) v o.2 in
    let a = all3-takes p.0.0 q.0.0 (frame o.0) m.0 m.1 in
    let from = party-takes ws p.0.0 p.0.1 m.0.0 p.1 a.0 in
    let to = party-takes p.0.1 q.0.0 q.0.1 m.0.1 q.1 a.1 in
    let f = frame-takes o.0 m.0.2 a.2 in
    let last : q.0.1 ≡ encode_lower m.0.2 ∷ [] = one-takes q.0.1 o.0 o.1 ∙ ap (λ (z : Token). z ∷ []) (sym f.0) in
    let all : ws ≡ party_tokens m.0.0 ++ (party_tokens m.0.1 ++ encode_lower m.0.2 ∷ []) =
    from.0 ∙ ap (λ (z : List Token). party_tokens m.0.0 ++ z) (to.0 ∙ ap (λ (z : List Token). party_tokens m.0.1 ++ z) last) in
    along (codes "raw" ∷ ws) (Raw m.0.0 m.0.1 m.0.2) v m.2 (
      ap (λ (z : List Token). codes "raw" ∷ z)
          (append_assoc (party_tokens m.0.0) (party_tokens m.0.1) (encode_lower m.0.2 ∷ []) ∙ sym all),
      (from.1, to.1, f.1),
    )
