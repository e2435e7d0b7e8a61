-- The pens of the faulty parties, and how they stand in a run.
use Rattle.std.specs.Prelude.{◌≡◌, ◌≤◌, ◌+◌, ◌-◌, ℕ, true, false, List, Option, Some, None, find, option_map, slice_set}
use Rattle.std.specs.List.{count_by, list_any}
use Rattle.std.specs.Option.{option_map_or}
use Rattle.basil_types.specs.declared.party.Party.{Party}
use Rattle.keyring.specs.declared.signer.Signer as signers
use Rattle.node_steps.specs.Pens.{PenValue, after_one, pen_value, GivesItsSize}
use Rattle.premise_watch.specs.Breaches.{NotedWords}
use Rattle.txn_table.specs.Entries.{same_party}
use Rattle.cluster_run.specs.States.{KitValue, Setup}
use Rattle.faulty_parties.specs.declared.pens.Pen.{Pen}
use Rattle.faulty_parties.specs.declared.pens.Pens.{Pens}

-- the first pen of a party
abbrev pub pen_of : {S : Type 0} → List (Pen S) → Party → Option S
pen_of pens p = option_map (λ (x : Pen _). x.signer) (find (λ (x : Pen _). same_party p x.party) pens)

-- how often a party has signed
abbrev pub times : Party → List NotedWords → ℕ
times p lied = count_by (λ (n : NotedWords). same_party p n.party) lied

-- after so many signatures
abbrev pub after : ℕ → PenValue → PenValue
after n pen = record { spent = pen.spent + n; left = pen.left - n }

-- the pen of a kit for a party, before its first signature, which all have one size
pub record Begins {S : Type 0} (g : signers.Ghosts S) (k : KitValue) (p : Party) (pen : S) : Type 0 where
  pub own : (k.signing p).party ≡ p
  pub fixed : g.fixed pen ≡ k.signing p
  pub place : pen_value (g.spent pen) (g.left_of pen) ≡ k.pen p
  pub sized : GivesItsSize (k.signing p) (k.pen p)

-- a pen that has given so many signatures of those of a kit's pen
pub record HasGiven {S : Type 0} (g : signers.Ghosts S) (k : KitValue) (p : Party) (n : ℕ) (pen : S) : Type 0 where
  pub own : (k.signing p).party ≡ p
  pub fixed : g.fixed pen ≡ k.signing p
  pub few : n ≤ (k.pen p).left
  pub place : pen_value (g.spent pen) (g.left_of pen) ≡ after n (k.pen p)
  pub sized : GivesItsSize (k.signing p) (k.pen p)

abbrev pub IsThere : {S : Type 0} → (S → Type 0) → Option S → Type 0
IsThere Is None = ⊥
IsThere Is (Some pen) = Is pen

-- how many signatures a party's pen has left
abbrev pub left_in : {S : Type 0} → signers.Ghosts S → Pens S → Party → ℕ
left_in g pens p = option_map_or g.left_of (pen_of pens.pens.items p) 0

-- the bytes of each of them
abbrev pub size_in : {S : Type 0} → signers.Ghosts S → Pens S → Party → ℕ
size_in g pens p = option_map_or (λ pen. (g.fixed pen).size) (pen_of pens.pens.items p) 1

-- each of these parties has the pen of the kit, less what it signed, and no other has one
pub record LieFor {S : Type 0} (g : signers.Ghosts S) (pens : Pens S) (s : Setup) (parties : List Party)
    (lied : List NotedWords) : Type 0 where
  pub own : (p : Party) → list_any (same_party p) parties ≡ true →
      IsThere (HasGiven g s.kit p (times p lied)) (pen_of pens.pens.items p)
  pub others : (p : Party) → list_any (same_party p) parties ≡ false → pen_of pens.pens.items p ≡ None

-- those that are faulty in a run
abbrev pub LiesAs : {S : Type 0} → signers.Ghosts S → Pens S → Setup → List NotedWords → Type 0
LiesAs g pens s lied = LieFor g pens s s.faulty lied

-- at this place of the pens stands the pen that stood there, after one signature
pub record StepsAt {S : Type 0} (g : signers.Ghosts S) (old new : List (Pen S)) (place : ℕ) (pen : Pen S) : Type 0 where
  pub next : Pen S
  pub is : new ≡ slice_set old place next
  pub party : next.party ≡ pen.party
  pub fixed : g.fixed next.signer ≡ g.fixed pen.signer
  pub spends : pen_value (g.spent next.signer) (g.left_of next.signer)
      ≡ after_one (pen_value (g.spent pen.signer) (g.left_of pen.signer))
