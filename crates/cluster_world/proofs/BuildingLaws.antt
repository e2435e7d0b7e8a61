-- The nodes and the pens with which a world begins.
use Rattle.std.proofs.Common.{◌≡◌, ◌∙◌, ◌<◌, ℕ, zero, suc, ◌+◌, Bool, true, false, cond, List, [], ◌∷◌, ◌++◌, length, map, get_or}
use Rattle.std.proofs.Common.{refl, sym, ap, subst, arith, append_assoc}
use Rattle.std.specs.Prelude.{◌-◌, ◌&&◌, ◌||◌, filter}
use Rattle.std.specs.List.{flat_map, list_any, range_with_len}
use Rattle.std.proofs.lemmas.Grind.{flat_map-append}
use Rattle.std.proofs.lemmas.List.{append-nil}
use Rattle.std.proofs.lemmas.List.Elements.{filter-append}
use Rattle.std.proofs.lemmas.List.Folds.{list_any-append, list_any_at}
use Rattle.std.proofs.lemmas.List.FromFn.{get_or-map-range_with_len, get_or-range_with_len, length-map-range_with_len}
use Rattle.std.proofs.lemmas.List.FromFn.{length-range_with_len, map-range_with_len_more}
use Rattle.std.proofs.lemmas.Map.Views.{any-filter_same}
use Rattle.basil_types.specs.declared.party.Party.{Party}
use Rattle.basil_types.specs.declared.party.Party.TheVariants.{Replica, Client}
use Rattle.basil_types.specs.Setting.{Setting}
use Rattle.cluster_nodes.specs.declared.calling.StandingClient.{StandingClient}
use Rattle.cluster_nodes.specs.declared.standing.StandingReplica.{StandingReplica}
use Rattle.cluster_nodes.specs.Standings.{HoldsAs, StandsAs}
use Rattle.cluster_run.proofs.Running.{party_same, party_self}
use Rattle.cluster_run.specs.States.{Setup, Standing, first_standing, shard_standing}
use Rattle.faulty_parties.specs.declared.pens.Pens.{Pens}
use Rattle.faulty_parties.specs.Pens.{LieFor, LiesAs}
use Rattle.keyring.specs.declared.verifier.Verifier as verifiers
use Rattle.keyring.specs.declared.signer.Signer as signers
use Rattle.premise_watch.specs.Parties.{is_among}
use Rattle.quorum_laws.specs.Numbers.{replicas}
use Rattle.txn_table.specs.Entries.{same_party}
use Rattle.cluster_world.specs.Building.{AddsReplicas, AreCallers, AreReplicas, first_client, first_clients, first_shards}
use Rattle.cluster_world.specs.Building.{AddsPens, ArePensOf, client_parties, parties_of, parties_of_shard, parties_of_shards}
use Rattle.cluster_world.specs.Pairs.{Pairs}
use Rattle.cluster_world.specs.Shows.{AreMembers, IsCaller, IsMember, IsReplica}
use Rattle.cluster_world.proofs.PairLaws.{pairs_length}

-- ---- lists

-- one more pair behind the others
pub pairs_more : {A B : Type 0} (Is : ℕ → A → B → Type 0) (ls : List A) (rs : List B) (a : A) (b : B) → Pairs Is ls rs →
    Is (length ls) a b → Pairs Is (ls ++ a ∷ []) (rs ++ b ∷ [])
pairs_more Is [] [] a b h one = (one, tt)
pairs_more Is [] (y ∷ rs) a b h one = absurd h
pairs_more Is (x ∷ ls) [] a b h one = absurd h
pairs_more Is (x ∷ ls) (y ∷ rs) a b h one = (h.0, pairs_more (λ place. Is (suc place)) ls rs a b h.1 one)

range_more : (a n : ℕ) → range_with_len a (suc n) ≡ range_with_len a n ++ (a + n) ∷ []
range_more a zero = let same : a ≡ a + 0 = omega arith in ap (λ x. x ∷ []) same
range_more a (suc n) =
    let same : a + 1 + n ≡ a + suc n = omega arith in
    ap (λ l. a ∷ l) (range_more (a + 1) n ∙ ap (λ x. range_with_len (a + 1) n ++ x ∷ []) same)

-- the lists of one more number
pub flat_more : {A : Type 0} (f : ℕ → List A) (n : ℕ) →
    flat_map f (range_with_len 0 (n + 1)) ≡ flat_map f (range_with_len 0 n) ++ f n
flat_more f n =
    let one : n + 1 ≡ suc n = omega arith in
    let same : 0 + n ≡ n = omega arith in
    ap (flat_map f) (ap (range_with_len 0) one ∙ range_more 0 n ∙ ap (λ x. range_with_len 0 n ++ x ∷ []) same)
    ∙ flat_map-append f (range_with_len 0 n) (n ∷ [])
    ∙ ap (λ l. flat_map f (range_with_len 0 n) ++ l) (append-nil (f n))

-- what is in the list of a number is in all of them
any_flat : {A : Type 0} (t : A → Bool) (f : ℕ → List A) (ns : List ℕ) (i : ℕ) → i < length ns →
    list_any t (f (get_or ns i 0)) ≡ true → list_any t (flat_map f ns) ≡ true
any_flat t f [] i h e = absurd (omega arith)
any_flat t f (n ∷ ns) zero h e =
    list_any-append t (f n) (flat_map f ns) ∙ ap (λ b. b || list_any t (flat_map f ns)) e
any_flat t f (n ∷ ns) (suc i) h e =
    list_any-append t (f n) (flat_map f ns) ∙ ap (λ b. list_any t (f n) || b) (any_flat t f ns i (omega arith) e)
    ∙ or_true (list_any t (f n))
  where
    or_true : (b : Bool) → (b || true) ≡ true
    or_true true = refl
    or_true false = refl

-- ---- replicas

module _ {V S : Type 0} {v : verifiers.Ghosts V} {g : signers.Ghosts S} (s : Setup) where
  pub no_replicas : (nodes : List (StandingReplica V S v g)) → AddsReplicas s [] nodes nodes
  no_replicas nodes before h = subst (AreReplicas s nodes) (sym (append-nil before)) h

  pub one_replica : (old new : List (StandingReplica V S v g)) (node : StandingReplica V S v g) (x : Standing) →
      new ≡ old ++ node ∷ [] → StandsAs s node x → AddsReplicas s (x ∷ []) old new
  one_replica old new node x same is before h =
      subst (λ l. AreReplicas s l (before ++ x ∷ [])) (sym same) (pairs_more (IsReplica s) old before node x h is)

  pub more_replicas : (more last : List Standing) (old now new : List (StandingReplica V S v g)) →
      AddsReplicas s more old now → AddsReplicas s last now new → AddsReplicas s (more ++ last) old new
  more_replicas more last old now new first next before h =
      subst (AreReplicas s new) (append_assoc before more last) (next (before ++ more) (first before h))

  -- one more replica of a shard
  pub next_replica : (shard index : ℕ) (old now new : List (StandingReplica V S v g)) →
      AddsReplicas s (map (first_standing s shard) (range_with_len 0 index)) old now →
      AddsReplicas s (first_standing s shard index ∷ []) now new →
      AddsReplicas s (map (first_standing s shard) (range_with_len 0 (index + 1))) old new
  next_replica shard index old now new first next =
      subst (λ l. AddsReplicas s l old new) (sym (map-range_with_len_more (first_standing s shard) 0 index index (omega arith)))
      (more_replicas (map (first_standing s shard) (range_with_len 0 index)) (first_standing s shard index ∷ []) old now new
      first next)

  -- the replicas of one more shard
  pub next_shard : (shard : ℕ) (now new : List (StandingReplica V S v g)) → AreReplicas s now (first_shards s shard) →
      AddsReplicas s (shard_standing s shard) now new → AreReplicas s new (first_shards s (shard + 1))
  next_shard shard now new h next =
      subst (AreReplicas s new) (sym (flat_more (shard_standing s) shard)) (next (first_shards s shard) h)

  -- one more client
  pub next_caller : (place : ℕ) (nodes new : List (StandingClient V S v g)) (node : StandingClient V S v g) →
      new ≡ nodes ++ node ∷ [] → AreCallers s nodes (first_clients s place) →
      HoldsAs s (place + 1) node (first_client s (place + 1)) → AreCallers s new (first_clients s (place + 1))
  next_caller place nodes new node same h is =
      let count : length nodes ≡ place =
      pairs_length (IsCaller s) nodes (first_clients s place) h ∙ length-map-range_with_len (first_client s) 1 place in
      let one : place + 1 ≡ suc (length nodes) = omega (arith, count) in
      subst (λ l. AreCallers s l (first_clients s (place + 1))) (sym same)
      (subst (AreCallers s (nodes ++ node ∷ []))
      (sym (map-range_with_len_more (first_client s) 1 place (place + 1) (omega arith)))
      (pairs_more (IsCaller s) nodes (first_clients s place) node (first_client s (place + 1)) h
      (subst (λ n. HoldsAs s n node (first_client s (place + 1))) one is)))

-- ---- pens

module _ {S : Type 0} (g : signers.Ghosts S) (s : Setup) (faulty : List Party) where
  pub no_pens : (pens : Pens S) → AddsPens g s faulty [] pens pens
  no_pens pens before h = subst (λ l. ArePensOf g s faulty l pens) (sym (append-nil before)) h

  pub more_pens : (more last : List Party) (old now new : Pens S) → AddsPens g s faulty more old now →
      AddsPens g s faulty last now new → AddsPens g s faulty (more ++ last) old new
  more_pens more last old now new first next before h =
      subst (λ l. ArePensOf g s faulty l new) (append_assoc before more last) (next (before ++ more) (first before h))

  -- one that isn't faulty gets none
  pub one_correct : (p : Party) (pens : Pens S) → is_among faulty p ≡ false → AddsPens g s faulty (p ∷ []) pens pens
  one_correct p pens out before h =
      subst (λ l. LieFor g pens s l [])
      (sym (filter-append (is_among faulty) before (p ∷ [])
      ∙ ap (λ b. filter (is_among faulty) before ++ cond b (p ∷ []) []) out
      ∙ append-nil (filter (is_among faulty) before))) h

  pub one_faulty : (p : Party) (old new : Pens S) → is_among faulty p ≡ true →
      ((parties : List Party) → LieFor g old s parties [] → LieFor g new s (parties ++ p ∷ []) []) →
      AddsPens g s faulty (p ∷ []) old new
  one_faulty p old new among next before h =
      subst (λ l. LieFor g new s l [])
      (sym (filter-append (is_among faulty) before (p ∷ [])
      ∙ ap (λ b. filter (is_among faulty) before ++ cond b (p ∷ []) []) among))
      (next (filter (is_among faulty) before) h)

  -- one more of the parties that are numbered so
  pub next_pen : (party : ℕ → Party) (first count last : ℕ) (old now new : Pens S) → first + count ≡ last →
      AddsPens g s faulty (map party (range_with_len first count)) old now →
      AddsPens g s faulty (party last ∷ []) now new →
      AddsPens g s faulty (map party (range_with_len first (count + 1))) old new
  next_pen party first count last old now new same before next =
      subst (λ l. AddsPens g s faulty l old new) (sym (map-range_with_len_more party first count last same))
      (more_pens (map party (range_with_len first count)) (party last ∷ []) old now new before next)

  -- those of one more shard
  pub next_shard_pens : (c : Setting) (shard : ℕ) (old now new : Pens S) →
      AddsPens g s faulty (parties_of_shards c shard) old now → AddsPens g s faulty (parties_of_shard c shard) now new →
      AddsPens g s faulty (parties_of_shards c (shard + 1)) old new
  next_shard_pens c shard old now new before next =
      subst (λ l. AddsPens g s faulty l old new) (sym (flat_more (parties_of_shard c) shard))
      (more_pens (parties_of_shards c shard) (parties_of_shard c shard) old now new before next)

  -- the lists agree on who is among them
  lie_same : (parties others : List Party) (pens : Pens S) → ((p : Party) → is_among parties p ≡ is_among others p) →
      LieFor g pens s parties [] → LieFor g pens s others []
  lie_same parties others pens same h =
      record { own = λ p among. h.own p (same p ∙ among); others = λ p out. h.others p (same p ∙ out) }

-- who is of the cluster is asked
numbered : (f : ℕ → Party) (first count place last : ℕ) (p : Party) → place < count → first + place ≡ last → f last ≡ p →
    is_among (map f (range_with_len first count)) p ≡ true
numbered f first count place last p h at same =
    list_any_at (same_party p) (map f (range_with_len first count)) place p
    (subst (λ n. place < n) (sym (length-map-range_with_len f first count)) h)
    (ap (same_party p) (get_or-map-range_with_len f first count place last p h at ∙ same) ∙ party_self p)

or_false_true : (a b : Bool) → b ≡ true → (a || b) ≡ true
or_false_true true b e = refl
or_false_true false b e = e

pub members_are_parties : (c : Setting) (p : Party) → IsMember c p → is_among (parties_of c) p ≡ true
members_are_parties c (Replica shard index) m =
    let here : get_or (range_with_len 0 c.shards) shard 0 ≡ shard =
    get_or-range_with_len 0 c.shards shard 0 m.0 ∙ (omega arith) in
    list_any-append (same_party (Replica shard index)) (parties_of_shards c c.shards) (client_parties 16)
    ∙ ap (λ b. b || is_among (client_parties 16) (Replica shard index))
    (any_flat (same_party (Replica shard index)) (parties_of_shard c) (range_with_len 0 c.shards) shard
    (subst (λ n. shard < n) (sym (length-range_with_len 0 c.shards)) m.0)
    (ap (λ n. is_among (parties_of_shard c n) (Replica shard index)) here
    ∙ numbered (Replica shard) 0 (replicas c.f) index index (Replica shard index) m.1 (omega arith) refl))
members_are_parties c (Client number) m =
    let some = m.someone in
    let few = m.few in
    list_any-append (same_party (Client number)) (parties_of_shards c c.shards) (client_parties 16)
    ∙ or_false_true (is_among (parties_of_shards c c.shards) (Client number)) (is_among (client_parties 16) (Client number))
    (numbered Client 1 16 (number - 1) number (Client number) (omega (arith, some, few)) (omega (arith, some)) refl)

same_among : (faulty : List Party) (p q : Party) → same_party p q ≡ true → is_among faulty q ≡ is_among faulty p
same_among faulty p q e = ap (is_among faulty) (sym (party_same p q e))

-- of all parties the faulty ones are asked
pub faulty_are_asked : (c : Setting) (faulty : List Party) → AreMembers c faulty → (p : Party) →
    is_among (filter (is_among faulty) (parties_of c)) p ≡ is_among faulty p
faulty_are_asked c faulty members p =
    any-filter_same (same_party p) (is_among faulty) (is_among faulty p) (same_among faulty p) (parties_of c)
    ∙ by (is_among faulty p) refl
  where
    by : (b : Bool) → is_among faulty p ≡ b → (b && is_among (parties_of c) p) ≡ b
    by true e = members_are_parties c p (members p e)
    by false e = refl

-- the pens of the faulty ones of all parties are those of the run
pub lies_as : {S : Type 0} (g : signers.Ghosts S) (s : Setup) (c : Setting) (faulty : List Party) (pens : Pens S) →
    AreMembers c faulty → s.faulty ≡ faulty → ArePensOf g s faulty (parties_of c) pens → LiesAs g pens s []
lies_as g s c faulty pens members same h =
    subst (λ l. LieFor g pens s l []) (sym same)
    (lie_same g s faulty (filter (is_among faulty) (parties_of c)) faulty pens (faulty_are_asked c faulty members) h)
