-- A replica is handed a frame.
use Rattle.std.proofs.Common.{◌≡◌, ◌∙◌, ◌<◌, ℕ, ◌+◌, ◌==◌, Bool, true, false, cond, List, [], ◌∷◌, length, refl, sym, ap}
use Rattle.std.proofs.Common.{subst, add-one}
use Rattle.std.proofs.lemmas.Bool.{eqb-true}
use Rattle.std.proofs.lemmas.Option.{same_Some}
use Rattle.std.specs.Prelude.{◌&&◌, Option, Some, None, Result, Ok, Err, find, option_map, position, slice_get, slice_index_or, slice_set}
use Rattle.basil_types.proofs.Walks.{position-cons}
use Rattle.basil_types.specs.declared.party.Party.{Party}
use Rattle.basil_types.specs.declared.party.Party.TheVariants.{Replica}
use Rattle.keyring.specs.declared.verifier.Verifier as verifiers
use Rattle.keyring.specs.declared.signer.Signer as signers
use Rattle.replica_core.specs.declared.refusal.Refusal.{Refusal}
use Rattle.replica_core.specs.Answers.{answer}
use Rattle.replica_core.specs.Replicas.{Done, ReplicaSelf}
use Rattle.cluster_nodes.specs.declared.handled.Handled.{Handled}
use Rattle.cluster_nodes.specs.declared.handled.Handled.TheVariants as did
use Rattle.cluster_nodes.specs.declared.standing.StandingReplica.{StandingReplica}
use Rattle.cluster_nodes.specs.Handling as nodes
use Rattle.cluster_nodes.specs.Standings.{StandsAs, at_place}
use Rattle.cluster_run.specs.Events.{ticks}
use Rattle.cluster_run.specs.Parts.{replica_did, replica_handles, replica_self}
use Rattle.cluster_run.specs.States.{Setup, Standing, State, is_at, put_standing, standing}
use Rattle.cluster_run.specs.Telling.{moment_at}
use Rattle.cluster_world.specs.declared.engine.Engine.{Engine}
use Rattle.cluster_world.specs.Pairs.{Pairs}
use Rattle.cluster_world.specs.Sending.{IsWithin, room_of}
use Rattle.cluster_world.specs.Shows.{IsReplica, Shows, Stands}
use Rattle.cluster_world.specs.Taking.{Handles, Sends, Takes, took_of}
use Rattle.cluster_world.proofs.PairLaws.{got, pairs_at, pairs_found, pairs_set, set_own, within}

-- ---- replicas by their places

-- what passes first
record Found {A : Type 0} (test : A → Bool) (xs : List A) (place : ℕ) : Type 0 where
  pub item : A
  pub stands : slice_get xs place ≡ Some item
  pub is : find test xs ≡ Some item
  pub passes : test item ≡ true

module _ {A : Type 0} (test : A → Bool) (x : A) (xs : List A) (place : ℕ) (e : position test (x ∷ xs) ≡ Some place)
    (later : (k : ℕ) → position test xs ≡ Some k → Found test xs k) where
  at_once : test x ≡ true → Found test (x ∷ xs) place
  at_once t =
      let first : Some 0 ≡ Some place =
      sym (ap (λ b. cond b (Some 0) (option_map (λ k. k + 1) (position test xs))) t) ∙ sym (position-cons test x xs) ∙ e in
      record {
        item = x;
        stands = subst (λ n. slice_get (x ∷ xs) n ≡ Some x) (same_Some 0 place first) refl;
        is = ap (λ b. cond b (Some x) (find test xs)) t;
        passes = t;
      }

  behind : test x ≡ false → (o : Option ℕ) → position test xs ≡ o → option_map (λ k. k + 1) o ≡ Some place → Found test (x ∷ xs) place
  behind t None q m = absurd cc
  behind t (Some k) q m =
      let h = later k q in
      record {
        item = h.item;
        stands = subst (λ n. slice_get (x ∷ xs) n ≡ Some h.item) (sym (add-one k) ∙ same_Some (k + 1) place m) h.stands;
        is = ap (λ b. cond b (Some x) (find test xs)) t ∙ h.is;
        passes = h.passes;
      }

  found_by : (b : Bool) → test x ≡ b → Found test (x ∷ xs) place
  found_by true t = at_once t
  found_by false t =
      behind t (position test xs) refl
      (sym (ap (λ b. cond b (Some 0) (option_map (λ k. k + 1) (position test xs))) t) ∙ sym (position-cons test x xs) ∙ e)

found_here : {A : Type 0} (test : A → Bool) (xs : List A) (place : ℕ) → position test xs ≡ Some place → Found test xs place
found_here test [] place e = absurd cc
found_here test (x ∷ xs) place e = found_by test x xs place e (found_here test xs) (test x) refl

pub within_found : {A : Type 0} (test : A → Bool) (xs : List A) (place : ℕ) → position test xs ≡ Some place → place < length xs
within_found test xs place e = within xs place (found_here test xs place e).item (found_here test xs place e).stands

found_nowhere : {A : Type 0} (test : A → Bool) (xs : List A) → position test xs ≡ None → find test xs ≡ None
found_nowhere test [] e = refl
found_nowhere test (x ∷ xs) e = by (found_nowhere test xs) (test x) (position test xs) refl (sym (position-cons test x xs) ∙ e)
  where
    by : (position test xs ≡ None → find test xs ≡ None) → (b : Bool) (o : Option ℕ) → position test xs ≡ o →
        cond b (Some 0) (option_map (λ k. k + 1) o) ≡ None → cond b (Some x) (find test xs) ≡ None
    by later true o q m = absurd cc
    by later false None q m = later q
    by later false (Some k) q m = absurd cc

-- ---- replicas by their places

-- a replica is put where it stands
put_here : (x : Standing) (xs : List Standing) (place : ℕ) → position (is_at x.shard x.index) xs ≡ Some place →
    put_standing x xs ≡ slice_set xs place x
put_here x [] place e = absurd cc
put_here x (y ∷ ys) place e =
    by (put_here x ys) (is_at x.shard x.index y) (position (is_at x.shard x.index) ys) refl place
    (sym (position-cons (is_at x.shard x.index) y ys) ∙ e)
  where
    by : ((k : ℕ) → position (is_at x.shard x.index) ys ≡ Some k → put_standing x ys ≡ slice_set ys k x) → (b : Bool) (o : Option ℕ) →
        position (is_at x.shard x.index) ys ≡ o → (place : ℕ) → cond b (Some 0) (option_map (λ k. k + 1) o) ≡ Some place →
        cond b (x ∷ ys) (y ∷ put_standing x ys) ≡ slice_set (y ∷ ys) place x
    by later true o q place m = subst (λ n. x ∷ ys ≡ slice_set (y ∷ ys) n x) (same_Some 0 place m) refl
    by later false None q place m = absurd cc
    by later false (Some k) q place m =
        subst (λ n. y ∷ put_standing x ys ≡ slice_set (y ∷ ys) n x) (sym (add-one k) ∙ same_Some (k + 1) place m)
        (ap (λ l. y ∷ l) (later k q))

module _ {V S : Type 0} (v : verifiers.Ghosts V) (g : signers.Ghosts S) (s : Setup) where
  -- a node's place is that of the replica for which it stands
  place_same : (shard index : ℕ) (node : StandingReplica V S v g) (x : Standing) → StandsAs s node x →
      at_place shard index node ≡ is_at shard index x
  place_same shard index node x h =
      ap (λ (n : ℕ). (n == shard) && (node.index == index)) (sym node.home ∙ ap (λ (me : ReplicaSelf). me.home.shard) h.own)
      ∙ ap (λ (n : ℕ). (x.shard == shard) && (n == index)) (sym node.own ∙ ap (λ (me : ReplicaSelf). me.index) h.own)

  -- where a node is found, the replica for which it stands is found
  pub record IsThere (core : Engine V S v g) (st : State) (shard index place : ℕ) : Type 0 where
    pub x : Standing
    pub stands : slice_get st.replicas place ≡ Some x
    pub is : standing st shard index ≡ Some x
    pub at : is_at shard index x ≡ true
    pub found : position (is_at shard index) st.replicas ≡ Some place

  position_same : (core : Engine V S v g) (st : State) (shard index : ℕ) → Stands s core st →
      position (at_place shard index) core.replicas.items ≡ position (is_at shard index) st.replicas
  position_same core st shard index h =
      pairs_found (IsReplica s) (at_place shard index) (is_at shard index) core.replicas.items st.replicas
      (λ place node x. place_same shard index node x) h.replicas

  pub replica_there : (core : Engine V S v g) (st : State) (shard index place : ℕ) → Stands s core st →
      position (at_place shard index) core.replicas.items ≡ Some place → IsThere core st shard index place
  replica_there core st shard index place h e =
      let q = sym (position_same core st shard index h) ∙ e in
      let f = found_here (is_at shard index) st.replicas place q in
      record { x = f.item; stands = f.stands; is = f.is; at = f.passes; found = q }

  -- the replica beside a node
  pub replica_at : (core : Engine V S v g) (st : State) (shard index place : ℕ) (node : StandingReplica V S v g) → Stands s core st →
      slice_get core.replicas.items place ≡ Some node → (there : IsThere core st shard index place) → StandsAs s node there.x
  replica_at core st shard index place node h at there =
      let p = pairs_at (IsReplica s) core.replicas.items st.replicas place node h.replicas at in
      subst (StandsAs s node) (same_Some p.0 there.x (sym p.1 ∙ there.stands)) p.2

  pub replica_nowhere : (core : Engine V S v g) (st : State) (shard index : ℕ) → Stands s core st →
      position (at_place shard index) core.replicas.items ≡ None → standing st shard index ≡ None
  replica_nowhere core st shard index h e =
      found_nowhere (is_at shard index) st.replicas (sym (position_same core st shard index h) ∙ e)

-- a replica's clock is told
module _ {V S : Type 0} (v : verifiers.Ghosts V) (g : signers.Ghosts S) (s : Setup) (core : Engine V S v g) (st : State)
    (shard index : ℕ) (h : Stands s core st) where
  pub moment_told : (place : ℕ) (node : StandingReplica V S v g) (moment : ℕ) → slice_get core.replicas.items place ≡ Some node →
      position (at_place shard index) core.replicas.items ≡ Some place → ((x : Standing) → StandsAs s node x → moment ≡ x.moment) →
      Some moment ≡ moment_at st shard index
  moment_told place node moment at found tells =
      let there = replica_there v g s core st shard index place h found in
      ap Some (tells there.x (replica_at v g s core st shard index place node h at there))
      ∙ sym (ap (option_map (λ (x : Standing). x.moment)) there.is)

  pub no_moment : position (at_place shard index) core.replicas.items ≡ None → None ≡ moment_at st shard index
  no_moment nowhere =
      sym (ap (option_map (λ (x : Standing). x.moment)) (replica_nowhere v g s core st shard index h nowhere))

both : (a b : Bool) → (a && b) ≡ true → (a ≡ true) × (b ≡ true)
both true b h = (refl, h)
both false b h = absurd cc

-- where a replica is
record IsHere (sh ix : ℕ) (x : Standing) : Type 0 where
  pub shard : x.shard ≡ sh
  pub index : x.index ≡ ix

is_here : (shard index : ℕ) (x : Standing) → is_at shard index x ≡ true → IsHere shard index x
is_here sh ix x h =
    let b = both (x.shard == sh) (x.index == ix) h in
    record { shard = eqb-true x.shard sh b.0; index = eqb-true x.index ix b.1 }

module _ {V S : Type 0} (v : verifiers.Ghosts V) (g : signers.Ghosts S) (s : Setup) (old new : Engine V S v g) (st : State)
    (node : StandingReplica V S v g) (place : ℕ) (own : new ≡ record old { replicas = new.replicas })
    (set : new.replicas.items ≡ slice_set old.replicas.items place node) (h : Stands s old st) where
  -- another node stands for another replica at this place
  pub stands_replica : (x : Standing) → StandsAs s node x → Stands s new (record st { replicas = slice_set st.replicas place x })
  stands_replica x one =
      subst (λ c. Stands s c (record st { replicas = slice_set st.replicas place x })) (sym own)
      (record {
        members = h.members;
        earlier = h.earlier;
        sight = h.sight;
        pens = h.pens;
        replicas = subst (λ l. Pairs (IsReplica s) l (slice_set st.replicas place x)) (sym set)
            (pairs_set (IsReplica s) old.replicas.items st.replicas place node x h.replicas one);
        clients = h.clients;
        begun = h.begun;
        limits = h.limits;
        refused = h.refused;
      })

  module _ (shard index : ℕ) (there : IsThere v g s old st shard index place) where
    here : IsHere shard index there.x
    here = is_here shard index there.x there.at

    -- it is put there
    pub stands_put : (x : Standing) → x.shard ≡ there.x.shard → x.index ≡ there.x.index → StandsAs s node x →
        Stands s new (record st { replicas = put_standing x st.replicas })
    stands_put x sh ix one =
        subst (λ l. Stands s new (record st { replicas = l }))
        (sym (put_here x st.replicas place
        (ap (λ n. position (is_at n x.index) st.replicas) (sh ∙ here.shard)
        ∙ ap (λ n. position (is_at shard n) st.replicas) (ix ∙ here.index) ∙ there.found)))
        (stands_replica x one)

    -- the node stands as before
    pub stands_same : StandsAs s node there.x → Stands s new st
    stands_same one =
        subst (λ l. Stands s new (record st { replicas = l })) (set_own st.replicas place there.x there.stands)
        (stands_replica there.x one)

    module _ (from : Party) (frame : List ℕ) where
      abbrev handles : Handles
      handles number now = replica_handles s number from frame (standing st shard index) now

      abbrev answered : Result Done Refusal
      answered = answer (replica_self s there.x.shard there.x.index) there.x.moment from there.x.book frame

      handled_by : (number : ℕ) (r : Result Done Refusal) → answered ≡ r → handles number st ≡ replica_did s number there.x r st
      handled_by number r e =
          ap (λ o. replica_handles s number from frame o st) there.is ∙ ap (λ a. replica_did s number there.x a st) e

      abbrev sends : (d : Done) → answered ≡ Ok d → Sends s handles st
      sends d e =
          record {
            party = Replica there.x.shard there.x.index;
            said = d.signed;
            mail = d.sent;
            after = record st { replicas = put_standing (record there.x { book = d.book }) st.replicas };
            same = refl;
            watched = refl;
            certified = refl;
            is = λ number. handled_by number (Ok d) e;
          }

      -- the frame is taken as the node took it
      pub replica_taken : IsWithin old.pool → (handled : Handled Refusal) →
          nodes.Takes s there.x (room_of old.pool) answered (Ok handled) node →
          Takes s st old.pool handles new (took_of old.pool (Replica shard index) handled)
      replica_taken limits (did.Refused refusal) t = (λ number. handled_by number (Err refusal) t.0, stands_same t.1)
      replica_taken limits did.Full t = (refl, limits, sends t.0 t.1, t.2, stands_same t.3)
      replica_taken limits (did.Sent out) t = (
        sends t.0 t.1,
        ap (λ n. Replica n index) (sym here.shard) ∙ ap (Replica there.x.shard) (sym here.index),
        t.2,
        t.3,
        stands_put (record there.x { book = t.0.book }) refl refl t.4,
      )

-- ---- clocks

module _ {V S : Type 0} (v : verifiers.Ghosts V) (g : signers.Ghosts S) (s : Setup) (old new : Engine V S v g) (st : State)
    (shard index moment : ℕ) where
  pub clock_set : (before node : StandingReplica V S v g) (place : ℕ) → new ≡ record old { replicas = new.replicas } →
      new.replicas.items ≡ slice_set old.replicas.items place node → place < length old.replicas.items →
      before ≡ slice_index_or old.replicas.items place before → position (at_place shard index) old.replicas.items ≡ Some place →
      ((x : Standing) → StandsAs s before x → StandsAs s node (record x { moment = moment })) → Shows s old st →
      Shows s new (ticks moment (standing st shard index) st)
  clock_set before node place own set within value found sets h =
      let there = replica_there v g s old st shard index place h.stands found in
      let one = replica_at v g s old st shard index place before h.stands (got old.replicas.items place before within value) there in
      subst (λ o. Shows s new (ticks moment o st)) (sym there.is)
      (record {
        stands = stands_put v g s old new st node place own set h.stands shard index there (record there.x { moment = moment }) refl refl
            (sets there.x one);
        posts = ap (λ (c : Engine V S v g). c.pool.posts) own ∙ h.posts;
        seen = h.seen;
      })

  pub no_clock : position (at_place shard index) old.replicas.items ≡ None → Shows s old st →
      Shows s old (ticks moment (standing st shard index) st)
  no_clock nowhere h =
      subst (λ o. Shows s old (ticks moment o st)) (sym (replica_nowhere v g s old st shard index h.stands nowhere)) h
