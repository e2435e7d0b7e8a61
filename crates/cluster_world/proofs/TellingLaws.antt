-- What a world tells of its run.
use Rattle.std.proofs.Common.{◌≡◌, ◌∙◌, ◌<◌, ℕ, suc, List, length, sym, ap, subst}
use Rattle.std.specs.Option.{option_map_or}
use Rattle.std.specs.Prelude.{Some, None, Result, Ok, Err, IfOk, slice_get, slice_index_or}
use Rattle.client_core.specs.Clients.{ClientValue}
use Rattle.client_core.specs.Slots.{NotRead, ReadStateValue}
use Rattle.keyring.specs.declared.verifier.Verifier as verifiers
use Rattle.keyring.specs.declared.signer.Signer as signers
use Rattle.cluster_nodes.specs.declared.calling.StandingClient.{StandingClient}
use Rattle.cluster_nodes.specs.Standings.{HoldsAs}
use Rattle.cluster_run.specs.States.{BegunValue, Setup, State, client_at}
use Rattle.cluster_run.specs.Telling.{value_at, value_by, value_in_slot, value_of}
use Rattle.cluster_world.specs.declared.engine.Engine.{Engine}
use Rattle.cluster_world.specs.Shows.{IsCaller, Shows}
use Rattle.cluster_world.proofs.AskingLaws.{caller_at}
use Rattle.cluster_world.proofs.PairLaws.{got, here, pairs_length}

pub if_ok_map : {A E : Type 0} (r : Result A E) (P Q : A → Type 0) → ((a : A) → P a → Q a) → IfOk r P → IfOk r Q
if_ok_map (Ok a) P Q f h = f a h
if_ok_map (Err e) P Q f h = h

-- a begun transaction that its client holds in a slot
module _ {V S : Type 0} (v : verifiers.Ghosts V) (g : signers.Ghosts S) (s : Setup) (core : Engine V S v g) (st : State) (tx : ℕ)
    (key : List ℕ) (b : BegunValue) (slot number : ℕ) (found : slice_get core.begun.items tx ≡ Some b) (holds : b.slot ≡ Some slot)
    (client : number ≡ b.client) (h : Shows s core st) where
  in_slot : value_at s st tx key ≡ value_of s st key number slot
  in_slot =
      ap (λ o. option_map_or (value_by s st key) o NotRead) (ap (λ l. slice_get l tx) (sym h.stands.begun) ∙ found)
      ∙ ap (λ o. option_map_or (value_of s st key b.client) o NotRead) holds
      ∙ ap (λ n. value_of s st key n slot) (sym client)

  pub value_none : client_at st number ≡ None → NotRead ≡ value_at s st tx key
  value_none nobody = sym (in_slot ∙ ap (λ o. option_map_or (value_in_slot s key slot) o NotRead) nobody)

  pub value_told : (place : ℕ) (node : StandingClient V S v g) (told : ReadStateValue) → suc place ≡ number →
      place < length core.clients.items → client_at st number ≡ slice_get st.clients place →
      node ≡ slice_index_or core.clients.items place node →
      ((n : ℕ) (c : ClientValue) → HoldsAs s n node c → told ≡ value_in_slot s key slot c) → told ≡ value_at s st tx key
  value_told place node told e within somebody value tells =
      let c = here st.clients place
      (subst (λ n. place < n) (pairs_length (IsCaller s) core.clients.items st.clients h.stands.clients) within) in
      tells (suc place) c.0 (caller_at v g s core st place node c.0 h.stands (got core.clients.items place node within value) c.1)
      ∙ sym (in_slot ∙ ap (λ o. option_map_or (value_in_slot s key slot) o NotRead) (somebody ∙ c.1))
