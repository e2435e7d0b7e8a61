-- What is added to a begun transaction is what an event does.
use Rattle.std.proofs.Common.{◌≡◌, ℕ, Bool, true, false, cond, Option, Some, None, refl, ap, ◌∙◌}
use Rattle.std.specs.Prelude.{◌&&◌, ◌==◌, is_some, length, nat_lt, option_map, Ok, Err}
use Rattle.std.specs.Option.{option_map_or}
use Rattle.basil_types.specs.Limits.{most_keys}
use Rattle.basil_types.specs.Built.{key_fits, or_else, write_fits}
use Rattle.client_steps.specs.declared.fault.CallFault.TheVariants.{NotOpen, TooMany, SizeOut, Empty}
use Rattle.client_core.specs.Calls.{call_write}
use Rattle.client_core.specs.Slots.{put_write}
use Rattle.cluster_run.specs.declared.fault.WorldFault.{WorldFault}
use Rattle.cluster_run.specs.declared.fault.WorldFault.TheVariants as fault
use Rattle.cluster_run.specs.Events.{by_client, put_claim, set_begun, unless_formed}
use Rattle.cluster_run.specs.States.{BegunValue, State}
use Rattle.run_begun.specs.Adding.{after_adding, claim_of, exhausted, ClaimsAreAdded, FormingIsRefused, WritesAreAdded}

-- a choice, and what it does to a run
chosen : (tx : ℕ) (st : State) (formed fits : Bool) (after : BegunValue) →
    cond formed (Err (fault.Call NotOpen)) (cond fits (Ok (set_begun tx after st)) (Err (fault.Call SizeOut)))
    ≡ after_adding tx st (cond formed (Err NotOpen) (cond fits (Ok after) (Err SizeOut)))
chosen tx st true fits after = refl
chosen tx st false true after = refl
chosen tx st false false after = refl

pub writes : WritesAreAdded
writes = λ s tx w b st none.
    let after : BegunValue = record b { writes = put_write w b.writes } in
    ap (λ slot. option_map_or (λ place. by_client s b.client (λ c. call_write c place w) st) slot
    (unless_formed b (write_fits w) (Ok (set_begun tx after st)))) none
    ∙ chosen tx st (is_some b.formed) (write_fits w) after

pub claims : ClaimsAreAdded
claims = λ tx key v b st.
    chosen tx st (is_some b.formed) (key_fits key) (record b { reads = put_claim (claim_of key v) b.reads })

-- the first fault, or what comes after all
first : (formed many more none : Bool) (last : Option WorldFault) →
    cond formed (Some (fault.Call NotOpen)) (cond many (Some (fault.Call TooMany))
    (cond more (Some (fault.Call TooMany)) (cond none (Some (fault.Call Empty)) last)))
    ≡ or_else (option_map fault.Call (cond formed (Some NotOpen) (cond many (Some TooMany)
    (cond more (Some TooMany) (cond none (Some Empty) None))))) last
first true many more none last = refl
first false true more none last = refl
first false false true none last = refl
first false false false true last = refl
first false false false false last = refl

pub forming : FormingIsRefused
forming = λ s b st.
    first (is_some b.formed) (nat_lt most_keys (length b.reads)) (nat_lt most_keys (length b.writes))
    ((length b.reads == 0) && (length b.writes == 0)) (exhausted s b st)
