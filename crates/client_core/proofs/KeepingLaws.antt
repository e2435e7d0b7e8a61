-- What is kept of a read tells what the read tells.
use Rattle.std.proofs.Common.{◌≡◌, ◌∙◌, ℕ, Bool, true, false, cond, List, [], ◌∷◌, ◌++◌, refl, sym, ap, length, suc}
use Rattle.std.specs.Prelude.{map, find, not, Option, Some, None, option_map, option_and_then, option_to_list, nat_le, if◌then◌else◌}
use Rattle.std.specs.List.{flat_map}
use Rattle.basil_types.specs.Built.{or_else}
use Rattle.basil_types.specs.Setting.{Setting}
use Rattle.basil_types.specs.Transaction.{TransactionValue, version_of}
use Rattle.basil_types.specs.Version.{same_version, genesis}
use Rattle.basil_types.specs.declared.version.Version.{Version}
use Rattle.basil_types.specs.declared.transaction.parts.WritePart.{WritePart}
use Rattle.frame_views.specs.Values.{ReadReplyValue, CommittedValue}
use Rattle.client_core.specs.declared.replies.Carried.{Carried}
use Rattle.client_core.specs.Clients.{AskedRead}
use Rattle.client_core.specs.Kept.{carried_of, carried_in, reply_kept, kept_read}
use Rattle.client_core.specs.Keeping.{state_kept}
use Rattle.client_core.specs.Slots.{of_version, carrier, write_of, read_state, is_chosen, choice_of, found_by, Pending, Absent}

-- ---- the write of the chosen version

abbrev is_of_version : Version → Carried → Bool
is_of_version v c = same_version c.version v

abbrev write_in : Option Carried → Option WritePart
write_in c = option_and_then (λ (x : Carried). x.write) c

one : (key : List ℕ) (v : Version) (t : TransactionValue) (later : Option TransactionValue) (rest : List Carried) →
    option_and_then (write_of key) later ≡ write_in (find (is_of_version v) rest) →
    (b : Bool) →
    option_and_then (write_of key) (or_else (cond b (Some t) None) later)
    ≡ write_in (cond b (Some (carried_of key t)) (find (is_of_version v) rest))
one key v t later rest h true = refl
one key v t later rest h false = h

two : (key : List ℕ) (v : Version) (p : Option TransactionValue) (later : Option TransactionValue) (rest : List Carried) →
    option_and_then (write_of key) later ≡ write_in (find (is_of_version v) rest) →
    option_and_then (write_of key) (or_else (of_version v p) later)
    ≡ write_in (find (is_of_version v) (option_to_list (option_map (carried_of key) p) ++ rest))
two key v None later rest h = h
two key v (Some t) later rest h = one key v t later rest h (same_version (version_of t) v)

three : (key : List ℕ) (v : Version) (t : TransactionValue) (p : Option TransactionValue) (later : Option TransactionValue)
    (rest : List Carried) →
    option_and_then (write_of key) later ≡ write_in (find (is_of_version v) rest) →
    (b : Bool) →
    option_and_then (write_of key) (or_else (or_else (cond b (Some t) None) (of_version v p)) later)
    ≡ write_in (cond b (Some (carried_of key t)) (find (is_of_version v) (option_to_list (option_map (carried_of key) p) ++ rest)))
three key v t p later rest h true = refl
three key v t p later rest h false = two key v p later rest h

both : (key : List ℕ) (v : Version) (c : Option CommittedValue) (p : Option TransactionValue)
    (later : Option TransactionValue) (rest : List Carried) →
    option_and_then (write_of key) later ≡ write_in (find (is_of_version v) rest) →
    option_and_then (write_of key)
    (or_else (or_else (of_version v (option_map (λ (q : CommittedValue). q.transaction) c)) (of_version v p)) later)
    ≡ write_in (find (is_of_version v)
    ((option_to_list (option_map (λ (q : CommittedValue). carried_of key q.transaction) c)
    ++ option_to_list (option_map (carried_of key) p)) ++ rest))
both key v None p later rest h = two key v p later rest h
both key v (Some q) p later rest h = three key v q.transaction p later rest h (same_version (version_of q.transaction) v)

pub carrier_law : (key : List ℕ) (v : Version) (replies : List ReadReplyValue) →
    option_and_then (write_of key) (carrier v replies)
    ≡ write_in (find (is_of_version v) (flat_map (λ m. carried_in (reply_kept key m)) replies))
carrier_law key v [] = refl
carrier_law key v (r ∷ rs) =
    both key v r.committed r.prepared (carrier v rs) (flat_map (λ m. carried_in (reply_kept key m)) rs) (carrier_law key v rs)

-- ---- what it tells

count_law : {A B : Type 0} (f : A → B) (xs : List A) → length (map f xs) ≡ length xs
count_law f [] = refl
count_law f (x ∷ xs) = ap suc (count_law f xs)

pub chosen_law : (c : Setting) (r : AskedRead) → nat_le c.reads (length (kept_read r).versions) ≡ is_chosen c r
chosen_law c r = ap (nat_le c.reads) (count_law _ r.replies)

pub state_law : (c : Setting) (r : AskedRead) → state_kept c (kept_read r) ≡ read_state c r
state_law c r =
    ap (λ b. if not b then Pending else if same_version (choice_of c r).version genesis then Absent
    else found_by (choice_of c r).version
    (option_and_then (λ (x : Carried). x.write) (find (is_of_version (choice_of c r).version) (kept_read r).carried)))
    (chosen_law c r)
    ∙ ap (λ w. if not (is_chosen c r) then Pending else if same_version (choice_of c r).version genesis then Absent
    else found_by (choice_of c r).version w)
    (sym (carrier_law r.key (choice_of c r).version r.replies))
