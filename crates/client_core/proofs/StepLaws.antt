-- What a read or a write does, by what is told of the transaction.
use Rattle.std.proofs.Common.{◌≡◌, ◌∙◌, ℕ, Bool, true, false, suc, List, [], ◌∷◌, length, map, refl, sym, ap, cond}
use Rattle.std.specs.Prelude.{Option, Some, None, option_map, is_some, find, nat_le, not, ◌&&◌, ◌||◌, ◌==◌, Ok, Err}
use Rattle.std.specs.Str.{bytes_eq}
use Rattle.basil_types.specs.Built.{or_else, key_fits, write_fits}
use Rattle.basil_types.specs.declared.transaction.parts.WritePart.{WritePart}
use Rattle.client_core.specs.declared.asking.Asking.{Asking}
use Rattle.client_steps.specs.declared.fault.CallFault.{CallFault}
use Rattle.client_steps.specs.declared.fault.CallFault.TheVariants.{NotOpen, TooMany, SizeOut, ReadPending, Empty, Exhausted}
use Rattle.client_core.specs.declared.held.Slot.{Slot}
use Rattle.client_core.specs.Calls.{read_at, read_done, is_written, write_fault}
use Rattle.client_core.specs.Clients.{AskedRead, ClientSelf, ClientValue, ClientDone, quiet}
use Rattle.client_core.specs.Kept.{KeptRead, kept_read, shown_read}
use Rattle.client_core.specs.Showing.{KeepsReads, ShowsFormed, slot_value}
use Rattle.client_core.specs.Slots.{asked, is_of, is_chosen}
use Rattle.client_core.specs.Steps.{by_step}
use Rattle.client_steps.specs.Steps.{step_of, fault_of}
use Rattle.basil_types.specs.Setting.{Setting}
use Rattle.client_core.proofs.KeepingLaws.{chosen_law}
use Rattle.client_core.proofs.ShowingLaws.{formed_same, asked_same}
use Rattle.client_recover.specs.Taken.{PursuitValue}
use Rattle.node_steps.specs.Refusing.{when, unless}

step_law : (formed known full fits : Bool) (q a : ClientDone)
    → cond formed (Err NotOpen) (cond known (Ok q) (unless (or_else (when full TooMany) (when (not fits) SizeOut)) a))
    ≡ by_step (step_of formed known full fits) q a
step_law true known full fits q a = refl
step_law false true full fits q a = refl
step_law false false true fits q a = refl
step_law false false false true q a = refl
step_law false false false false q a = refl

pub some_map : {A B : Type 0} (f : A → B) (o : Option A) → is_some o ≡ is_some (option_map f o)
some_map f None = refl
some_map f (Some a) = refl

map_count : {A B : Type 0} (f : A → B) (xs : List A) → length xs ≡ length (map f xs)
map_count f [] = refl
map_count f (x ∷ xs) = ap suc (map_count f xs)

pub reads_count : (asked : List Asking) (reads : List AskedRead) → KeepsReads asked reads → length asked ≡ length reads
reads_count asked reads keeps = map_count shown_read asked ∙ ap length keeps ∙ sym (map_count kept_read reads)

pub asked_some : (asked : List Asking) (reads : List AskedRead) (key : List ℕ) → KeepsReads asked reads
    → is_some (find (λ (a : Asking). bytes_eq a.key key) asked) ≡ is_some (find (is_of key) reads)
asked_some asked reads key keeps =
    some_map shown_read (find (λ (a : Asking). bytes_eq a.key key) asked)
    ∙ ap is_some (asked_same asked reads key keeps)
    ∙ sym (some_map kept_read (find (is_of key) reads))

pub read_law : (me : ClientSelf) (v : ClientValue) (place : ℕ) (key : List ℕ) (slot : Slot) (reads : List AskedRead)
    (p : Option PursuitValue) → KeepsReads slot.reads.items reads → ShowsFormed slot.formed p
    → read_at me v place key (slot_value slot reads p)
    ≡ by_step (step_of (is_some slot.formed)
    (is_written key (slot_value slot reads p) || is_some (find (λ (a : Asking). bytes_eq a.key key) slot.reads.items))
    (nat_le 32 (length slot.reads.items)) (key_fits key))
    (quiet v) (read_done me v place (slot_value slot reads p) key)
read_law me v place key slot reads p keeps formed =
    let written = is_written key (slot_value slot reads p) in
    let q = quiet v in
    let a = read_done me v place (slot_value slot reads p) key in
    sym
    (ap (λ b. by_step (step_of b (written || is_some (find (λ (x : Asking). bytes_eq x.key key) slot.reads.items))
    (nat_le 32 (length slot.reads.items)) (key_fits key)) q a) (formed_same slot.formed p formed)
    ∙ ap (λ b. by_step (step_of (is_some p) (written || b) (nat_le 32 (length slot.reads.items)) (key_fits key)) q a)
    (asked_some slot.reads.items reads key keeps)
    ∙ ap (λ n. by_step (step_of (is_some p) (written || is_some (find (is_of key) reads)) (nat_le 32 n) (key_fits key)) q a)
    (reads_count slot.reads.items reads keeps)
    ∙ sym (step_law (is_some p) (written || is_some (find (is_of key) reads)) (nat_le 32 (length reads)) (key_fits key) q a))

fault_law : (formed full fits : Bool)
    → fault_of formed full fits ≡ or_else (when formed NotOpen) (or_else (when full TooMany) (when (not fits) SizeOut))
fault_law true full fits = refl
fault_law false true fits = refl
fault_law false false true = refl
fault_law false false false = refl

pub write_law : (slot : Slot) (reads : List AskedRead) (p : Option PursuitValue) (w : WritePart) (full fits : Bool)
    → ShowsFormed slot.formed p
    → full ≡ (not (is_written w.key (slot_value slot reads p)) && nat_le 32 (length slot.writes.items)) → fits ≡ write_fits w
    → fault_of (is_some slot.formed) full fits ≡ write_fault (slot_value slot reads p) w
write_law slot reads p w full fits formed is_full is_fit =
    ap (λ b. fault_of b full fits) (formed_same slot.formed p formed)
    ∙ ap (λ b. fault_of (is_some p) b fits) is_full
    ∙ ap (λ b. fault_of (is_some p) (not (is_written w.key (slot_value slot reads p)) && nat_le 32 (length slot.writes.items)) b) is_fit
    ∙ fault_law (is_some p) (not (is_written w.key (slot_value slot reads p)) && nat_le 32 (length slot.writes.items)) (write_fits w)

pub step_same : {a b : Bool} {k l : Bool} {m n : Bool} {x y : Bool} → a ≡ b → k ≡ l → m ≡ n → x ≡ y → step_of a k m x ≡ step_of b l n y
step_same {a} {b} {k} {l} {m} {n} {x} {y} e f g h =
    ap (λ t. step_of t k m x) e ∙ ap (λ t. step_of b t m x) f ∙ ap (λ t. step_of b l t x) g ∙ ap (λ t. step_of b l n t) h

-- ---- a read without a choice

abbrev is_pending : Setting → KeptRead → Bool
is_pending c k = not (nat_le c.reads (length k.versions))

find_map : {A B : Type 0} (f : A → B) (test : B → Bool) (xs : List A) → option_map f (find (λ x. test (f x)) xs) ≡ find test (map f xs)
find_map f test [] = refl
find_map f test (x ∷ xs) = by (find_map f test xs) (test (f x))
  where
    by : option_map f (find (λ y. test (f y)) xs) ≡ find test (map f xs) → (b : Bool)
        → option_map f (cond b (Some x) (find (λ y. test (f y)) xs)) ≡ cond b (Some (f x)) (find test (map f xs))
    by later true = refl
    by later false = later

find_alike : {A : Type 0} (test probe : A → Bool) (xs : List A) → ((x : A) → test x ≡ probe x) → find test xs ≡ find probe xs
find_alike test probe [] each = refl
find_alike test probe (x ∷ xs) each =
    ap (λ b. cond b (Some x) (find test xs)) (each x) ∙ ap (λ o. cond (probe x) (Some x) o) (find_alike test probe xs each)

abbrev key_of_first : Option KeptRead → Option CallFault
key_of_first o = option_map (λ (k : KeptRead). ReadPending k.key) o

first_law : (c : Setting) (asked : List Asking) (reads : List AskedRead) → KeepsReads asked reads
    → key_of_first (option_map shown_read (find (λ (a : Asking). not (nat_le c.reads (length a.versions.items))) asked))
    ≡ option_map (λ (r : AskedRead). ReadPending r.key) (find (λ r. not (is_chosen c r)) reads)
first_law c asked reads keeps =
    ap key_of_first
    (find_map shown_read (is_pending c) asked ∙ ap (find (is_pending c)) keeps ∙ sym (find_map kept_read (is_pending c) reads)
    ∙ ap (option_map kept_read)
    (find_alike (λ r. is_pending c (kept_read r)) (λ r. not (is_chosen c r)) reads (λ r. ap not (chosen_law c r))))
    ∙ by (find (λ r. not (is_chosen c r)) reads)
  where
    by : (o : Option AskedRead) → key_of_first (option_map kept_read o) ≡ option_map (λ (r : AskedRead). ReadPending r.key) o
    by None = refl
    by (Some r) = refl

pub pending_law : (c : Setting) (asked : List Asking) (reads : List AskedRead) (a : Asking) (key : List ℕ) → KeepsReads asked reads
    → Some a ≡ find (λ (x : Asking). not (nat_le c.reads (length x.versions.items))) asked → key ≡ a.key
    → option_map (λ (r : AskedRead). ReadPending r.key) (find (λ r. not (is_chosen c r)) reads) ≡ Some (ReadPending key)
pending_law c asked reads a key keeps found same =
    sym (first_law c asked reads keeps) ∙ ap (λ (o : Option Asking). key_of_first (option_map shown_read o)) (sym found)
    ∙ ap (λ k. Some (ReadPending k)) (sym same)

pub pending_none : (c : Setting) (asked : List Asking) (reads : List AskedRead) → KeepsReads asked reads
    → None ≡ find (λ (x : Asking). not (nat_le c.reads (length x.versions.items))) asked
    → option_map (λ (r : AskedRead). ReadPending r.key) (find (λ r. not (is_chosen c r)) reads) ≡ None
pending_none c asked reads keeps found =
    sym (first_law c asked reads keeps) ∙ ap (λ (o : Option Asking). key_of_first (option_map shown_read o)) (sym found)

-- ---- the refusals of a transaction that is to be formed

abbrev pub chain : Bool → Option CallFault → Bool → Bool → Option CallFault
chain formed pending empty spent =
    or_else (when formed NotOpen) (or_else pending (or_else (when empty Empty) (when spent Exhausted)))

pub chain_same : {a b : Bool} {o p : Option CallFault} {k l m n : Bool} → a ≡ b → o ≡ p → k ≡ l → m ≡ n → chain a o k m ≡ chain b p l n
chain_same {a} {b} {o} {p} {k} {l} {m} {n} e f g h =
    ap (λ t. chain t o k m) e ∙ ap (λ t. chain b t k m) f ∙ ap (λ t. chain b p t m) g ∙ ap (λ t. chain b p l t) h

pub nothing_law : (slot : Slot) (asked : List Asking) (reads : List AskedRead) → KeepsReads asked reads
    → ((length asked == 0) && (length slot.writes.items == 0)) ≡ ((length reads == 0) && (length slot.writes.items == 0))
nothing_law slot asked reads keeps = ap (λ n. (n == 0) && (length slot.writes.items == 0)) (reads_count asked reads keeps)
