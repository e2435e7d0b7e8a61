-- Arguments that call a party are no other command; and where memory is wanting for them, nothing is told.
use Rattle.std.proofs.Common.{◌≡◌, ◌⊎◌, ◌∷◌, [], List, Bool, true, false, Option, Some, None, Result, Ok, Err}
use Rattle.std.proofs.Common.{refl, sym, subst, ◌∙◌, inl, inr, codes}
use Rattle.std.specs.Prelude.{if◌then◌else◌, option_map}
use Rattle.std.specs.Str.{bytes_eq}
use Rattle.std.proofs.lemmas.Slice.Eq.{bytes_eq-Decides}
use Rattle.client_text.specs.Ops.{plan_of}
use Rattle.command_input.specs.Commands.{arguments_read, command_of}
use Rattle.command_input.specs.declared.command.Command.{Command}
use Rattle.command_ends.specs.Outcome.{Outcome}
use Rattle.command_ends.specs.declared.status.Status.TheVariants as ends
use Rattle.party_commands.specs.Clients.{ClientStation, IsClientTold, client_call_with, client_of, client_seat_of, formed_of, task_of}
use Rattle.party_commands.specs.Nodes.{IsNodeTold, call_of, node_of}
use Rattle.party_seat.specs.Stations.{Station}
use Rattle.party_commands.specs.declared.client.ClientCall.{ClientCall}
use Rattle.party_commands.specs.declared.client.ClientTask.{ClientTask}
use Rattle.party_commands.specs.declared.client.ClientTask.TheVariants.{Transact, Form, Recover, Certify}
use Rattle.party_commands.specs.declared.node.NodeCall.{NodeCall}
use Rattle.party_seat.specs.declared.client.ClientSeat.{ClientSeat}
use Rattle.line_fields.specs.Tokens.{Token}

-- ---- those of a node

-- they are no command of another name
pub node_is_none : (arguments : List Token) (call : NodeCall) → node_of arguments ≡ Some call → command_of arguments ≡ None
node_is_none [] call e = absurd cc
node_is_none (name ∷ arguments) call e = by (bytes_eq name (codes "node")) refl e
  where
    by : (b : Bool) → bytes_eq name (codes "node") ≡ b → (if b then call_of arguments else None) ≡ Some call →
        command_of (name ∷ arguments) ≡ None
    by false f e = absurd cc
    by true f e =
        subst (λ (n : Token). command_of (n ∷ arguments) ≡ None) (sym ((bytes_eq-Decides name (codes "node")).0 f)) refl

-- what is no command has no input
pub not_read : (command : Option Command) → command ≡ None → arguments_read command ≡ true → (P : Type 0) → P
not_read None e h P = absurd cc
not_read (Some command) e h P = absurd cc

-- they call one
pub same_call : (arguments : List Token) (first second : NodeCall) → node_of arguments ≡ Some first → node_of arguments ≡ Some second →
    first ≡ second
same_call arguments first second e f = by (sym e ∙ f)
  where
    by : Some first ≡ Some second → first ≡ second
    by h = cc

-- ---- those of a client

-- the four names
abbrev IsNamed : Token → Type 0
IsNamed name = (name ≡ codes "client") ⊎ (name ≡ codes "form") ⊎ (name ≡ codes "recover") ⊎ (name ≡ codes "certify")

-- what a client is to do is named so
named : (name : Token) (arguments : List Token) (task : ClientTask) → task_of name arguments ≡ Some task → IsNamed name
named name arguments task e =
    by (bytes_eq name (codes "client")) (bytes_eq name (codes "form")) (bytes_eq name (codes "recover")) (bytes_eq name (codes "certify"))
    refl refl refl refl e
  where
    by : (b c d f : Bool) → bytes_eq name (codes "client") ≡ b → bytes_eq name (codes "form") ≡ c → bytes_eq name (codes "recover") ≡ d →
        bytes_eq name (codes "certify") ≡ f →
        (if b then option_map Transact (plan_of arguments) else if c then option_map Form (plan_of arguments)
        else if d then option_map Recover (formed_of arguments) else if f then option_map Certify (formed_of arguments)
        else None) ≡ Some task → IsNamed name
    by true c d f is other third fourth e = inl ((bytes_eq-Decides name (codes "client")).0 is)
    by false true d f is other third fourth e = inr (inl ((bytes_eq-Decides name (codes "form")).0 other))
    by false false true f is other third fourth e = inr (inr (inl ((bytes_eq-Decides name (codes "recover")).0 third)))
    by false false false true is other third fourth e = inr (inr (inr ((bytes_eq-Decides name (codes "certify")).0 fourth)))
    by false false false false is other third fourth e = absurd cc

-- a call has its task
has_task : (task : Option ClientTask) (seat : Option ClientSeat) (call : ClientCall) → client_call_with task seat ≡ Some call →
    (t : ClientTask) × (task ≡ Some t)
has_task (Some task) seat call e = (task, refl)
has_task None seat call e = absurd cc

-- no command of another name, and no node
abbrev IsOther : List Token → Type 0
IsOther arguments = (command_of arguments ≡ None) × (node_of arguments ≡ None)

-- those of a client are none of both
pub client_is_none : (arguments : List Token) (call : ClientCall) → client_of arguments ≡ Some call → IsOther arguments
client_is_none (name ∷ number ∷ seed ∷ leaf ∷ arguments) call e =
    let has = has_task (task_of name arguments) (client_seat_of number seed leaf) call e in
    by (named name arguments has.0 has.1)
  where
    by : IsNamed name → IsOther (name ∷ number ∷ seed ∷ leaf ∷ arguments)
    by (inl is) = subst (λ (n : Token). IsOther (n ∷ number ∷ seed ∷ leaf ∷ arguments)) (sym is) (refl, refl)
    by (inr (inl is)) = subst (λ (n : Token). IsOther (n ∷ number ∷ seed ∷ leaf ∷ arguments)) (sym is) (refl, refl)
    by (inr (inr (inl is))) = subst (λ (n : Token). IsOther (n ∷ number ∷ seed ∷ leaf ∷ arguments)) (sym is) (refl, refl)
    by (inr (inr (inr is))) = subst (λ (n : Token). IsOther (n ∷ number ∷ seed ∷ leaf ∷ arguments)) (sym is) (refl, refl)
client_is_none [] call e = absurd cc
client_is_none (name ∷ []) call e = absurd cc
client_is_none (name ∷ number ∷ []) call e = absurd cc
client_is_none (name ∷ number ∷ seed ∷ []) call e = absurd cc

pub same_client : (arguments : List Token) (first second : ClientCall) → client_of arguments ≡ Some first →
    client_of arguments ≡ Some second → first ≡ second
same_client arguments first second e f = by (sym e ∙ f)
  where
    by : Some first ≡ Some second → first ≡ second
    by h = cc

-- those of a node are no client
pub node_no_client : (arguments : List Token) (call : NodeCall) → node_of arguments ≡ Some call → client_of arguments ≡ None
node_no_client arguments call e = by (client_of arguments) refl
  where
    by : (o : Option ClientCall) → client_of arguments ≡ o → client_of arguments ≡ None
    by None h = h
    by (Some other) h = let none = (client_is_none arguments other h).1 in absurd cc

-- nothing is called that isn't
pub no_such : {A : Type 0} (o : Option A) (x : A) → o ≡ None → o ≡ Some x → (P : Type 0) → P
no_such None x none is P = absurd cc
no_such (Some y) x none is P = absurd cc

-- ---- want of memory says nothing

pub node_wanting : (r : Result Station Outcome) → IsNodeTold ends.NoMemory r
node_wanting (Ok s) = inr refl
node_wanting (Err refusal) = inr refl

pub client_wanting : (r : Result ClientStation Outcome) → IsClientTold ends.NoMemory r
client_wanting (Ok s) = inr (inr (inr refl))
client_wanting (Err refusal) = inr refl
