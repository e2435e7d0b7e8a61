-- Lists of lawful acts, one after the other.
use Rattle.std.proofs.Common.{◌≡◌, ℕ, Bool, List, [], ◌∷◌, ◌++◌, Option, Some, None, refl, sym, ap, subst, ◌∙◌, append-nil}
use Rattle.std.specs.Prelude.{Result, Ok}
use Rattle.std.proofs.lemmas.List.Elements.{filter_map-append}
use Rattle.basil_types.specs.Words.{SignedWords}
use Rattle.replica_core.specs.declared.refusal.Refusal.{Refusal}
use Rattle.node_steps.specs.Refusing.{unless, unless_refused}
use Rattle.agreement_laws.specs.Words as laws
use Rattle.agreement_laws.specs.Replicas.{Act, May}
use Rattle.agreement_laws.specs.Runs.{Node, acted, answered, MayAnswer}
use Rattle.agreement_laws.specs.Certificates.{Signed}
use Rattle.agreement_laws.specs.Settings as settings
use Rattle.cluster_run.specs.Settings.{words_as, word_as}
use Rattle.cluster_run.specs.Acting.{Leads}

pub words_append : (own more : List SignedWords) → words_as (own ++ more) ≡ words_as own ++ words_as more
words_append own more = filter_map-append word_as own more

pub words_none : (own : List SignedWords) → words_as (own ++ []) ≡ words_as own
words_none own = ap words_as (append-nil own)

-- an answer without a refusal
pub unless_ok : {A : Type 0} (o : Option Refusal) (a b : A) → unless o a ≡ Ok b → a ≡ b
unless_ok None a b e = cc
unless_ok (Some r) a b e = absurd cc

pub unless_none : {A : Type 0} (o : Option Refusal) (a b : A) → unless o a ≡ Ok b → o ≡ None
unless_none None a b e = refl
unless_none (Some r) a b e = absurd cc

pub then_ok : {A : Type 0} (o : Option Refusal) (a : Result A Refusal) (b : A) → unless_refused o a ≡ Ok b → a ≡ Ok b
then_ok None a b e = e
then_ok (Some r) a b e = absurd cc

pub then_none : {A : Type 0} (o : Option Refusal) (a : Result A Refusal) (b : A) → unless_refused o a ≡ Ok b → o ≡ None
then_none None a b e = refl
then_none (Some r) a b e = absurd cc

module _ (c : settings.Setting) (signed : Signed) (aborted : laws.Id → Bool) (s r : ℕ) where
  abbrev pub G : Node → Node → Type 0
  G p q = Leads c signed aborted s r p q

  pub stays : (p q : Node) → p ≡ q → G p q
  stays p q e = record { acts = []; may = tt; ends = e }

  acts_append : (p : Node) (ks bs : List (laws.Id × Act)) → answered s r p (ks ++ bs) ≡ answered s r (answered s r p ks) bs
  acts_append p [] bs = refl
  acts_append p (a ∷ ks) bs = acts_append (acted s r p a.0 a.1) ks bs

  may_append : (p : Node) (ks bs : List (laws.Id × Act)) → MayAnswer c signed aborted s r p ks →
      MayAnswer c signed aborted s r (answered s r p ks) bs → MayAnswer c signed aborted s r p (ks ++ bs)
  may_append p [] bs m n = n
  may_append p (a ∷ ks) bs m n = (m.0, may_append (acted s r p a.0 a.1) ks bs m.1 n)

  pub then_goes : (p q t : Node) → G p q → G q t → G p t
  then_goes p q t g h = record {
    acts = g.acts ++ h.acts;
    may = may_append p g.acts h.acts g.may (subst (λ (z : Node). MayAnswer c signed aborted s r z h.acts) (sym g.ends) h.may);
    ends = acts_append p g.acts h.acts ∙ (ap (λ z. answered s r z h.acts) g.ends ∙ h.ends);
  }

  pub one_act : (p : Node) (x : laws.Id) (a : Act) (q : Node) → May c signed aborted s p.book x a → acted s r p x a ≡ q → G p q
  one_act p x a q m e = record { acts = (x, a) ∷ []; may = (m, tt); ends = e }

  -- to the same node by another name
  pub goes_to : (p q t : Node) → G p q → q ≡ t → G p t
  goes_to p q t g e = subst (G p) e g
