-- What a plan of a work does, and what it needs.
use Rattle.std.proofs.Common.{◌≡◌, ◌∙◌, ◌+◌, ℕ, List, [], ◌++◌, length, map, refl, sym, ap, subst}
use Rattle.std.specs.Prelude.{Option}
use Rattle.basil_types.specs.declared.outbox.Envelope.{Envelope}
use Rattle.basil_types.specs.declared.outbox.Outbox.{Outbox}
use Rattle.basil_types.specs.declared.party.Party.{Party}
use Rattle.basil_types.specs.Words.{words_of}
use Rattle.keyring.specs.Signing.{Signing}
use Rattle.node_steps.specs.Framed.{framed}
use Rattle.node_steps.specs.Pendings.{bytes_sent}
use Rattle.client_steps.specs.Addressing.{enveloped}
use Rattle.client_core.specs.declared.held.Held.{Held}
use Rattle.client_core.specs.declared.work.ClientPlan.{ClientPlan}
use Rattle.client_core.specs.declared.work.Work.{Work}
use Rattle.client_core.specs.declared.work.Work.TheVariants.{Nothing, Ask, Pursue, Start, Hold, Reply, Take}
use Rattle.client_core.specs.Clients.{ClientDone, ClientValue}
use Rattle.client_core.specs.Works.{CanPerform, CanWork, Counts, IsPlanOf, Leaves, WillDo, pending_bytes, sealed_by, word_count, words_by}

module _ (size : ℕ) (work : Work) (out : Outbox) (plan : ClientPlan) (is : IsPlanOf size work out plan) where
  pub does_so : (signing : Signing) (held : Held) (v : ClientValue) (d : ClientDone) → Leaves signing held v work d.client
      → words_by work ≡ map words_of d.signed → out.messages.items ++ sealed_by signing v.pen work ≡ map framed d.sent
      → WillDo signing held v plan d
  does_so signing held v d leaves words messages =
      record {
        leaves = subst (λ w. Leaves signing held v w d.client) (sym is.does) leaves;
        words = ap words_by is.does ∙ words;
        messages =
            ap (λ (o : Outbox). o.messages.items ++ sealed_by signing v.pen plan.work) is.sends
            ∙ ap (λ w. out.messages.items ++ sealed_by signing v.pen w) is.does ∙ messages;
      }

  -- with signatures of another size, where none waits for one
  pub ready_at : (n left : ℕ) (held : Held) → pending_bytes size work ≡ pending_bytes n work → CanWork n left held out work
      → out.signed.items ≡ [] → CanPerform n left held plan
  ready_at n left held same can none =
      record {
        work =
            subst (λ o. CanWork n left held o plan.work) (sym is.sends)
            (subst (λ w. CanWork n left held out w) (sym is.does) can);
        unsigned = ap (λ (o : Outbox). o.signed.items) is.sends ∙ none;
        counts = record {
          messages = (is.counts).messages;
          bytes =
              (is.counts).bytes
              ∙ ap (λ b. bytes_sent plan.out.messages.items + b)
              (ap (pending_bytes size) is.does ∙ same ∙ sym (ap (pending_bytes n) is.does));
        };
      }

pub nothing_ready : (size left : ℕ) (held : Held) (plan : ClientPlan) → plan.work ≡ Nothing → plan.out.signed.items ≡ []
    → Counts size plan → CanPerform size left held plan
nothing_ready size left held plan work unsigned counts =
    record {
      work = subst (CanWork size left held plan.out) (sym work) tt;
      unsigned = unsigned;
      counts = counts;
    }

-- the slot that it answers is of no account
pub done_in_slot : (signing : Signing) (held : Held) (v : ClientValue) (d : ClientDone) (plan new : ClientPlan)
    (slot : Option ℕ) → new ≡ record plan { slot = slot } → WillDo signing held v plan d → WillDo signing held v new d
done_in_slot signing held v d plan new slot same will =
    subst (λ (p : ClientPlan). WillDo signing held v p d) (sym same)
    (record { leaves = will.leaves; words = will.words; messages = will.messages })

pub ready_in_slot : (size left : ℕ) (held : Held) (plan new : ClientPlan) (slot : Option ℕ)
    → new ≡ record plan { slot = slot } → CanPerform size left held plan → CanPerform size left held new
ready_in_slot size left held plan new slot same can =
    subst (CanPerform size left held) (sym same)
    (record {
      work = can.work;
      unsigned = can.unsigned;
      counts = record { messages = (can.counts).messages; bytes = (can.counts).bytes };
    })

-- ---- what it sends, in numbers

words_counted : (w : Work) → length (words_by w) ≡ word_count w
words_counted Nothing = refl
words_counted (Ask slot asked) = refl
words_counted (Pursue slot formed pending) = refl
words_counted (Start slot) = refl
words_counted (Hold recovered) = refl
words_counted (Reply slot read reply) = refl
words_counted (Take slot starts) = refl

pub sent_words : (w : Work) (old new : List (List ℕ)) → new ≡ old ++ words_by w → old ≡ [] → length new ≡ word_count w
sent_words w old new is none = ap length is ∙ ap (λ l. length (l ++ words_by w)) none ∙ words_counted w

-- what is sent to these parties
pub sent_to_these : (new : List Envelope) (frame spelled : List ℕ) (parties whom : List Party)
    → new ≡ map (enveloped frame) parties → frame ≡ spelled → parties ≡ whom → new ≡ map (enveloped spelled) whom
sent_to_these new frame spelled parties whom is same to =
    is ∙ ap (λ f. map (enveloped f) parties) same ∙ ap (map (enveloped spelled)) to
