use Rattle.std.proofs.Common.{◌∙◌, ◌++◌, List, ℕ, sym, ap}
use Rattle.std.proofs.Math.Logic.{∥∥₁_map}
use Rattle.node_steps.specs.Pens.{PenValue, pen_value}
use Rattle.client_core.specs.Works.{sealed_by, words_by}
use Rattle.client_core.proofs.PlanLaws.{sent_words}
use Rattle.client_core.proofs.ShownLaws.{commit_count}
use Rattle.client_core.proofs.client.Client.commit.Goals as goal

pub invariant_of-self : goal.invariant_of-self
invariant_of-self g c =
    record {
      same = c.perform.ensures.cluster ∙ c.args.self.now.same;
      shown = ∥∥₁_map c.requires.meant (λ x. let d = x.1 in let will = x.3 in (
        d.client,
        record {
          shows = c.perform.ensures.held x.0 d.client x.2.place will.leaves;
          place = c.perform.ensures.pen x.0 d.client x.2.place will.leaves;
        },
      ));
    }

pub returns-clause-done : goal.returns-clause-done
returns-clause-done g c = λ v d h will.
    let plan = c.args.plan in (
      record {
        shows = c.perform.ensures.held v d.client h.place will.leaves;
        place = c.perform.ensures.pen v d.client h.place will.leaves;
      },
      record {
        messages =
            c.perform.ensures.messages
            ∙ ap (λ (p : PenValue). plan.out.messages.items ++ sealed_by (g.S.Signer.fixed c.args.self.now.pen) p plan.work)
            (sym h.place) ∙ will.messages;
        signed =
            c.perform.ensures.words ∙ ap (λ (l : List (List ℕ)). l ++ words_by plan.work) c.requires.can.unsigned ∙ will.words;
      },
    )

pub returns-clause-messages : goal.returns-clause-messages
returns-clause-messages g c = c.perform.ensures.sends.messages ∙ sym c.requires.can.counts.messages

pub returns-clause-bytes : goal.returns-clause-bytes
returns-clause-bytes g c = c.perform.ensures.sends.bytes ∙ sym c.requires.can.counts.bytes

pub returns-clause-words : goal.returns-clause-words
returns-clause-words g c = sent_words c.args.plan.work c.args.plan.out.signed.items _ c.perform.ensures.words c.requires.can.unsigned

pub returns-clause-slots : goal.returns-clause-slots
returns-clause-slots g c =
    let me = c.args.self.now in
    commit_count (g.S.Signer.fixed me.pen) (pen_value (g.S.Signer.spent me.pen) (g.S.Signer.left_of me.pen)) me.held c.perform.new.held
    c.args.plan c.requires (λ v d h will. c.perform.ensures.held v d.client h.place will.leaves)
