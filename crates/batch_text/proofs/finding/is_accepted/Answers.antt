use Rattle.std.proofs.Common.{List, ℕ, Bool, ap, ◌∙◌}
use Rattle.basil_types.specs.declared.party.Party.{Party}
use Rattle.basil_types.specs.declared.party.Party.TheVariants.{Client}
use Rattle.batch_sign.specs.Signatures.{in_batch}
use Rattle.lms_sign.specs.Verifying.{is_valid}
use Rattle.batch_text.proofs.finding.is_accepted.Goals as goal

pub returns : goal.returns
returns c =
    let message = c.args.message.now in
    let signature = c.args.signature.now in
    c.accepts.ensures
    ∙ ap (λ (accepted : Party → List ℕ → List ℕ → Bool). accepted (Client 1) message signature) c.new-keys.ensures
    ∙ ap (λ (accepted : Party → List ℕ → List ℕ → Bool). in_batch accepted (Client 1) message signature) c.new.ensures
    ∙ ap (λ (public : List ℕ). in_batch (λ party words signature. is_valid public words signature) (Client 1) message signature)
    c.in_ok-copy_of.ensures
