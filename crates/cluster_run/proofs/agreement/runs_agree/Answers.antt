use Rattle.cluster_run.proofs.Agreeing as agreeing
use Rattle.cluster_run.proofs.ClientWords.{clients_sign_words}
use Rattle.cluster_run.proofs.Signing.{answers_sign_words}
use Rattle.cluster_run.proofs.agreement.runs_agree.Goals as goal

pub returns : goal.returns
returns c =
    agreeing.runs_agree
    (record {
      sane = c.settings_are_sane.ensures;
      words_tell = c.words_tell_fields.ensures;
      one_spelling = c.one_spelling.ensures;
      exactly = c.no_refusal_exactly.ensures.certificates;
      carry = c.proofs_carry.ensures.certificates;
      certificates = c.certificates_are_certificates.ensures;
      after_event = c.invariant_after_event.ensures;
      after_answer = c.invariant_after_answer.ensures;
      are_acts = c.answers_are_acts.ensures;
      keep_order = c.answers_keep_order.ensures;
      sign_words = answers_sign_words;
      frames_fit = λ s frame m setting bytes is. (c.read_frames_fit.ensures s frame m bytes is).fits;
      clients_sign = clients_sign_words;
    })
    c.invariant_at_start.ensures c.agreement.ensures
