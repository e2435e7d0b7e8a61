use Rattle.cluster_run.proofs.Agreeing as agreeing
use Rattle.cluster_run.proofs.ClientWords.{clients_sign_words}
use Rattle.cluster_run.proofs.Lasting as lasting
use Rattle.cluster_run.proofs.Parting.{Laws}
use Rattle.cluster_run.proofs.Prepared.{prepares_seen}
use Rattle.cluster_run.proofs.Serving as serving
use Rattle.cluster_run.proofs.Signing.{answers_sign_words}
use Rattle.cluster_run.proofs.safety.runs_are_safe.Goals as goal

pub returns : goal.returns
returns c =
    let law : Laws = record {
      sane = c.settings_are_sane.ensures;
      words_tell = c.words_tell_fields.ensures;
      one_spelling = c.one_spelling.ensures;
      exactly = c.no_refusal_exactly.ensures.certificates;
      carry = c.proofs_carry.ensures.certificates;
      certificates = c.certificates_are_certificates.ensures;
      after_event = c.invariant_after_event.ensures;
      after_answer = c.invariant_after_answer.ensures;
      are_acts = c.answers_are_acts.ensures;
      keep_order = c.answers_keep_order.ensures;
      sign_words = answers_sign_words;
      frames_fit = λ s frame m setting bytes is. (c.read_frames_fit.ensures s frame m bytes is).fits;
      clients_sign = clients_sign_words;
    } in
    λ s ok signs es st sized h.
    let whole =
    lasting.run_keeps law c.replies_exactly.ensures s ok (prepares_seen c.choices_are_taken.ensures s ok signs) es sized _ st
    (lasting.whole_at_start c.invariant_at_start.ensures s) h in
    record {
      agreed = agreeing.agreed law c.agreement.ensures s ok st whole.inv;
      reads = serving.reads_are_right law c.reads_are_taken.ensures c.voters.ensures c.are_safe.ensures s ok st whole c.agreement.ensures;
    }
