-- How many words work signs.
use Rattle.std.proofs.Common.{◌≡◌, ℕ, ◌+◌, List, [], ◌∷◌, ◌++◌, length, Option, Some, None, ap, length-append, arith}
use Rattle.fallback_leader.specs.declared.words.KeptWord.{KeptWord}
use Rattle.keyring.specs.Signing.{Signing}
use Rattle.node_steps.specs.declared.pending.Pending.{Pending}
use Rattle.replica_core.specs.declared.logging.Said.{Said}
use Rattle.replica_core.specs.declared.logging.Said.TheVariants.{Again, Anew, Entered}
use Rattle.replica_core.specs.declared.plan.Work.{Work}
use Rattle.replica_core.specs.declared.plan.Work.TheVariants as work
use Rattle.replica_core.specs.declared.work.KnownWork.{KnownWork}
use Rattle.replica_core.specs.declared.work.KnownWork.TheVariants.{Nothing, Tell, Wait, Vote, End}
use Rattle.replica_core.specs.declared.work.Release.{Release}
use Rattle.replica_core.specs.KnownWorks as known
use Rattle.replica_core.specs.LeadWorks.{lead_told, words_in}
use Rattle.replica_core.specs.LogWorks.{said_told, said_words}
use Rattle.replica_core.specs.Telling.{Told}
use Rattle.replica_core.specs.Works.{perform_work, word_count}

one_more : (ws : List (List ℕ)) (w : List ℕ) → length (ws ++ w ∷ []) ≡ length ws + 1
one_more ws w = length-append ws (w ∷ [])

module _ (signing : Signing) where
  all_said : (rs : List Release) (t : Told) → length (known.all_released signing rs t).signed ≡ length t.signed + length rs
  all_said [] t = omega arith
  all_said (r ∷ rs) t =
      let i = all_said rs (known.released_told signing t r) in
      let w = one_more t.signed r.pending.words in
      omega (arith, i, w)

  known_said : (t : Told) (w : KnownWork) → length (known.perform_known signing t w).signed ≡ length t.signed + known.word_count w
  known_said t Nothing = omega arith
  known_said t (Tell envelope) = omega arith
  known_said t (Wait arrives place asker) = omega arith
  known_said t (Vote arrives place decision proof p) = one_more t.signed p.words
  known_said t (End arrives place outcome certificate votes) = all_said votes.items _

  log_said : (t : Told) (s : Said) → length (said_told signing t s).signed ≡ length t.signed + said_words s
  log_said t (Again reply sent) = omega arith
  log_said t (Anew p) = one_more t.signed p.words
  log_said t (Entered p) = one_more t.signed p.words

  lead_said : (t : Told) (p : Option Pending) → length (lead_told signing t p).signed ≡ length t.signed + words_in p
  lead_said t None = omega arith
  lead_said t (Some p) = one_more t.signed p.words

  work_said : (kept : List KeptWord) (t : Told) (w : Work) →
      length (perform_work signing kept t w).signed ≡ length t.signed + word_count w
  work_said kept t (work.Known w) = known_said t w
  work_said kept t (work.Read w) = one_more t.signed w.pending.words
  work_said kept t (work.Log w) = log_said t w.said
  work_said kept t (work.Lead w) = lead_said t w.pending

-- where nothing was signed before
pub said_by : (signing : Signing) (kept : List KeptWord) (t : Told) (w : Work) (signed : List (List ℕ)) →
    signed ≡ (perform_work signing kept t w).signed → t.signed ≡ [] → length signed ≡ word_count w
said_by signing kept t w signed is none =
    let said = work_said signing kept t w in
    omega (arith, ap length is, ap length none, said)
