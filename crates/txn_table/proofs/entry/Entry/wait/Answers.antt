use Rattle.std.proofs.Common.{◌≡◌, true, false, [], ◌∷◌, ◌++◌, sym, ap, ◌∙◌, option_map, if◌then◌else◌}
use Rattle.std.specs.List.{list_any}
use Rattle.txn_table.specs.declared.entry.Stage.{Stage}
use Rattle.txn_table.specs.Entries.{EntryValue, VoteValue, same_party, asked_vote}
use Rattle.txn_table.specs.Shown.{vote_of, outcome_shown, waiting}
use Rattle.txn_table.proofs.Asking.{listed, asked_open}
use Rattle.txn_table.proofs.entry.Entry.wait.Goals as goal

pub returns-then-not-contains : goal.returns-then-not-contains
returns-then-not-contains c =
    let asker = c.args.asker in
    let items = c.in-Open.askers.items in
    let absent : list_any (λ p. same_party p asker) items ≡ false =
    ap (list_any (λ p. same_party p asker)) (sym c.as_slice.ensures) ∙ sym (listed asker c.as_slice.result.now)
    ∙ sym c.contains.ensures.value ∙ c.if-not-contains.true in
    let vote : waiting c.push.new.self.items ≡ asked_vote asker (vote_of c.args.self.now.stage) =
    ap waiting (c.push.ensures.items ∙ sym (ap (λ b. if b then items else items ++ asker ∷ []) absent)) ∙ asked_open asker items
    ∙ ap (λ (s : Stage). asked_vote asker (vote_of s)) (sym c.in-Open.is) in
    ap (λ (v : VoteValue). let e : EntryValue = record {
      transaction = c.args.self.now.transaction;
      vote = v;
      outcome = option_map outcome_shown c.args.self.now.outcome;
    } in e) vote

pub returns-else-not-contains : goal.returns-else-not-contains
returns-else-not-contains c =
    let asker = c.args.asker in
    let items = c.in-Open.askers.items in
    let present : list_any (λ p. same_party p asker) items ≡ true =
    ap (list_any (λ p. same_party p asker)) (sym c.as_slice.ensures) ∙ sym (listed asker c.as_slice.result.now)
    ∙ sym c.contains.ensures.value ∙ c.if-not-contains.false in
    let vote : waiting items ≡ asked_vote asker (vote_of c.args.self.now.stage) =
    ap waiting (sym (ap (λ b. if b then items else items ++ asker ∷ []) present)) ∙ asked_open asker items
    ∙ ap (λ (s : Stage). asked_vote asker (vote_of s)) (sym c.in-Open.is) in
    ap (λ (v : VoteValue). let e : EntryValue = record {
      transaction = c.args.self.now.transaction;
      vote = v;
      outcome = option_map outcome_shown c.args.self.now.outcome;
    } in e) vote
