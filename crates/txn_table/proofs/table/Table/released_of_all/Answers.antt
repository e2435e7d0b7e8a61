use Rattle.std.proofs.Common.{◌≡◌, ℕ, Option, sym, ap, ◌∙◌, option_map, arith}
use Rattle.std.specs.Global.{Vec}
use Rattle.std.specs.Option.{option_and_then}
use Rattle.basil_types.specs.declared.party.Decision.{Decision}
use Rattle.txn_table.specs.Entries.{EntryValue}
use Rattle.txn_table.specs.Released.{released_vote}
use Rattle.txn_table.proofs.Reading.{given_some, given_none, found_at}
use Rattle.txn_table.proofs.table.Table.released_of_all.Goals as goal
use Rattle.txn_table.proofs.table.Table.released_of_all.Goals.{in-Some+in_ok-push, in_default}

pub loop-at-preserved : goal.loop-at-preserved
loop-at-preserved c =
    let home = c.args.home.now in
    let s = c.args.supposed.now in
    let es = c.args.self.now.entries in
    let i = c.loop-at.at in
    let f : ℕ × EntryValue → Option (ℕ × Decision) = λ x. option_map (λ vote. (x.0, vote)) (released_vote home s es x.0 x.1) in
    let found = found_at es i (omega (arith, c.loop-at-test.true, c.len-at-end.ensures.value)) in
    let vote : c.released_vote.result ≡ released_vote home s es i found.0 = c.released_vote.ensures
    ∙ ap (option_and_then (released_vote home s es i)) found.1 in
    elim c.match-released_vote.branch [
      | in-Some+in_ok-push w ↦
          given_some f es i found.0 (i, w.in-Some.vote) c.loop-at.released.items c.match-released_vote.released.items found.1
          (ap (option_map (λ (vote : Decision). let x : ℕ × Decision = (i, vote) in x)) (sym vote ∙ w.in-Some.is)) c.loop-at.invariant
          (ap (λ (v : Vec (ℕ × Decision)). v.items) w.released-is ∙ w.in_ok-push.ensures.items)
      | in_default w ↦
          ap (λ (v : Vec (ℕ × Decision)). v.items) w.released-is
          ∙ given_none f es i found.0 c.loop-at.released.items found.1
          (ap (option_map (λ (vote : Decision). let x : ℕ × Decision = (i, vote) in x)) (sym vote ∙ w.in_default.is)) c.loop-at.invariant
    ]
