use Rattle.std.proofs.Common.{sym, ◌∙◌}
use Rattle.std.specs.Prelude.{drop}
use Rattle.message_pool.proofs.PoolLaws.{found_from, passed_all, passed_to}
use Rattle.message_pool.proofs.pool.passed_from.Goals as goal

pub returns-in-Some-clause-passes : goal.returns-in-Some-clause-passes
returns-in-Some-clause-passes c =
    let posts = c.args.posts.now in
    (passed_to c.args.passed c.in-Some.place posts c.requires.few c.requires.passed
    (sym c.in-Some.is ∙ c.waiting_in.ensures ∙ found_from c.args.passed (drop c.args.passed posts))).0

pub returns-in-Some-clause-among : goal.returns-in-Some-clause-among
returns-in-Some-clause-among c =
    let posts = c.args.posts.now in
    (passed_to c.args.passed c.in-Some.place posts c.requires.few c.requires.passed
    (sym c.in-Some.is ∙ c.waiting_in.ensures ∙ found_from c.args.passed (drop c.args.passed posts))).1

pub returns-in-None-clause-passes : goal.returns-in-None-clause-passes
returns-in-None-clause-passes c =
    let posts = c.args.posts.now in
    passed_all c.args.passed posts c.requires.few c.requires.passed
    (sym c.in-None.is ∙ c.waiting_in.ensures ∙ found_from c.args.passed (drop c.args.passed posts))
