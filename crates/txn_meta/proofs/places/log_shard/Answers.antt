use Rattle.std.proofs.Common.{◌≡◌, ◌<◌, ◌%◌, length, sym, ap, ◌∙◌, arith}
use Rattle.std.specs.Prelude.{slice_get}
use Rattle.std.proofs.Math.Nat.{mod-lt}
use Rattle.basil_types.specs.Shown.{transaction_of}
use Rattle.txn_meta.specs.Places.{members, involved}
use Rattle.txn_meta.proofs.MemberLaws.{some_involved, listed_involved, involved_below, got_index, got_within}
use Rattle.txn_meta.proofs.places.log_shard.Goals as goal

pub nonzero_rem-place : goal.nonzero_rem-place
nonzero_rem-place c =
    let some = some_involved c.args.cluster.now (transaction_of c.args.t) (omega arith) (omega arith) c.requires in
    let listed : length (members c.involved-shards.result) ≡ length (involved c.args.cluster.now (transaction_of c.args.t)) =
    ap (λ marks. length (members marks)) c.involved-shards.ensures in
    omega arith

pub overflow_cast-place : goal.overflow_cast-place
overflow_cast-place c =
    let some = some_involved c.args.cluster.now (transaction_of c.args.t) (omega arith) (omega arith) c.requires in
    let listed : length (members c.involved-shards.result) ≡ length (involved c.args.cluster.now (transaction_of c.args.t)) =
    ap (λ marks. length (members marks)) c.involved-shards.ensures in
    let positive : 0 < c.from.result = omega arith in
    omega (arith, mod-lt c.time.result positive)

pub unreachable-requires : goal.unreachable-requires
unreachable-requires c =
    let some = some_involved c.args.cluster.now (transaction_of c.args.t) (omega arith) (omega arith) c.requires in
    let listed : length (members c.involved-shards.result) ≡ length (involved c.args.cluster.now (transaction_of c.args.t)) =
    ap (λ marks. length (members marks)) c.involved-shards.ensures in
    let positive : 0 < c.from.result = omega arith in
    let past = got_within (members c.involved-shards.result) (c.time.result % c.from.result) (sym c.nth.ensures ∙ c.in-None.is) in
    omega (arith, mod-lt c.time.result positive)

pub returns-clause-value : goal.returns-clause-value
returns-clause-value c =
    let list = ap members c.involved-shards.ensures in
    let count : c.from.result ≡ length (involved c.args.cluster.now (transaction_of c.args.t)) = cc in
    got_index (members c.involved-shards.result) (c.time.result % c.from.result) c.in-Some.shard (sym c.nth.ensures ∙ c.in-Some.is) ∙ cc

pub returns-clause-involved : goal.returns-clause-involved
returns-clause-involved c =
    listed_involved c.args.cluster.now (transaction_of c.args.t) (c.time.result % c.from.result) c.in-Some.shard
    (ap (λ marks. slice_get (members marks) (c.time.result % c.from.result)) (sym c.involved-shards.ensures) ∙ sym c.nth.ensures
    ∙ c.in-Some.is)

pub returns-clause-in_range : goal.returns-clause-in_range
returns-clause-in_range c =
    involved_below c.args.cluster.now (transaction_of c.args.t) c.in-Some.shard (omega arith) (returns-clause-involved c)
