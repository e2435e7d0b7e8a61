use Rattle.std.proofs.Common.{◌≡◌, ◌∙◌, List, ap, map, subst}
use Rattle.std.specs.Prelude.{IfOk}
use Rattle.basil_types.specs.Shown.{transaction_of}
use Rattle.basil_types.specs.Transaction.{id}
use Rattle.frame_values.specs.Owned.{word_value}
use Rattle.frame_views.specs.Values.{WordValue}
use Rattle.cluster_run.specs.Faulty.{words_from}
use Rattle.faulty_parties.specs.Lies.{Says}
use Rattle.faulty_parties.specs.Tallies.{words_in}
use Rattle.faulty_parties.specs.Unsaid.{unsaid_proposal}
use Rattle.faulty_parties.proofs.HeardLaws.{words_are}
use Rattle.faulty_parties.proofs.proposals.proposal.Goals as goal

pub returns-clause-says : goal.returns-clause-says
returns-clause-says g c s st cluster accepted posts =
    let place = c.args.place in
    let said = c.args.said in
    let t = transaction_of c.args.t in
    let A = g.V.Verifier.accepted c.args.keys.now in
    let d = said.decision in
    let is : map word_value c.as_slice.result.now ≡ words_from s st t d place.shard said.view =
    ap (map word_value) c.as_slice.ensures.value ∙ c.in_ok-words.ensures.words
    ∙ ap (λ i. words_in A c.args.cluster.now c.args.pool.now.posts i d place.shard said.view)
    (c.id-id.ensures)
    ∙ ap (λ a. words_in a c.args.cluster.now c.args.pool.now.posts (id t) d place.shard said.view) accepted
    ∙ ap (λ x. words_in s.kit.accepts x c.args.pool.now.posts (id t) d place.shard said.view) cluster
    ∙ ap (λ x. words_in s.kit.accepts s.cluster x (id t) d place.shard said.view) posts
    ∙ words_are s st t d place.shard said.view in
    subst (λ (l : List WordValue). IfOk c.proposal_with.result
    (Says (unsaid_proposal place.shard place.index t d said.view c.args.to l))) is c.proposal_with.ensures.says
