use Rattle.std.proofs.Common.{◌∙◌, ◌+◌, ap, drop, map, subst, sym}
use Rattle.frame_values.specs.Owned.{word_value}
use Rattle.faulty_parties.specs.Heard.{AreSigned}
use Rattle.faulty_parties.specs.Hearing.{heard_in, heard_of, joined_all, joined_some}
use Rattle.faulty_parties.proofs.HearLaws.{next_heard, none_heard}
use Rattle.faulty_parties.proofs.hearing.hear.Goals as goal
use Rattle.faulty_parties.proofs.hearing.hear.Goals.{in-Some+in_ok-join_frame-in-Some, in-None}

pub loop-place-preserved : goal.loop-place-preserved
loop-place-preserved g c =
    let accepts = g.V.Verifier.accepted c.args.keys.now in
    let cl = c.args.cluster.now in
    let i = c.args.id.now in
    let posts = c.args.pool.now.posts in
    let before = c.loop-place.invariant in
    let ws = map word_value c.loop-place.words.items in
    elim c.match-post_at.branch [
      | in-Some+in_ok-join_frame-in-Some w ↦
          let to = ap (λ v. map word_value v.items) w.words-is in
          record {
            hears = next_heard accepts cl i c.args.q posts c.loop-place.place w.in-Some.post.now ws _ _ (sym w.in-Some.ensures)
                (to ∙ w.in_ok-join_frame-in-Some.ensures.joins
                ∙ ap (λ f. joined_some (heard_in accepts cl i c.args.q f) ws) w.as_slice.ensures)
                before.hears;
            signed = subst AreSigned (sym to) w.in_ok-join_frame-in-Some.ensures.signed;
          }
      | in-None w ↦
          let to = ap (λ v. map word_value v.items) w.words-is in
          record {
            hears = ap (joined_all (heard_of accepts cl i c.args.q (drop (c.loop-place.place + 1) posts))) to
                ∙ none_heard accepts cl i c.args.q posts c.loop-place.place ws _ (sym w.in-None.ensures) before.hears;
            signed = subst AreSigned (sym to) before.signed;
          }
    ]
