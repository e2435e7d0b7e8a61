-- Of the noted reads only the greatest of each key decides.
use Rattle.std.proofs.Common.{List, [], ◌∷◌, refl, sym, ap, ◌∙◌}
use Rattle.std.specs.Prelude.{◌||◌, ◌&&◌}
use Rattle.std.specs.Str.{bytes_eq}
use Rattle.mv_store.specs.declared.store.Store.{Store}
use Rattle.mv_store.specs.Noted.{comes_before, is_above}
use Rattle.mv_store.specs.Held.{Held, NotedRead, greatest_noted}
use Rattle.mv_store.specs.Store.{Stands, AnswerAlike, GreatestAnswers, GreatestDecide}
use Rattle.mv_store.proofs.NotedLaws.{above}

pub greatest_answers : GreatestAnswers
greatest_answers key time client [] = refl
greatest_answers key time client (n ∷ noted) =
    ap (λ b. (bytes_eq n.key key && comes_before (time, client) (n.time, n.client)) || b) (greatest_answers key time client noted)
    ∙ sym (above (bytes_eq n.key key) (greatest_noted key noted) (n.time, n.client) (time, client))

stand_alike : (store : Store) (held : List Held) (noted others : List NotedRead) → Stands store held noted → AnswerAlike noted others
    → Stands store held others
stand_alike store held noted others s alike =
    record {
      written = s.written;
      writers = s.writers;
      read = s.read;
      readers = s.readers;
      behind = λ key time client. s.behind key time client ∙ alike key time client;
    }

pub greatest_decide : GreatestDecide
greatest_decide = record {
  alike = stand_alike;
  greatest = λ store held noted others s same.
      stand_alike store held noted others s (λ key time client.
      greatest_answers key time client noted ∙ ap (λ o. is_above o (time, client)) (same key)
      ∙ sym (greatest_answers key time client others));
}
