-- One forgery breaks.
use Rattle.std.proofs.Common.{◌≡◌, [], refl, ap}
use Rattle.std.specs.Prelude.{Ok, Result}
use Rattle.basil_types.specs.Steps.{◌>>=◌}
use Rattle.frame_views.specs.declared.fault.BadFrame.{BadFrame}
use Rattle.frame_views.specs.Spelling.{spelling}
use Rattle.frame_views.specs.Values.{MessageValue}
use Rattle.cluster_run.specs.Parts.{read_frame, see_message}
use Rattle.cluster_run.specs.Events.{kept, run}
use Rattle.cluster_run.specs.States.{start}
use Rattle.cluster_run.specs.Examples.{setup, unheard, commit_vote, OneForgeryBreaks}
use Rattle.cluster_run.proofs.Smallest.{is_setup, are_signed, read_again, vote_fits}

read : read_frame setup (spelling (commit_vote unheard)) ≡ Ok (commit_vote unheard)
read = read_again (commit_vote unheard) refl refl (vote_fits unheard refl)

pub one_forgery_breaks : OneForgeryBreaks
one_forgery_breaks = record {
  meets = record { setup = is_setup; signed = are_signed; sized = (_, _) };
  breaks = ap (λ (r : Result MessageValue BadFrame). kept (start setup) (see_message setup r (start setup)) >>= run setup []) read;
}
