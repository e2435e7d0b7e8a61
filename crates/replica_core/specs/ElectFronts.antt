-- The messages of elections before they are signed.
use Rattle.std.specs.Prelude.{ℕ, List, [], map}
use Rattle.basil_types.specs.declared.party.Decision.{Decision}
use Rattle.basil_types.specs.declared.party.Party.{Party}
use Rattle.basil_types.specs.Transaction.{TransactionValue}
use Rattle.fallback_leader.specs.Elections.{ProposalValue}
use Rattle.frame_views.specs.Values.{ElectValue, DecideValue}
use Rattle.node_steps.specs.Pendings.{Front}
use Rattle.replica_core.specs.declared.seat.Seat.{Seat}
use Rattle.replica_core.specs.Elections.{as_listed}

-- a word with nothing in the place of its signature
abbrev pub elect_said : Seat → TransactionValue → Decision → ℕ → ElectValue
elect_said seat t decision view =
    record {
      transaction = t;
      shard = seat.home.shard;
      replica = seat.index;
      decision = decision;
      view = view;
      signature = [];
    }

-- a proposal with nothing in the place of its signature
abbrev pub decide_said : Seat → TransactionValue → ℕ → ProposalValue → DecideValue
decide_said seat t view p =
    record {
      transaction = t;
      shard = seat.home.shard;
      replica = seat.index;
      decision = p.decision;
      view = view;
      words = map as_listed p.words;
      signature = [];
    }

-- a frame for a party, without its signature
abbrev pub front_for : List ℕ → Party → Front
front_for bytes to = record { to = to; bytes = bytes }
