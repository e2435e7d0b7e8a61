-- How many connections a node may be asked to serve.
use Rattle.std.specs.Prelude.{ℕ}

abbrev pub most_connections : ℕ
most_connections = 1000000
