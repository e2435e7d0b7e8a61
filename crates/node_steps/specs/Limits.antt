-- What a read sees.
use Rattle.std.specs.Prelude.{replicate}
use Rattle.basil_types.specs.declared.version.Version.{Version}
use Rattle.frame_views.specs.Values.{ReadValue}

-- what stands below its own time and client, with an id of zeros
abbrev pub limit_of : ReadValue → Version
limit_of read = record { time = read.time; client = read.client; id = replicate 32 0 }
