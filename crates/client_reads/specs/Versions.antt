-- The versions that a read reply carries, and the bound of what a read sees.
pub use Rattle.node_steps.specs.Limits.{limit_of}
use Rattle.std.specs.Prelude.{◌≡◌, true}
use Rattle.basil_types.specs.declared.version.Version.{Version}
use Rattle.basil_types.specs.Version.{below}
use Rattle.frame_views.specs.Signed.{committed_told, version_told}
use Rattle.frame_views.specs.Values.{ReadReplyValue}
use Rattle.client_reads.specs.declared.versions.ReplyVersions.{ReplyVersions}

-- a missing one is genesis
abbrev pub carried_versions : ReadReplyValue → ReplyVersions
carried_versions reply = record { committed = committed_told reply.committed; prepared = version_told reply.prepared }

-- both versions of a reply stand below this one
pub record StandBelow (limit : Version) (r : ReplyVersions) : Type 0 where
  pub committed : below r.committed limit ≡ true
  pub prepared : below r.prepared limit ≡ true
