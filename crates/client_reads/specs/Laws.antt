-- What holds of every read reply, and of every choice.
use Rattle.std.specs.Prelude.{◌≡◌, ◌≤◌, List, All, None, true, ◌↔◌}
use Rattle.basil_types.specs.declared.version.Version.{Version}
use Rattle.basil_types.specs.Setting.{Setting, IsSetting}
use Rattle.basil_types.specs.Version.{genesis, below}
use Rattle.frame_views.specs.Fitting.{FitsReadReply, bounds_of}
use Rattle.frame_views.specs.Signed.{signed_in}
use Rattle.frame_views.specs.Values.{ReadValue, ReadReplyValue, ReadReply}
use Rattle.certificates.specs.Accepted.{Accepted}
use Rattle.certificates.specs.Laws.{AcceptsMore, AgreeOn, AcceptsMoreOf}
use Rattle.client_reads.specs.declared.versions.ReplyVersions.{ReplyVersions}
use Rattle.client_reads.specs.Choosing.{chosen, choice, IsCarried, NoneAbove}
use Rattle.client_reads.specs.Replies.{IsValidReply, reply_fault}
use Rattle.client_reads.specs.Versions.{carried_versions, limit_of, StandBelow}

-- there is no fault exactly where the reply is valid
abbrev pub RepliesExactly : Type 0
RepliesExactly =
    (A : Accepted) (c : Setting) (read : ReadValue) (reply : ReadReplyValue) →
    IsSetting c → FitsReadReply (bounds_of c) reply →
    (reply_fault A c read reply ≡ None) ↔ IsValidReply A c read reply

-- what is valid stays valid as more is accepted
abbrev pub RepliesGrow : Type 0
RepliesGrow =
    (A B : Accepted) (c : Setting) (read : ReadValue) (reply : ReadReplyValue) →
    IsSetting c → FitsReadReply (bounds_of c) reply → AcceptsMore A B →
    IsValidReply A c read reply → IsValidReply B c read reply

-- a fault is a function of the read, of what the reply says and of what is accepted of the reply's own signatures
abbrev pub RepliesAlike : Type 0
RepliesAlike =
    (A B : Accepted) (c : Setting) (read : ReadValue) (reply : ReadReplyValue) →
    AgreeOn A B (signed_in (ReadReply reply)) → reply_fault A c read reply ≡ reply_fault B c read reply

-- a reply without a fault has none where of its own signatures more is accepted
abbrev pub RepliesCarry : Type 0
RepliesCarry =
    (A B : Accepted) (c : Setting) (read : ReadValue) (reply : ReadReplyValue) →
    AcceptsMoreOf A B (signed_in (ReadReply reply)) →
    reply_fault A c read reply ≡ None → reply_fault B c read reply ≡ None

-- what a valid reply to a client carries stands below the limit of its read
abbrev pub RepliesStandBelow : Type 0
RepliesStandBelow =
    (A : Accepted) (c : Setting) (read : ReadValue) (reply : ReadReplyValue) →
    1 ≤ read.client → IsValidReply A c read reply → StandBelow (limit_of read) (carried_versions reply)

-- a choice rests on what the replies carry
abbrev pub ChoicesCarried : Type 0
ChoicesCarried = (c : Setting) (replies : List ReplyVersions) → IsCarried c replies (choice c replies)

-- no version that counts stands above the chosen one
abbrev pub ChoicesGreatest : Type 0
ChoicesGreatest = (c : Setting) (replies : List ReplyVersions) → NoneAbove c replies (chosen c replies)

-- a choice stands below what genesis and all that the replies carry stand below
abbrev pub ChoicesStandBelow : Type 0
ChoicesStandBelow =
    (c : Setting) (replies : List ReplyVersions) (limit : Version) →
    below genesis limit ≡ true → All (StandBelow limit) replies → below (chosen c replies) limit ≡ true
