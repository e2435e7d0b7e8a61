-- The header: `basil 1 f=F shards=N reads=Q delta=D clock=T keys=K`, with `journal` at its end or without.
use Rattle.std.specs.Prelude.{List, codes, Bool, true, false, Option, Some, None, Result, Ok, Err}
use Rattle.basil_types.specs.Setting.{Setting}
use Rattle.basil_types.specs.Cluster.{cluster_fault}
use Rattle.basil_types.specs.declared.cluster.ClusterFault.{ClusterFault}
use Rattle.schedule_text.specs.declared.line.Line.{Line}
use Rattle.schedule_text.specs.declared.line.Line.TheVariants.{Header}
use Rattle.schedule_text.specs.declared.kinds.header.ClusterNumbers.{ClusterNumbers}
use Rattle.schedule_text.specs.declared.kinds.header.HeaderFields.{HeaderFields}
use Rattle.line_fields.specs.declared.complaint.Complaint.{Complaint}
use Rattle.line_fields.specs.declared.complaint.Complaint.TheVariants.{Refused, Misspelt}
use Rattle.line_fields.specs.Tokens.{Token, seven_of, eight_of}
use Rattle.line_fields.specs.Complaints.{made, made2, made4}
use Rattle.line_fields.specs.Fields.{labelled, literal, number, keys_kind}

unfoldable pub cluster_numbers : Token → Token → Token → Token → Result ClusterNumbers Complaint
cluster_numbers f shards reads delta =
    made4 (λ a b c d. record { f = a; shards = b; reads = c; delta = d }) (labelled (codes "f=") number f)
    (labelled (codes "shards=") number shards) (labelled (codes "reads=") number reads)
    (labelled (codes "delta=") number delta)

unfoldable pub header_fields : Bool → Token ×
    Token × Token × Token × Token × Token × Token → Result HeaderFields Complaint
header_fields journal t =
    made4 (λ version n c k. record { numbers = n; clock = c; keys = k; journal = journal }) (literal (codes "1") t.0)
    (cluster_numbers t.1 t.2 t.3 t.4) (labelled (codes "clock=") number t.5) (labelled (codes "keys=") keys_kind t.6)

-- the eighth token is `journal`
unfoldable pub journal_fields : Token × Token ×
    Token × Token × Token × Token × Token × Token → Result HeaderFields Complaint
journal_fields t =
    made2 (λ last h. h) (literal (codes "journal") t.7) (header_fields true (t.0, t.1, t.2, t.3, t.4, t.5, t.6))

abbrev pub eight_fields : Option (Token × Token × Token × Token × Token × Token × Token × Token) →
    Result HeaderFields Complaint
eight_fields None = Err Misspelt
eight_fields (Some t) = journal_fields t

abbrev pub seven_fields : Result HeaderFields Complaint →
    Option (Token × Token × Token × Token × Token × Token × Token) → Result HeaderFields Complaint
seven_fields other None = other
seven_fields other (Some t) = header_fields false t

abbrev pub accepted : Option ClusterFault → Setting → Result Setting Complaint
accepted None setting = Ok setting
accepted (Some fault) setting = Err Refused

-- the cluster of these numbers, where it isn't refused
unfoldable pub cluster_of : ClusterNumbers → Result Setting Complaint
cluster_of n =
    accepted (cluster_fault n.f n.shards n.reads)
    (record { f = n.f; shards = n.shards; reads = n.reads; delta = n.delta })

abbrev pub with_cluster : Result HeaderFields Complaint → Result Line Complaint
with_cluster (Ok h) = made (λ cluster. Header cluster h.clock h.keys h.journal) (cluster_of h.numbers)
with_cluster (Err c) = Err c

unfoldable pub header : List Token → Result Line Complaint
header tokens = with_cluster (seven_fields (eight_fields (eight_of tokens)) (seven_of tokens))
