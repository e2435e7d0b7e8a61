-- The reads and writes of a transaction, as arguments spell them.
use Rattle.std.specs.Prelude.{ℕ, ◌+◌, ◌==◌, ◌&&◌, nat_le, List, [], ◌∷◌, length, take, drop, codes, position}
use Rattle.std.specs.Prelude.{Option, Some, None, option_map, if◌then◌else◌}
use Rattle.std.specs.Result.{result_ok}
use Rattle.std.specs.Str.{bytes_eq}
use Rattle.client_link.specs.declared.op.Op.{Op}
use Rattle.client_link.specs.declared.op.Op.TheVariants.{Read, Write}
use Rattle.line_fields.specs.Fields as fields
use Rattle.line_fields.specs.Tokens.{Token}

-- what stands before the first colon, and what behind it
abbrev pub parted : Token → Option (Token × Token)
parted argument = option_map (λ at. (take at argument, drop (at + 1) argument)) (position (λ b. b == 58) argument)

abbrev pub read_of : Token → Option Op
read_of key = option_map Read (result_ok (fields.key key))

abbrev pub write_with : Option (List ℕ) → Option (List ℕ) → Option Op
write_with (Some key) (Some value) = Some (Write key value)
write_with _ _ = None

abbrev pub write_parted : Option (Token × Token) → Option Op
write_parted None = None
write_parted (Some x) = write_with (result_ok (fields.key x.0)) (result_ok (fields.value x.1))

abbrev pub op_parted : Option (Token × Token) → Option Op
op_parted None = None
op_parted (Some x) =
    if bytes_eq x.0 (codes "r") then read_of x.1
    else if bytes_eq x.0 (codes "w") then write_parted (parted x.1)
    else None

-- `r:KEY` or `w:KEY:VALUE`, where no key or value spells a colon as itself
abbrev pub op_of : Token → Option Op
op_of argument = op_parted (parted argument)

abbrev pub before : Option Op → Option (List Op) → Option (List Op)
before (Some op) (Some ops) = Some (op ∷ ops)
before _ _ = None

abbrev pub ops_of : List Token → Option (List Op)
ops_of [] = Some []
ops_of (argument ∷ arguments) = before (op_of argument) (ops_of arguments)

-- 1 to 64 of them
abbrev pub plan_of : List Token → Option (List Op)
plan_of arguments =
    if nat_le 1 (length arguments) && nat_le (length arguments) 64 then ops_of arguments else None
