-- Arguments are read one after another.
use Rattle.std.proofs.Common.{◌≡◌, List, [], ◌∷◌, ◌++◌, Option, Some, None, refl, ap, append_assoc, append-nil}
use Rattle.std.specs.Prelude.{option_map}
use Rattle.client_link.specs.declared.op.Op.{Op}
use Rattle.client_text.specs.Ops.{before}

-- behind those that were read
abbrev pub behind : List Op → Option (List Op) → Option (List Op)
behind ops more = option_map (λ (later : List Op). ops ++ later) more

pub behind_more : (ops : List Op) (op : Op) (more : Option (List Op)) → behind (ops ++ op ∷ []) more ≡ behind ops (before (Some op) more)
behind_more ops op None = refl
behind_more ops op (Some later) = ap Some (append_assoc ops (op ∷ []) later)

pub behind_none : (ops : List Op) (more : Option (List Op)) → behind ops (before None more) ≡ None
behind_none ops more = refl

pub behind_all : (ops : List Op) → behind ops (Some []) ≡ Some ops
behind_all ops = ap Some (append-nil ops)
