use Rattle.std.proofs.Common.{◌≡◌, Option, Some, cond, ap, sym, ◌∙◌}
use Rattle.std.specs.Prelude.{option_map}
use Rattle.std.specs.Ordering.{is_eq}
use Rattle.basil_types.specs.Version.{version_cmp, same_version}
use Rattle.basil_types.specs.declared.version.Version.{Version}
use Rattle.basil_types.proofs.VersionLaws.{tied_is_same}
use Rattle.mv_store.specs.Slots.{slot_after}
use Rattle.mv_store.proofs.slots.Slots.put.Goals as goal

placed : {T : Type 0} (version v : Version) (told : Option T) (slot now old : Option (Option T))
    → now ≡ cond (is_eq (version_cmp version v)) slot old →
    slot ≡ option_map Some told → now ≡ slot_after version (option_map Some told) v old
placed version v told slot now old is e =
    is ∙ ap (λ b. cond b slot old) (tied_is_same version v) ∙ ap (λ s. cond (same_version version v) s old) e

pub returns-in-Ok : goal.returns-in-Ok
returns-in-Ok g c =
    λ v. placed c.args.version.now v c.args.told _ _ _ (c.in-Ok.ensures.updates.0 v) (ap (option_map Some) (sym c.in-Some.is))

pub returns-in-None : goal.returns-in-None
returns-in-None g c =
    λ v. placed c.args.version.now v c.args.told _ _ _ (c.remove.ensures.updates.0 v) (ap (option_map Some) (sym c.in-None.is))
