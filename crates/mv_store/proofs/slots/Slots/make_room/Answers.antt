use Rattle.std.proofs.Common.{◌≡◌, Bool, true, false, Option, None, Some, cond, refl, ap, sym, ◌∙◌}
use Rattle.std.specs.Prelude.{IsSome, is_some, unwrap_or}
use Rattle.std.specs.Ordering.{is_eq}
use Rattle.std.specs.BTreeMap.{get}
use Rattle.basil_types.specs.Version.{version_cmp}
use Rattle.basil_types.specs.declared.version.Version.{Version}
use Rattle.basil_types.proofs.VersionLaws.{version_tells}
use Rattle.mv_store.proofs.slots.Slots.make_room.Goals as goal

same_told : {T : Type 0} (version v : Version) (at : Version → Option (Option T)) (now : Option (Option T)) (b : Bool)
    → is_eq (version_cmp version v) ≡ b → now ≡ cond b (Some None) (at v) → at version ≡ None → unwrap_or now None ≡ unwrap_or (at v) None
same_told version v at now true e is none =
    ap (λ o. unwrap_or o None) is ∙ sym (ap (λ o. unwrap_or o None) (ap at (sym (version_tells version v e)) ∙ none))
same_told version v at now false e is none = ap (λ o. unwrap_or o None) is

still_some : {T : Type 0} (b : Bool) (old now : Option (Option T)) → now ≡ cond b (Some None) old → IsSome old → IsSome now
still_some true old now is h = ap is_some is
still_some false old now is h = ap is_some is ∙ h

none : {T : Type 0} {o : Option T} → is_some o ≡ false → o ≡ None
none {o = None} e = refl
none {o = Some x} e = absurd cc

pub returns-clause-told : goal.returns-clause-told
returns-clause-told g c =
    λ v. same_told c.args.version.now v (get version_cmp c.args.self.now.map) _ _ refl
    (c.in_ok-insert.ensures.updates.0 v) (none (sym c.contains_key.ensures ∙ c.if-contains_key.false))

pub returns-clause-kept : goal.returns-clause-kept
returns-clause-kept g c = λ v. still_some _ _ _ (c.in_ok-insert.ensures.updates.0 v)
