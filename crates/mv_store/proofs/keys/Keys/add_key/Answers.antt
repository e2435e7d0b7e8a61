use Rattle.std.proofs.Common.{◌≡◌, ◌∙◌, sym, ap, refl, List, ℕ, Vec, Global, Bool, false, Option, None, Some}
use Rattle.std.specs.Prelude.{is_some}
use Rattle.std.specs.Str.{bytes_eq}
use Rattle.indexmap.specs.IndexMap.{get_by}
use Rattle.indexmap.proofs.CallerLemmas.{insert_entry-new}
use Rattle.mv_store.specs.declared.index.KeyIndex.{KeyIndex}
use Rattle.mv_store.specs.Keys.{index_of}
use Rattle.mv_store.proofs.IndexLaws.{rooms_for_key, pushed}
use Rattle.mv_store.proofs.keys.Keys.add_key.Goals as goal

nothing : {A : Type 0} (o : Option A) → is_some o ≡ false → o ≡ None
nothing None e = refl
nothing (Some x) e = absurd cc

same_bytes : Vec ℕ Global → Vec ℕ Global → Bool
same_bytes a b = bytes_eq a.items b.items

pub returns-clause-as_before : goal.returns-clause-as_before
unfolding same_bytes
returns-clause-as_before c =
    let w : KeyIndex = c.new.result in
    let key : List ℕ = c.args.key.now in
    let bytes : Vec ℕ Global = c.in_ok-bytes.bytes in
    let items : bytes.items ≡ key = c.in_ok-bytes.ensures.items in
    let none : index_of c.args.self.now key ≡ None = nothing _ (sym c.contains_key.ensures ∙ c.if-contains_key.false) in
    let absent : get_by (λ x. bytes_eq bytes.items x.items) c.args.self.now.map
    ≡ None = ap (λ b. get_by (λ x. bytes_eq b x.items) c.args.self.now.map) items ∙ none in
    rooms_for_key c.args.self.now _ key w none
    (pushed c.args.self.now _ key bytes w items none (c.in_ok-insert.ensures.entries
    ∙ insert_entry-new same_bytes c.args.self.now.map bytes w absent))
    c.new.ensures.writers c.new.ensures.readers c.new.ensures.noted
