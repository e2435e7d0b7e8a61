-- What is found of a message is real.
use Rattle.std.proofs.Common.{◌≡◌, ℕ, ◌+◌, ◌-◌, ◌*◌, ◌^◌, ◌≤◌, ◌<◌, Bool, true, false, List, [], length, drop, get_or}
use Rattle.std.proofs.Common.{refl, sym, ap, ◌∙◌, subst, arith, bytes_eq, slice_index}
use Rattle.std.proofs.lemmas.Bool.Decides.{not_from_Decides}
use Rattle.std.proofs.lemmas.Grind.{common_steps}
use Rattle.std.proofs.lemmas.List.{length-map, length-take-le, length-drop}
use Rattle.std.proofs.lemmas.Slice.Eq.{bytes_eq-Decides}
use Rattle.batch_sign.specs.Laws.{FindingsAreReal}
use Rattle.batch_sign.specs.Places.{IsReal, found_in, leads_to, message_beside, parting, way_in, way_of}
use Rattle.batch_sign.specs.Signatures.{depth_in, is_formed, leaf_number_in, leaves_of, named, path_in, place_beside, place_in}
use Rattle.batch_sign.specs.Signatures.{root_from}
use Rattle.batch_sign.specs.Trees.{climbed, depth_over, leaf_of, node, path_over, place_among, root_over, words_over}
use Rattle.batch_sign.proofs.CollideLaws.{PartAt, formed-path, formed-place, parts}
use Rattle.batch_sign.proofs.PathLaws.{path-to_root}
use Rattle.batch_sign.proofs.SealLaws.{among-below, leaf-of_message, length-node, long-leaves}
use Rattle.batch_sign.proofs.TreeLaws.{leaf-node}

-- the leaf of the batch's own message is the one that a signature names
pub leaf-beside : (messages : List (List ℕ)) (signature : List ℕ) → 0 < length messages →
    depth_in signature ≡ depth_over (leaves_of messages) → leaf_of (message_beside messages signature)
    ≡ node (leaves_of messages) (depth_over (leaves_of messages)) 0 (leaf_number_in signature)
leaf-beside messages signature some depth =
    let leaves = leaves_of messages in
    let h = depth_over leaves in
    let p = place_in signature in
    let below : place_beside messages signature < length messages = among-below (length messages) p some in
    sym (leaf-of_message messages (place_beside messages signature) below)
    ∙ ap (λ (n : ℕ). get_or leaves (place_among n p) []) (sym (length-map messages leaf_of))
    ∙ sym (leaf-node leaves h p)
    ∙ ap (λ (d : ℕ). node leaves h 0 (2 ^ d + p)) (sym depth)

-- a path has nodes of 32 bytes
path-long : (signature : List ℕ) (i : ℕ) → is_formed signature ≡ true → i < depth_in signature → length (path_in signature i) ≡ 32
path-long signature i formed below =
    let path = formed-path signature formed in
    let rest : length (drop (2 + 32 * i) signature) ≡ length signature - (2 + 32 * i) = length-drop (2 + 32 * i) signature in
    let enough : 32 ≤ length (drop (2 + 32 * i) signature) = omega (arith, path, rest) in
    length-take-le 32 (drop (2 + 32 * i) signature) enough

module _ (messages : List (List ℕ)) (message signature : List ℕ) (formed : is_formed signature ≡ true) where
  some-message : leads_to messages message signature ≡ true → 0 < length messages
  some-message leads = grind (arith, common_steps)

  same-words : leads_to messages message signature ≡ true → named message signature ≡ words_over (leaves_of messages)
  same-words leads =
      let same : bytes_eq (named message signature) (words_over (leaves_of messages)) ≡ true = grind (arith, common_steps) in
      (bytes_eq-Decides (named message signature) (words_over (leaves_of messages))).0 same

  same-depth : leads_to messages message signature ≡ true → depth_in signature ≡ depth_over (leaves_of messages)
  same-depth leads = ap (λ (words : List ℕ). slice_index words 1) (same-words leads)

  same-root : leads_to messages message signature ≡ true → root_from message signature ≡ root_over (leaves_of messages)
  same-root leads = ap (drop 2) (same-words leads)

  -- both ways lead to the root
  meet : leads_to messages message signature ≡ true →
      climbed (path_in signature) (leaf_number_in signature) (leaf_of message) (depth_in signature)
      ≡ climbed (path_over (leaves_of messages) (depth_over (leaves_of messages)) (leaf_number_in signature)) (leaf_number_in signature)
      (leaf_of (message_beside messages signature)) (depth_in signature)
  meet leads =
      let leaves = leaves_of messages in
      let h = depth_over leaves in
      let r = leaf_number_in signature in
      let depth = same-depth leads in
      let there = formed-place signature formed in
      let low : 2 ^ h ≤ r = subst (λ (d : ℕ). 2 ^ d ≤ r) depth (omega arith) in
      let high : r < 2 * 2 ^ h = subst (λ (d : ℕ). r < 2 * 2 ^ d) depth (omega (arith, there)) in
      same-root leads
      ∙ sym (path-to_root leaves h r low high)
      ∙ ap (λ (leaf : List ℕ). climbed (path_over leaves h r) r leaf h) (sym (leaf-beside messages signature (some-message leads) depth))
      ∙ ap (climbed (path_over leaves h r) r (leaf_of (message_beside messages signature))) (sym depth)

  paths-long : leads_to messages message signature ≡ true → (i : ℕ) → i < depth_in signature → length (path_in signature i)
      ≡ length (path_over (leaves_of messages) (depth_over (leaves_of messages)) (leaf_number_in signature) i)
  paths-long leads i below =
      let leaves = leaves_of messages in
      let some : 0 < length leaves = omega (arith, some-message leads, length-map messages leaf_of) in
      path-long signature i formed below ∙ sym (length-node leaves (depth_over leaves) i _ (long-leaves messages) some)

  pub found-real : IsReal messages message (found_in messages message signature)
  found-real = by (leads_to messages message signature) refl
    where
      held : (leads : leads_to messages message signature ≡ true) (same : Bool) →
          bytes_eq (message_beside messages signature) message ≡ same → IsReal messages message (found_in messages message signature)
      held leads true e =
          rw (leads, e) (record {
            below = among-below (length messages) (place_in signature) (some-message leads);
            is = (bytes_eq-Decides (message_beside messages signature) message).0 e;
          })
      held leads false e =
          let other = not_from_Decides (bytes_eq (message_beside messages signature) message)
          (bytes_eq-Decides (message_beside messages signature) message) e in
          let part : PartAt (way_of message signature) (way_in messages signature)
          (parting (way_of message signature) (way_in messages signature) (depth_in signature)) =
          parts _ _ (leaf_number_in signature) message (message_beside messages signature) (depth_in signature)
          (paths-long leads) (λ same. other (sym same)) (meet leads) in
          rw (leads, e) part

      by : (leads : Bool) → leads_to messages message signature ≡ leads → IsReal messages message (found_in messages message signature)
      by true e = held e (bytes_eq (message_beside messages signature) message) refl
      by false e = rw e tt

pub findings-real : FindingsAreReal
findings-real messages message signature formed = found-real messages message signature formed
