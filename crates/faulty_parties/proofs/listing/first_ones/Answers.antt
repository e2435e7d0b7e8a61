use Rattle.std.proofs.Common.{◌∙◌, ap, map, sym, take}
use Rattle.std.proofs.lemmas.List.{take-map}
use Rattle.frame_values.specs.Owned.{word_value}
use Rattle.faulty_parties.proofs.ListLaws.{first_signed}
use Rattle.faulty_parties.proofs.listing.first_ones.Goals as goal

pub returns-clause-few : goal.returns-clause-few
returns-clause-few c =
    let words = c.args.words.items in
    ap (map word_value) (c.truncate.ensures.items ∙ ap (λ n. take n words) c.from.ensures) ∙ sym (take-map word_value c.args.count words)

pub returns-clause-signed : goal.returns-clause-signed
returns-clause-signed c =
    first_signed c.from.result c.args.words.items c.truncate.new.self.items c.truncate.ensures.items c.requires
