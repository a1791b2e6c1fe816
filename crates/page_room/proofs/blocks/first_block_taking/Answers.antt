use Rattle.std.proofs.Common.{◌≡◌, ◌+◌, ◌∙◌, rules}
use Rattle.std.specs.Option.{option_map}
use Rattle.std.proofs.lemmas.Iterator.Adapters.{option_map_id}
use Rattle.page_room.proofs.Least.{block_position}
use Rattle.page_room.proofs.blocks.first_block_taking.Goals as goal

pub returns : goal.returns
returns c =
    let e : c.map.result ≡ option_map (λ x. x) c.place_taking.result = search rules in
    e ∙ option_map_id _ ∙ c.place_taking.ensures ∙ block_position c.args.reserve (24 + c.args.row_len) c.args.pages.now
