use Rattle.std.proofs.Common.{set, ap, ◌∙◌}
use Rattle.std.specs.Option.{option_map}
use Rattle.snapshot.specs.Snapshots.{data_of}
use Rattle.snapshot.proofs.Occupied.{put_at_lem}
use Rattle.snapshot.proofs.places.Places.put.Goals as goal

pub returns-then-place-lt-COUNT : goal.returns-then-place-lt-COUNT
returns-then-place-lt-COUNT c =
    put_at_lem c.self.inside.at c.args.place c.args.snapshot ∙ ap (λ ps. set ps c.args.place (option_map data_of c.args.snapshot)) c.self.view_is
