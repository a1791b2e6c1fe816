use Rattle.std.proofs.Common.{rules, ◌≡◌, ap, ◌∙◌}
use Rattle.std.proofs.iter.runs.Made.{chains}
use Rattle.std.specs.List.{fold}
use Rattle.snapshot.specs.Snapshots.{nearest, xmins}
use Rattle.snapshot.proofs.Occupied.{nearer_at, nearest_seen}
use Rattle.snapshot.proofs.places.Places.nearest_xmin.Goals as goal

pub returns-clause-answer : goal.returns-clause-answer
returns-clause-answer c =
    let at = c.self.inside.at in
    let told : c.fold.result ≡ fold (nearer_at c.args.oldest) c.args.first at = search (rules, chains) in
    told ∙ nearest_seen c.args.oldest c.args.first at ∙ ap (λ ps. nearest c.args.oldest c.args.first (xmins ps)) c.self.view_is
