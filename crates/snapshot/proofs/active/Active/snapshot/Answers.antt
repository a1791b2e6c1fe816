use Rattle.std.proofs.Common.{sym, subst, ap, ◌∙◌}
use Rattle.snapshot.specs.Snapshots.{SnapshotFacts, snapshot_at}
use Rattle.snapshot.proofs.Facts.{snapshot_facts}
use Rattle.snapshot.proofs.active.Active.snapshot.Goals as goal

pub returns-clause-taken : goal.returns-clause-taken
returns-clause-taken g c =
    let source = c.args.source.now in
    let m = g.S.StatusSource.meaning source in
    let active = c.args.self.now in
    let value = c.of_window.ensures ∙ ap (snapshot_at c.window-window.result.oldest c.window-window.result.next) c.self.view_is ∙ ap (λ w. snapshot_at w.oldest w.next active) c.window-window.ensures in
    record {
      value = value;
      facts = subst SnapshotFacts (sym value) (snapshot_facts m (g.S.StatusSource.lawful source) active);
    }
