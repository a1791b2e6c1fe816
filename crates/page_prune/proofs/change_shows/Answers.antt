use Rattle.page_prune.proofs.Whole.{change_shows}
use Rattle.page_prune.proofs.change_shows.Goals as goal

pub returns : goal.returns
returns c = change_shows
