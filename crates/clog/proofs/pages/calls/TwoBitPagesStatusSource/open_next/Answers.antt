use Rattle.std.proofs.Common.{◌≡◌, false, rules, sym, ◌∙◌}
use Rattle.clog.specs.Sound.{full_at}
use Rattle.clog.proofs.Changes.{opened_sound}
use Rattle.clog.proofs.pages.calls.TwoBitPagesStatusSource.open_next.Goals as goal

pub invariant_of-self : goal.invariant_of-self
invariant_of-self c =
    let p = c.args.self.now in
    let room : full_at p.memory.now p.window.oldest p.window.next ≡ false = sym c.is_full.ensures ∙ c.if-is_full.false in
    record { sound = opened_sound p.memory.now _ p.window.oldest p.window.next _ (search rules) (search rules) p.sound room }
