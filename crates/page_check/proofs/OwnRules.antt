-- The rules of a line pointer and its version by themselves.
use Rattle.std.proofs.Common.{◌≡◌, ℕ, ◌+◌, Bool, true, false, cond, leb, List, Some, None, Option, sym, ap, ◌∙◌}
use Rattle.std.specs.Option.{option_or, option_map}
use Rattle.page.specs.Versions.{header_at, version_at}
use Rattle.page.specs.declared.kinds.Kind.{Kind}
use Rattle.page.specs.declared.line_pointers.State.{State}
use Rattle.page.specs.declared.line_pointers.State.TheVariants as state
use Rattle.page.specs.declared.line_pointers.LinePointer.{LinePointer}
use Rattle.page.specs.declared.versions.VersionHeader.{VersionHeader}
use Rattle.page_check.specs.All.{first_of}
use Rattle.page_check.specs.Rules.{pointer_holds, pointer_rules, version_holds, version_rules}
use Rattle.page_check.specs.Lawful.{own_break}
use Rattle.page_check.specs.declared.rules.PointerRule.{PointerRule}
use Rattle.page_check.specs.declared.rules.VersionRule.{VersionRule}
use Rattle.page_check.specs.declared.rules.Broken.TheVariants.{AtPointer, InVersion}

the_header : (b : Bool) (v w : VersionHeader) → Some v ≡ cond b (Some w) None → v ≡ w
the_header true v w e = cc
the_header false v w e = cc

-- where the rules of the pointer hold, those of its version decide
pub own_version : (kinds : List Kind) (p : List ℕ) (n : ℕ) (l m : LinePointer) (v : VersionHeader) (x : Option VersionRule)
    → l ≡ m → None ≡ first_of (pointer_holds kinds p l) (pointer_rules l.state) → l.state ≡ state.Normal
    → Some v ≡ version_at p l.offset → x ≡ first_of (version_holds v) (version_rules state.Normal)
    → option_map (InVersion n) x ≡ own_break kinds p n m
own_version kinds p n l m v x e h s a b =
    let here : x ≡ first_of (version_holds (header_at p l.offset)) (version_rules l.state)
    = b ∙ ap (λ (w : VersionHeader). first_of (version_holds w) (version_rules state.Normal)) (the_header (leb (l.offset + 24) 8192) v (header_at p l.offset) a)
    ∙ ap (λ (t : State). first_of (version_holds (header_at p l.offset)) (version_rules t)) (sym s) in
    ap (option_map (InVersion n)) here
    ∙ ap (λ (o : Option PointerRule). option_or (option_map (AtPointer n) o) (option_map (InVersion n) (first_of (version_holds (header_at p l.offset)) (version_rules l.state)))) h
    ∙ ap (own_break kinds p n) e
