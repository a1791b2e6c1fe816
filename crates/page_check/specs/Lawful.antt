-- When a page is lawful, and the rule that it breaks first.
use Rattle.std.specs.Prelude.{◌≡◌, ℕ, Bool, false, cond, ◌&&◌, List, Some, None, Option}
use Rattle.std.specs.Option.{option_or, option_map}
use Rattle.page.specs.Headers.{header_of, count_of}
use Rattle.page.specs.LinePointers.{line_pointer_at}
use Rattle.page.specs.Versions.{header_at}
use Rattle.page.specs.declared.line_pointers.LinePointer.{LinePointer}
use Rattle.page.specs.declared.kinds.Kind.{Kind}
use Rattle.page_check.specs.All.{each, first_to, all_of, first_of}
use Rattle.page_check.specs.Rules.{header_holds, header_rules, pointer_holds, pointer_rules, version_holds, version_rules, page_holds}
use Rattle.page_check.specs.declared.rules.PageRule.{PageRule}
use Rattle.page_check.specs.declared.rules.PageRule.TheVariants.{NoOverlap, RedirectTarget, NamedOnce}
use Rattle.page_check.specs.declared.rules.Broken.{Broken}
use Rattle.page_check.specs.declared.rules.Broken.TheVariants.{InHeader, AtPointer, InVersion, Among}

-- the rules of the line pointer l and its version alone
abbrev pub own_holds : List Kind → List ℕ → LinePointer → Bool
own_holds kinds p l =
    all_of (pointer_holds kinds p l) (pointer_rules l.state) && all_of (version_holds (header_at p l.offset)) (version_rules l.state)

-- the page of block b is lawful
abbrev pub is_lawful : List Kind → ℕ → List ℕ → Bool
is_lawful kinds b p =
    all_of (header_holds (header_of p)) header_rules
    && each (λ n. own_holds kinds p (line_pointer_at p n)) (count_of p)
    && each (λ n. page_holds b p n NoOverlap) (count_of p)
    && each (λ n. page_holds b p n RedirectTarget) (count_of p)
    && each (λ n. page_holds b p n NamedOnce) (count_of p)

-- the first rule that the pointer n breaks by itself
abbrev pub own_break : List Kind → List ℕ → ℕ → LinePointer → Option Broken
own_break kinds p n l =
    option_or
    (option_map (AtPointer n) (first_of (pointer_holds kinds p l) (pointer_rules l.state)))
    (option_map (InVersion n) (first_of (version_holds (header_at p l.offset)) (version_rules l.state)))

-- the rule r, where the pointer n breaks it
abbrev pub page_break : ℕ → List ℕ → PageRule → ℕ → Option Broken
page_break b p r n = cond (page_holds b p n r) None (Some (Among n r))

-- the first broken rule of the header
abbrev pub header_broken : List ℕ → Option Broken
header_broken p = option_map InHeader (first_of (header_holds (header_of p)) header_rules)

-- that of the pointers by themselves, pointer by pointer
abbrev pub own_broken : List Kind → List ℕ → Option Broken
own_broken kinds p = first_to (λ n. own_break kinds p n (line_pointer_at p n)) (count_of p)

-- the first pointer that breaks the rule r among the others
abbrev pub among_broken : ℕ → List ℕ → PageRule → Option Broken
among_broken b p r = first_to (page_break b p r) (count_of p)

-- the first broken rule of the page of block b
abbrev pub first_broken : List Kind → ℕ → List ℕ → Option Broken
first_broken kinds b p =
    option_or (header_broken p)
    (option_or (own_broken kinds p)
    (option_or (among_broken b p NoOverlap)
    (option_or (among_broken b p RedirectTarget)
    (among_broken b p NamedOnce))))

-- what a report says: the rule does not hold at its place
abbrev pub Fails : List Kind → ℕ → List ℕ → Broken → Type 0
Fails kinds b p (InHeader r) = header_holds (header_of p) r ≡ false
Fails kinds b p (AtPointer n r) = pointer_holds kinds p (line_pointer_at p n) r ≡ false
Fails kinds b p (InVersion n r) = version_holds (header_at p (line_pointer_at p n).offset) r ≡ false
Fails kinds b p (Among n r) = page_holds b p n r ≡ false
