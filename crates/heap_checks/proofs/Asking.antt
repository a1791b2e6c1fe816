-- A chain over the numbers of a page asks what a test of its slots asks.
use Rattle.std.proofs.Common.{◌≡◌, ℕ, zero, suc, ◌+◌, ◌≤◌, Bool, true, ◌&&◌, leb, List, [], Some, None, Option, sym, refl, ap, ◌∙◌, arith}
use Rattle.std.proofs.lemmas.Bool.{le-leb, cond-true}
use Rattle.std.specs.Option.{option_map_or}
use Rattle.std.specs.List.{list_all, range_with_len}
use Rattle.page.specs.Headers.{count_of}
use Rattle.page.specs.LinePointers.{pointer_at}
use Rattle.page.specs.Versions.{header_at, row_of}
use Rattle.page.specs.Slots.{Slot, decoded, slot_of, slot_no, header_in}
use Rattle.page.specs.Slots.Slot.{unused, dead, redirect, holds}
use Rattle.page.specs.declared.line_pointers.Pointer.{Pointer}
use Rattle.page.specs.declared.line_pointers.Pointer.TheVariants.{Unused, Normal, Redirect, Dead}
use Rattle.page.specs.declared.versions.VersionHeader.{VersionHeader}
use Rattle.page_check.specs.Marking.{LiesIn, AllLie}
use Rattle.page_check.specs.All.{each}
use Rattle.page_check.proofs.Ranges.{each_list}
use Rattle.page_check.proofs.Slots.{slot_no_in, lies_no}
use Rattle.heap_checks.specs.Numbers.{version_known, slot_known, page_known, slot_needs}

-- what is asked of the header of a number's version, where there is one, is what is asked of its slot
module _ (F : Slot → Bool) (d : Bool) (bare : F unused ≡ d) (bare_dead : F dead ≡ d) (bare_redirect : (t : ℕ) → F (redirect t) ≡ d)
    (f : VersionHeader → Bool) (holding : (v : VersionHeader) (row : List ℕ) → f v ≡ F (holds (decoded v row))) (p : List ℕ) where
  in_header : (x : Pointer) → LiesIn x → option_map_or f (header_in p x) d ≡ F (slot_of p x)
  in_header Unused l = sym bare
  in_header Dead l = sym bare_dead
  in_header (Redirect t) l = sym (bare_redirect t)
  in_header (Normal o n) l =
      let e = l.ends in let k = l.holds_kind in
      ap (λ (v : Option VersionHeader). option_map_or f v d) (cond-true (leb (o + 24) 8192) (Some (header_at p o)) None (le-leb (o + 24) 8192 (omega arith)))
      ∙ holding (header_at p o) (row_of p o n)

each_same : (f g : ℕ → Bool) (n : ℕ) → ((k : ℕ) → 1 ≤ k → k ≤ n → f k ≡ g k) → each f n ≡ each g n
each_same f g zero h = refl
each_same f g (suc n) h =
    ap (λ (b : Bool). b && each f n) (h (n + 1) (omega arith) (omega arith))
    ∙ ap (λ (b : Bool). g (n + 1) && b) (each_same f g n (λ k a l. h k a (omega arith)))

-- all versions of a page are known
pub all_known : (oldest next : ℕ) (p : List ℕ) → AllLie p
    → list_all (λ n. option_map_or (λ v. version_known oldest next (decoded v [])) (header_in p (pointer_at p n)) true) (range_with_len 1 (count_of p))
    ≡ page_known oldest next p
all_known oldest next p lie =
    let known = λ (v : VersionHeader). version_known oldest next (decoded v []) in
    each_list (λ n. option_map_or known (header_in p (pointer_at p n)) true) (count_of p)
    ∙ each_same (λ n. option_map_or known (header_in p (pointer_at p n)) true) (λ n. slot_known oldest next (slot_no p n)) (count_of p)
    (λ n a b. in_header (slot_known oldest next) true refl refl (λ t. refl) known (λ v row. refl) p (pointer_at p n) (lies_no p n lie a b)
    ∙ ap (slot_known oldest next) (sym (slot_no_in p n a b)))

-- what the version of a number needs, its slot needs
pub needs_no : (c : ℕ) (p : List ℕ) (n : ℕ) (r : Bool) → 1 ≤ n → n ≤ count_of p → r ≡ slot_needs c (slot_of p (pointer_at p n)) → r ≡ slot_needs c (slot_no p n)
needs_no c p n r a b e = e ∙ ap (slot_needs c) (sym (slot_no_in p n a b))
