-- The slots of a page whose versions all lie inside it.
use Rattle.std.proofs.Common.{◌≡◌, ℕ, ◌+◌, ◌-◌, ◌<◌, ◌≤◌, Bool, true, false, cond, not, ◌&&◌, eqb, leb, List, Some, None, Option, sym, refl, ap, ◌∙◌, ⊎_elim, arith}
use Rattle.std.specs.Option.{option_map, option_map_or}
use Rattle.std.proofs.lemmas.Option.{cond_some}
use Rattle.std.proofs.lemmas.Bool.{and_parts, and_from, and_right, leb-true, le-leb, lt-leb, cases_Bool, cond-true, cond-false}
use Rattle.page.specs.Headers.{count_of}
use Rattle.page.specs.LinePointers.{pointer_at}
use Rattle.page.specs.Versions.{header_at, version_at, row_of, has_mark}
use Rattle.page.specs.Slots.{Slot, slot_of, slot_no, header_in, header_no, decoded}
use Rattle.page.specs.Slots.Slot.{unused, dead, redirect, holds}
use Rattle.page.specs.declared.line_pointers.Pointer.{Pointer}
use Rattle.page.specs.declared.line_pointers.Pointer.TheVariants.{Unused, Normal, Redirect, Dead}
use Rattle.page.specs.declared.versions.VersionHeader.{VersionHeader}
use Rattle.page.specs.declared.versions.Mark.TheVariants.{HeapOnly}
use Rattle.std.specs.List.{find, range_with_len}
use Rattle.page_check.specs.Rules.{is_heap_only, is_made_by, leads_well}
use Rattle.page_check.specs.Lawful.{among_broken, page_break}
use Rattle.page_check.specs.declared.rules.PageRule.TheVariants.{RedirectTarget}
use Rattle.page_check.specs.declared.rules.Broken.{Broken}
use Rattle.page_check.specs.declared.rules.Broken.TheVariants.{Among}
use Rattle.page_check.proofs.Ranges.{first_list}
use Rattle.page_check.specs.Marking.{Lies, LiesIn, AllLie}

pub slot_no_in : (p : List ℕ) (n : ℕ) → 1 ≤ n → n ≤ count_of p → slot_no p n ≡ slot_of p (pointer_at p n)
slot_no_in p n a b =
    cond-true (leb 1 n && leb n (count_of p)) (slot_of p (pointer_at p n)) unused
    (and_from (leb 1 n) (leb n (count_of p)) (le-leb 1 n a) (le-leb n (count_of p) b))

pub slot_no_past : (p : List ℕ) (n : ℕ) → count_of p < n → slot_no p n ≡ unused
slot_no_past p n h =
    cond-false (leb 1 n && leb n (count_of p)) (slot_of p (pointer_at p n)) unused (and_right (leb 1 n) (leb n (count_of p)) (lt-leb n (count_of p) h))

pub lies_no : (p : List ℕ) (n : ℕ) → AllLie p → 1 ≤ n → n ≤ count_of p → LiesIn (pointer_at p n)
lies_no p n lie a b = let e : (n - 1) + 1 ≡ n = omega arith in rw e at (lie (n - 1) (omega arith))

is_there : (h : VersionHeader) → None ≡ Some h → ⊥
is_there h e = let z : ◌≡◌ {A = ℕ} 0 1 = cc in omega arith

-- a version that lies inside has a header
pub has_header : (p : List ℕ) (o n : ℕ) → Lies o n → None ≡ version_at p o → ⊥
has_header p o n l e =
    let h = l.ends in let k = l.holds_kind in
    is_there (header_at p o) (e ∙ cond-true (leb (o + 24) 8192) (Some (header_at p o)) None (le-leb (o + 24) 8192 (omega arith)))

pub has_header_at : (p : List ℕ) (t o n : ℕ) → AllLie p → 1 ≤ t → t ≤ count_of p → Normal o n ≡ pointer_at p t → None ≡ version_at p o → ⊥
has_header_at p t o n lie a b e = let l : Lies o n = rw (sym e) at (lies_no p t lie a b) in has_header p o n l

-- a number with no version has a slot with none
module _ (F : Slot → Bool) (no : F unused ≡ false) (no_dead : F dead ≡ false) (no_redirect : (t : ℕ) → F (redirect t) ≡ false) where
  bare_slot : (p : List ℕ) (x : Pointer) → LiesIn x → None ≡ header_in p x → F (slot_of p x) ≡ false
  bare_slot p Unused l e = no
  bare_slot p Dead l e = no_dead
  bare_slot p (Redirect t) l e = no_redirect t
  bare_slot p (Normal o n) l e = absurd (has_header p o n l e)

  pub bare_slot_no : (p : List ℕ) (n : ℕ) → AllLie p → None ≡ header_no p n → false ≡ F (slot_no p n)
  bare_slot_no p n lie e =
      ⊎_elim
      (λ (h : (leb 1 n && leb n (count_of p)) ≡ true).
      let both = and_parts (leb 1 n) (leb n (count_of p)) h in
      let a = leb-true 1 n both.0 in let b = leb-true n (count_of p) both.1 in
      sym (ap F (slot_no_in p n a b)
      ∙ bare_slot p (pointer_at p n) (lies_no p n lie a b) (e ∙ cond-true (leb 1 n && leb n (count_of p)) (header_in p (pointer_at p n)) None h)))
      (λ (h : (leb 1 n && leb n (count_of p)) ≡ false). sym (ap F (cond-false (leb 1 n && leb n (count_of p)) (slot_of p (pointer_at p n)) unused h) ∙ no))
      (cases_Bool (leb 1 n && leb n (count_of p)))

  -- a test of the header of a number's version, where there is one, is the test of its slot
  header_slot_no : (G : VersionHeader → Bool) → ((v : VersionHeader) (row : List ℕ) → F (holds (decoded v row)) ≡ G v)
      → (p : List ℕ) (n : ℕ) → AllLie p → option_map_or G (header_no p n) false ≡ F (slot_no p n)
  header_slot_no G same p n lie = go (header_no p n) refl
    where
      there : (x : Pointer) (v : VersionHeader) → header_in p x ≡ Some v → G v ≡ F (slot_of p x)
      there Unused v e = absurd (is_there v e)
      there Dead v e = absurd (is_there v e)
      there (Redirect t) v e = absurd (is_there v e)
      there (Normal o k) v e = sym (same v (row_of p o k)) ∙ ap (λ (w : VersionHeader). F (holds (decoded w (row_of p o k)))) (sym (cond_some (leb (o + 24) 8192) (header_at p o) v e).1)

      go : (o : Option VersionHeader) → o ≡ header_no p n → option_map_or G o false ≡ F (slot_no p n)
      go None e = bare_slot_no p n lie e
      go (Some v) e =
          ⊎_elim
          (λ (h : (leb 1 n && leb n (count_of p)) ≡ true).
          there (pointer_at p n) v (sym (e ∙ cond-true (leb 1 n && leb n (count_of p)) (header_in p (pointer_at p n)) None h))
          ∙ ap F (sym (cond-true (leb 1 n && leb n (count_of p)) (slot_of p (pointer_at p n)) unused h)))
          (λ (h : (leb 1 n && leb n (count_of p)) ≡ false).
          absurd (is_there v (sym (e ∙ cond-false (leb 1 n && leb n (count_of p)) (header_in p (pointer_at p n)) None h))))
          (cases_Bool (leb 1 n && leb n (count_of p)))

pub heap_only_no : (p : List ℕ) (n : ℕ) → AllLie p → is_heap_only (slot_no p n) ≡ option_map_or (λ v. has_mark v HeapOnly) (header_no p n) false
heap_only_no p n lie = sym (header_slot_no is_heap_only refl refl (λ t. refl) (λ v. has_mark v HeapOnly) (λ v row. refl) p n lie)

pub made_by_no : (x : ℕ) (p : List ℕ) (n : ℕ) → AllLie p
    → is_made_by x (slot_no p n) ≡ option_map_or (λ v. has_mark v HeapOnly && eqb v.creator x) (header_no p n) false
made_by_no x p n lie =
    sym (header_slot_no (is_made_by x) refl refl (λ t. refl) (λ v. has_mark v HeapOnly && eqb v.creator x) (λ v row. refl) p n lie)

breaks : (b : Bool) (x : Broken) → cond (not b) (Some x) None ≡ cond b None (Some x)
breaks true x = refl
breaks false x = refl

-- the first redirect that does not lead well breaks its rule first
pub stray_broken : (b : ℕ) (p : List ℕ) → among_broken b p RedirectTarget
    ≡ option_map (λ k. Among k RedirectTarget) (find (λ k. not (leads_well (slot_no p) (slot_of p (pointer_at p k)))) (range_with_len 1 (count_of p)))
stray_broken b p =
    sym (first_list (page_break b p RedirectTarget) (λ k. not (leads_well (slot_no p) (slot_of p (pointer_at p k)))) (λ k. Among k RedirectTarget) (count_of p)
    (λ k l m. rw (slot_no_in p k l m) (breaks (leads_well (slot_no p) (slot_of p (pointer_at p k))) (Among k RedirectTarget))))
