-- The cells of versions, and what the pass over them finds.
use Rattle.std.proofs.Common.{◌≡◌, ℕ, zero, suc, ◌+◌, ◌-◌, ◌*◌, ◌/◌, ◌<◌, ◌≤◌, Bool, true, false, not, ◌&&◌, ◌||◌, ltb, leb, List, length, get_or, take, drop, replicate, Some, None, sym, refl, ap, ◌∙◌, ⊎_elim, add-one, arith}
use Rattle.std.specs.List.{list_all}
use Rattle.std.proofs.Math.Bool.{and_comm}
use Rattle.std.proofs.lemmas.List.Folds.{list_all_more}
use borrow.Rule.Slice.PartMut.{put_mid}
use Rattle.std.proofs.lemmas.List.{places, get_or-replicate, get_or-drop, get_or_past, take_all}
use Rattle.std.proofs.lemmas.Bool.{and_parts, and_from, leb-true, le-leb, lt-leb, lt-ltb, le-ltb, ltb-true, cases_lt, not-true, not-false, both_ways, or_from, cond-true, cond-false}
use Rattle.std.proofs.lemmas.Bool.Decides.{nat_tests}
use Rattle.page.specs.Headers.{count_of}
use Rattle.page.specs.LinePointers.{pointer_at}
use Rattle.page.specs.declared.line_pointers.Pointer.{Pointer}
use Rattle.page.specs.declared.line_pointers.Pointer.TheVariants.{Unused, Normal, Redirect, Dead}
use Rattle.page_check.specs.All.{all_to, first_to}
use Rattle.page_check.specs.Rules.{apart, page_holds}
use Rattle.page_check.specs.Lawful.{page_break}
use Rattle.page_check.specs.Marking.{LiesIn, AllLie, covers, cells_free, cells_taken}
use Rattle.page_check.specs.declared.rules.PageRule.{PageRule}
use Rattle.page_check.specs.declared.rules.PageRule.TheVariants.{NoOverlap}
use Rattle.page_check.specs.declared.rules.Broken.TheVariants.{Among}
use Rattle.page_check.proofs.All.{all_to_at, all_to_miss, each_before, first_to_more, first_to_hit}
use Rattle.page_check.proofs.Marks.{Shows, marks_more, marks_free, marks_busy}

-- two versions that share no cell lie apart
free_apart : (x y : Pointer) → LiesIn x → LiesIn y → ((k : ℕ) → k < 1024 → covers x k ≡ true → covers y k ≡ false) → apart x y ≡ true
free_apart Unused y a b h = refl
free_apart (Redirect t) y a b h = refl
free_apart Dead y a b h = refl
free_apart (Normal o n) Unused a b h = refl
free_apart (Normal o n) (Redirect t) a b h = refl
free_apart (Normal o n) Dead a b h = refl
free_apart (Normal o n) (Normal o' n') a b h =
    let a1 = a.aligned in let a2 = a.ends in let a3 = a.holds_kind in
    let b1 = b.aligned in let b2 = b.ends in let b3 = b.holds_kind in
    ⊎_elim
    (λ (z : o < o'). let no = h (o' / 8) (omega arith) in grind (arith, nat_tests))
    (λ (z : o' ≤ o).
    let no = h (o / 8) (omega arith) (and_from (leb (o / 8) (o / 8)) (ltb (o / 8) ((o + n + 7) / 8)) (le-leb (o / 8) (o / 8) (omega arith)) (lt-ltb (o / 8) ((o + n + 7) / 8) (omega arith))) in
    grind (arith, nat_tests))
    (cases_lt o o')

-- what it is to cover a cell
cover_tells : (o n k : ℕ) → covers (Normal o n) k ≡ true → (o / 8 ≤ k) × (k < (o + n + 7) / 8)
cover_tells o n k h =
    let both = and_parts (leb (o / 8) k) (ltb k ((o + n + 7) / 8)) h in
    (leb-true (o / 8) k both.0, ltb-true k ((o + n + 7) / 8) both.1)

-- two versions that share a cell do not
share_meet : (x y : Pointer) (k : ℕ) → LiesIn x → LiesIn y → covers x k ≡ true → covers y k ≡ true → apart x y ≡ false
share_meet Unused y k a b h g = absurd (both_ways false refl h)
share_meet (Redirect t) y k a b h g = absurd (both_ways false refl h)
share_meet Dead y k a b h g = absurd (both_ways false refl h)
share_meet (Normal o n) Unused k a b h g = absurd (both_ways false refl g)
share_meet (Normal o n) (Redirect t) k a b h g = absurd (both_ways false refl g)
share_meet (Normal o n) Dead k a b h g = absurd (both_ways false refl g)
share_meet (Normal o n) (Normal o' n') k a b h g =
    let a1 = a.aligned in let b1 = b.aligned in
    let hs = cover_tells o n k h in let gs = cover_tells o' n' k g in
    let h1 = hs.0 in let h2 = hs.1 in let g1 = gs.0 in let g2 = gs.1 in
    or_from (leb ((o + n + 7) / 8 * 8) o') (leb ((o' + n' + 7) / 8 * 8) o) (lt-leb ((o + n + 7) / 8 * 8) o' (omega arith)) (lt-leb ((o' + n' + 7) / 8 * 8) o (omega arith))

-- what the taking of cells leaves
fill_at : (cs : List Bool) (a e x : ℕ) → length cs ≡ 1024 → a ≤ e → e ≤ 1024 → x < 1024 → get_or (put_mid a (e - a) cs (replicate (e - a) true)) x false ≡ ((leb a x && ltb x e) || get_or cs x false)
fill_at cs a e x len le to b =
    ⊎_elim
    (λ (z : x < a). let k : leb a x ≡ false = lt-leb a x z in grind (arith, places))
    (λ (z : a ≤ x). ⊎_elim
    (λ (y : x < e).
    let k : leb a x ≡ true = le-leb a x z in
    let l : ltb x e ≡ true = lt-ltb x e y in
    let i : x - a < e - a = omega arith in
    let r : get_or (replicate (e - a) true) (x - a) false ≡ true = get_or-replicate (e - a) (x - a) true false i in
    grind (arith, places))
    (λ (y : e ≤ x). let l : ltb x e ≡ false = le-ltb x e y in grind (arith, places))
    (cases_lt x e))
    (cases_lt x a)

taken_at : (cs : List Bool) (x : Pointer) (k : ℕ) → length cs ≡ 1024 → LiesIn x → k < 1024 → get_or (cells_taken cs x) k false ≡ (covers x k || get_or cs k false)
taken_at cs Unused k len i b = refl
taken_at cs (Redirect t) k len i b = refl
taken_at cs Dead k len i b = refl
taken_at cs (Normal o n) k len i b =
    let i1 = i.ends in let i2 = i.holds_kind in fill_at cs (o / 8) ((o + n + 7) / 8) k len (omega arith) (omega arith) b

-- the cells of a version one by one; those past the end count as free
free_cells : (cs : List Bool) (a m : ℕ) → list_all not (take m (drop a cs)) ≡ all_to (λ k. not (get_or cs (a + k) false)) m
free_cells cs a zero = refl
free_cells cs a (suc m) =
    let before = free_cells cs a m in
    let here = get_or-drop a cs m false in
    ⊎_elim
    (λ (l : m < length (drop a cs)). ap (λ (k : ℕ). list_all not (take k (drop a cs))) (sym (add-one m)) ∙ list_all_more not (drop a cs) m false l ∙ rw here (rw before (and_comm (all_to (λ k. not (get_or cs (a + k) false)) m) (not (get_or cs (a + m) false)))))
    (λ (l : length (drop a cs) ≤ m).
    let past : get_or cs (a + m) false ≡ false = sym here ∙ get_or_past (drop a cs) m false l in
    ap (list_all not) (take_all (suc m) (drop a cs) (omega arith) ∙ sym (take_all m (drop a cs) l)) ∙ before ∙ rw past refl)
    (cases_lt m (length (drop a cs)))

-- the cells of a version were free
free_at : (cs : List Bool) (x : Pointer) → cells_free cs x ≡ true → (k : ℕ) → k < 1024 → covers x k ≡ true → get_or cs k false ≡ false
free_at cs Unused h k b e = absurd (both_ways false refl e)
free_at cs (Redirect t) h k b e = absurd (both_ways false refl e)
free_at cs Dead h k b e = absurd (both_ways false refl e)
free_at cs (Normal o n) h k b e =
    let es = cover_tells o n k e in let e1 = es.0 in let e2 = es.1 in
    let q : o / 8 + (k - o / 8) ≡ k = omega arith in
    not-true (get_or cs k false) (rw q at (all_to_at (λ k. not (get_or cs (o / 8 + k) false)) ((o + n + 7) / 8 - o / 8) (k - o / 8) (sym (free_cells cs (o / 8) ((o + n + 7) / 8 - o / 8)) ∙ h) (omega arith)))

-- or one of them was not
busy_at : (cs : List Bool) (x : Pointer) → LiesIn x → cells_free cs x ≡ false → (k : ℕ) × (k < 1024) × (covers x k ≡ true) × (get_or cs k false ≡ true)
busy_at cs Unused i h = absurd (both_ways true h refl)
busy_at cs (Redirect t) i h = absurd (both_ways true h refl)
busy_at cs Dead i h = absurd (both_ways true h refl)
busy_at cs (Normal o n) i h =
    let i1 = i.ends in
    let r = all_to_miss (λ k. not (get_or cs (o / 8 + k) false)) ((o + n + 7) / 8 - o / 8) (sym (free_cells cs (o / 8) ((o + n + 7) / 8 - o / 8)) ∙ h) in
    let l = r.1 in (
      o / 8 + r.0,
      omega arith,
      and_from (leb (o / 8) (o / 8 + r.0)) (ltb (o / 8 + r.0) ((o + n + 7) / 8)) (le-leb (o / 8) (o / 8 + r.0) (omega arith)) (lt-ltb (o / 8 + r.0) ((o + n + 7) / 8) (omega arith)),
      not-false (get_or cs (o / 8 + r.0) false) r.2,
    )

-- a rule among the pointers, by its test
pub break_none : (b : ℕ) (p : List ℕ) (r : PageRule) (n : ℕ) → page_holds b p n r ≡ true → page_break b p r n ≡ None
break_none b p r n h = cond-true (page_holds b p n r) None (Some (Among n r)) h

pub break_some : (b : ℕ) (p : List ℕ) (r : PageRule) (n : ℕ) → page_holds b p n r ≡ false → Some (Among n r) ≡ page_break b p r n
break_some b p r n h = sym (cond-false (page_holds b p n r) None (Some (Among n r)) h)

-- The pass, in plain variables.

abbrev pub cov : List ℕ → ℕ → ℕ → Bool
cov p k x = covers (pointer_at p (k + 1)) x

module _ (p : List ℕ) (lie : AllLie p) (i : ℕ) (inside : i < count_of p) (cs : List Bool) (shows : Shows (cov p) 1024 i cs) where
  abbrev meets : ℕ → Bool
  meets j = apart (pointer_at p (i + 1)) (pointer_at p (j + 1))

  pub overlap_none : (ds : List Bool) → length cs ≡ 1024 → first_to (page_break 0 p NoOverlap) i ≡ None
      → true ≡ cells_free cs (pointer_at p (i + 1)) → ds ≡ cells_taken cs (pointer_at p (i + 1))
      → (first_to (page_break 0 p NoOverlap) (i + 1) ≡ None) × Shows (cov p) 1024 (i + 1) ds
  overlap_none ds len before f e = (
    first_to_more (page_break 0 p NoOverlap) i before
        (break_none 0 p NoOverlap (i + 1)
        (each_before (λ j. apart (pointer_at p (i + 1)) (pointer_at p j)) i
        ∙ marks_free (cov p) 1024 meets i cs shows (free_at cs (pointer_at p (i + 1)) (sym f))
        (λ j m no. free_apart (pointer_at p (i + 1)) (pointer_at p (j + 1)) (lie i inside) (lie j (omega arith)) no))),
    marks_more (cov p) 1024 i cs ds shows
        (λ x b. ap (λ (d : List Bool). get_or d x false) e ∙ taken_at cs (pointer_at p (i + 1)) x len (lie i inside) b),
  )

  pub overlap_some : first_to (page_break 0 p NoOverlap) i ≡ None → false ≡ cells_free cs (pointer_at p (i + 1))
      → Some (Among (i + 1) NoOverlap) ≡ first_to (page_break 0 p NoOverlap) (count_of p)
  overlap_some before f =
      let r = busy_at cs (pointer_at p (i + 1)) (lie i inside) (sym f) in
      first_to_hit (page_break 0 p NoOverlap) i (count_of p) (Some (Among (i + 1) NoOverlap)) before inside
      (break_some 0 p NoOverlap (i + 1)
      (each_before (λ j. apart (pointer_at p (i + 1)) (pointer_at p j)) i
      ∙ marks_busy (cov p) 1024 meets i cs shows r.0 r.1 r.2 r.3
      (λ j m a b. share_meet (pointer_at p (i + 1)) (pointer_at p (j + 1)) r.0 (lie i inside) (lie j (omega arith)) a b)))
      refl
