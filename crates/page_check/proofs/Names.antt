-- Names of heap-only versions, and what the pass over them finds.
use Rattle.std.proofs.Common.{◌≡◌, ℕ, zero, suc, ◌+◌, ◌-◌, ◌<◌, ◌≤◌, Bool, true, false, not, ◌&&◌, ◌||◌, eqb, ◌≢◌, List, length, get_or, set, IfSome, unwrap_or, Some, None, Option, sym, refl, ap, ◌∙◌, ⊎_elim, arith}
use Rattle.std.proofs.lemmas.List.{get_or-set_same, get_or-set_other}
use Rattle.std.proofs.lemmas.Bool.{and_parts, and_from, or_cases, eqb-true, cases_Bool, cases_eq, cases_lt, not-true, not-false, not_from_false, not_from_true, both_ways, or_from, or_parts, or_left, or_right, eq-eqb, ne_eqb}
use Rattle.page.specs.Headers.{count_of}
use Rattle.page.specs.LinePointers.{pointer_at}
use Rattle.page.specs.Slots.{Slot, slot_of, slot_no}
use Rattle.page.specs.Slots.Slot.{unused, dead, redirect, holds}
use Rattle.page_check.specs.All.{any_to, first_to}
use Rattle.page_check.specs.Rules.{is_heap_only, is_made_by, some_name, name_of, other_name}
use Rattle.page_check.specs.Lawful.{page_break}
use Rattle.page_check.specs.Marking.{name_free, name_taken}
use Rattle.page_check.specs.declared.rules.PageRule.TheVariants.{NamedOnce}
use Rattle.page_check.specs.declared.rules.Broken.TheVariants.{Among}
use Rattle.page_check.proofs.All.{each_before, first_to_more, first_to_hit}
use Rattle.page_check.proofs.Marks.{Shows, marks_more, marks_free, marks_busy}
use Rattle.page_check.proofs.Cells.{break_none, break_some}
use Rattle.page_check.proofs.Slots.{slot_no_in, slot_no_past}

-- A name is that of a pointer of the page.

-- what is not so of an unused slot is so of no number past the last
small_since : (F : Slot → Bool) (p : List ℕ) (t : ℕ) → F unused ≡ false → F (slot_no p t) ≡ true → t ≤ count_of p
small_since F p t never h =
    ⊎_elim (λ (z : count_of p < t). absurd (both_ways (F (slot_no p t)) (ap F (slot_no_past p t z) ∙ never) h)) (λ z. z) (cases_lt (count_of p) t)

pub name_small : (b : ℕ) (p : List ℕ) (s : Slot) → name_of b (slot_no p) s ≤ count_of p
name_small b p unused = omega arith
name_small b p dead = omega arith
name_small b p (redirect t) =
    ⊎_elim
    (λ (h : is_heap_only (slot_no p t) ≡ true). rw h (small_since is_heap_only p t refl h))
    (λ (h : is_heap_only (slot_no p t) ≡ false). rw h (omega arith))
    (cases_Bool (is_heap_only (slot_no p t)))
name_small b p (holds v) =
    ⊎_elim
    (λ (h : (v.hot_updated && eqb v.ctid.block b && is_made_by v.remover (slot_no p v.ctid.pointer)) ≡ true).
    rw h (small_since (is_made_by v.remover) p v.ctid.pointer refl
    (and_parts (v.hot_updated && eqb v.ctid.block b) (is_made_by v.remover (slot_no p v.ctid.pointer)) h).1))
    (λ (h : (v.hot_updated && eqb v.ctid.block b && is_made_by v.remover (slot_no p v.ctid.pointer)) ≡ false). rw h (omega arith))
    (cases_Bool (v.hot_updated && eqb v.ctid.block b && is_made_by v.remover (slot_no p v.ctid.pointer)))

-- The marks: the name t covers the number x.

abbrev is_name : ℕ → ℕ → Bool
is_name t x = not (eqb x 0) && eqb t x

name_here : (t : ℕ) → (t ≡ 0 → ⊥) → is_name t t ≡ true
name_here t n = and_from (not (eqb t 0)) (eqb t t) (not_from_false (eqb t 0) (ne_eqb t 0 n)) (eq-eqb t t refl)

name_is : (t x : ℕ) → is_name t x ≡ true → (t ≡ x) × (x ≡ 0 → ⊥)
name_is t x h =
    let both = and_parts (not (eqb x 0)) (eqb t x) h in
    (eqb-true t x both.1, λ q. both_ways (eqb x 0) (not-true (eqb x 0) both.0) (eq-eqb x 0 q))

taken_name : (ns : List Bool) (t x : ℕ) → length ns ≡ 292 → t ≤ 291 → x < 292 → get_or ns 0 false ≡ false → get_or (name_taken ns t) x false ≡ (is_name t x || get_or ns x false)
taken_name ns t x len l b z =
    ⊎_elim
    (λ (e : t ≡ 0). ⊎_elim (λ (d : x ≡ 0). rw (e, d)) (λ (d : x ≡ 0 → ⊥). rw e (rw (ne_eqb 0 x (λ q. d (sym q))) (rw (ne_eqb x 0 d) refl))) (cases_eq x 0))
    (λ (e : t ≡ 0 → ⊥). rw (ne_eqb t 0 e)
    (⊎_elim
    (λ (d : t ≡ x). rw (eq-eqb t x d) (rw (ne_eqb x 0 (λ q. e (d ∙ q))) (ap (λ (y : ℕ). get_or (set ns t true) y false) (sym d) ∙ get_or-set_same ns t true false (omega arith))))
    (λ (d : t ≡ x → ⊥). let n : x ≢ t = λ q. d (sym q) in rw (ne_eqb t x d) (get_or-set_other ns t x true false n ∙ grind arith))
    (cases_eq t x)))
    (cases_eq t 0)

other_true : (s t : ℕ) → s < 292 → ((x : ℕ) → x < 292 → is_name s x ≡ true → is_name t x ≡ false) → other_name s t ≡ true
other_true s t l h =
    ⊎_elim
    (λ (e : s ≡ 0). or_left (eqb s 0) (not (eqb s t)) (eq-eqb s 0 e))
    (λ (e : s ≡ 0 → ⊥).
    let no = h s l (name_here s e) in
    or_right (eqb s 0) (not (eqb s t)) (not_from_false (eqb s t) (ne_eqb s t (λ q. both_ways (is_name t s) no (and_from (not (eqb s 0)) (eqb t s) (not_from_false (eqb s 0) (ne_eqb s 0 e)) (eq-eqb t s (sym q)))))))
    (cases_eq s 0)

other_false : (s t x : ℕ) → is_name s x ≡ true → is_name t x ≡ true → other_name s t ≡ false
other_false s t x h g =
    let a = name_is s x h in let b = name_is t x g in
    or_from (eqb s 0) (not (eqb s t)) (ne_eqb s 0 (λ q. a.1 (sym a.0 ∙ q))) (not_from_true (eqb s t) (eq-eqb s t (a.0 ∙ sym b.0)))

free_name : (ns : List Bool) (t : ℕ) → name_free ns t ≡ true → (x : ℕ) → is_name t x ≡ true → get_or ns x false ≡ false
free_name ns t h x e =
    let a = name_is t x e in
    ⊎_elim
    (λ (z : eqb t 0 ≡ true). absurd (a.1 (sym a.0 ∙ eqb-true t 0 z)))
    (λ (z : not (get_or ns t false) ≡ true). ap (λ (y : ℕ). get_or ns y false) (sym a.0) ∙ not-true (get_or ns t false) z)
    (or_cases (eqb t 0) (not (get_or ns t false)) h)

busy_name : (ns : List Bool) (t : ℕ) → name_free ns t ≡ false → (is_name t t ≡ true) × (get_or ns t false ≡ true)
busy_name ns t h =
    let both = or_parts (eqb t 0) (not (get_or ns t false)) h in
    (name_here t (λ q. both_ways (eqb t 0) both.0 (eq-eqb t 0 q)), not-false (get_or ns t false) both.1)

-- The pass, in plain variables.

-- what the pointer k + 1 names
abbrev pub named : ℕ → List ℕ → ℕ → ℕ
named b p k = name_of b (slot_no p) (slot_no p (k + 1))

abbrev pub says : ℕ → List ℕ → ℕ → ℕ → Bool
says b p k x = is_name (named b p k) x

none_zero : (b : ℕ) (p : List ℕ) (i : ℕ) → any_to (λ k. says b p k 0) i ≡ false
none_zero b p zero = refl
none_zero b p (suc i) = none_zero b p i

module _ (b : ℕ) (p : List ℕ) (few : count_of p ≤ 291) (i : ℕ) (ns : List Bool) (shows : Shows (says b p) 292 i ns) where
  abbrev differs : ℕ → Bool
  differs j = other_name (named b p i) (named b p j)

  small : named b p i ≤ 291
  small = let h = name_small b p (slot_no p (i + 1)) in omega arith

  pub names_none : (ms : List Bool) → length ns ≡ 292 → first_to (page_break b p NamedOnce) i ≡ None
      → true ≡ name_free ns (named b p i) → ms ≡ name_taken ns (named b p i)
      → (first_to (page_break b p NamedOnce) (i + 1) ≡ None) × Shows (says b p) 292 (i + 1) ms
  names_none ms len before f e =
      let le = small in (
        first_to_more (page_break b p NamedOnce) i before
            (break_none b p NamedOnce (i + 1)
            (each_before (λ j. other_name (named b p i) (name_of b (slot_no p) (slot_no p j))) i
            ∙ marks_free (says b p) 292 differs i ns shows (λ x l. free_name ns (named b p i) (sym f) x)
            (λ j m no. other_true (named b p i) (named b p j) (omega arith) no))),
        marks_more (says b p) 292 i ns ms shows
            (λ x l. ap (λ (d : List Bool). get_or d x false) e ∙ taken_name ns (named b p i) x len le l (shows 0 (omega arith) ∙ none_zero b p i)),
      )

  pub names_some : i < count_of p → first_to (page_break b p NamedOnce) i ≡ None → false ≡ name_free ns (named b p i)
      → Some (Among (i + 1) NamedOnce) ≡ first_to (page_break b p NamedOnce) (count_of p)
  names_some l before f =
      let le = small in
      let r = busy_name ns (named b p i) (sym f) in
      first_to_hit (page_break b p NamedOnce) i (count_of p) (Some (Among (i + 1) NamedOnce)) before l
      (break_some b p NamedOnce (i + 1)
      (each_before (λ j. other_name (named b p i) (name_of b (slot_no p) (slot_no p j))) i
      ∙ marks_busy (says b p) 292 differs i ns shows (named b p i) (omega arith) r.0 r.1
      (λ j m x y. other_false (named b p i) (named b p j) (named b p i) x y)))
      refl

-- What the code finds at a number.

some_is : (t : ℕ) → unwrap_or (some_name t) 0 ≡ t
some_is zero = refl
some_is (suc t) = refl

module _ (b : ℕ) (p : List ℕ) (n : ℕ) (r : Option ℕ) where
  pub name_at : 1 ≤ n → n ≤ count_of p → r ≡ some_name (name_of b (slot_no p) (slot_of p (pointer_at p n))) → unwrap_or r 0 ≡ named b p (n - 1)
  name_at one last e =
      let k : n ≡ n - 1 + 1 = omega arith in
      ap (λ (o : Option ℕ). unwrap_or o 0) e ∙ some_is (name_of b (slot_no p) (slot_of p (pointer_at p n)))
      ∙ ap (name_of b (slot_no p)) (sym (slot_no_in p n one last)) ∙ ap (λ (m : ℕ). name_of b (slot_no p) (slot_no p m)) k

  pub name_fits : count_of p ≤ 291 → 1 ≤ n → n ≤ count_of p → r ≡ some_name (name_of b (slot_no p) (slot_of p (pointer_at p n))) → IfSome r (λ t. (1 ≤ t) × (t ≤ 291))
  name_fits few one last e = rw e (fits (name_of b (slot_no p) (slot_of p (pointer_at p n))) (name_small b p (slot_of p (pointer_at p n))))
    where
      fits : (t : ℕ) → t ≤ count_of p → IfSome (some_name t) (λ t. (1 ≤ t) × (t ≤ 291))
      fits zero l = tt
      fits (suc t) l = (omega arith, omega arith)
