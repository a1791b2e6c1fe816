-- Where the versions come to lie.
use Rattle.std.proofs.Common.{◌≡◌, ℕ, zero, suc, ◌+◌, ◌-◌, ◌*◌, ◌/◌, ◌%◌, ◌<◌, ◌≤◌, true, leb, ◌⊎◌, List, refl, ap, inl, inr, ⊎_elim, arith}
use Rattle.std.proofs.lemmas.Bool.{leb-true, or_cases}
use Rattle.page.specs.Headers.{header_of, count_of}
use Rattle.page.specs.LinePointers.{pointer_at}
use Rattle.page.specs.declared.kinds.Kind.{Kind}
use Rattle.page.specs.declared.line_pointers.Pointer.{Pointer}
use Rattle.page.specs.declared.line_pointers.Pointer.TheVariants.{Unused, Normal, Redirect, Dead}
use Rattle.page_check.specs.Rules.{apart}
use Rattle.page_check.specs.Marking.{LiesIn}
use Rattle.page_compact.specs.Compaction.{size_of, top_to, Packs}
use Rattle.page_compact.proofs.Packing.{sum_to, packing}
use Rattle.page_compact.proofs.Steps.{top_to_more}
use Rattle.page_compact.proofs.Sound.{Sound, PointerKeeps, keeps_at, lies_at, apart_at}

-- where the version of a pointer begins
abbrev start_of : Pointer → ℕ
start_of Unused = 0
start_of (Normal o n) = o
start_of (Redirect t) = 0
start_of Dead = 0

apart_spans : (x y : Pointer) → LiesIn x → LiesIn y → apart x y ≡ true
    → (size_of x ≡ 0) ⊎ ((size_of y ≡ 0) ⊎ ((start_of x + size_of x ≤ start_of y) ⊎ (start_of y + size_of y ≤ start_of x)))
apart_spans Unused y a b h = inl refl
apart_spans (Redirect t) y a b h = inl refl
apart_spans Dead y a b h = inl refl
apart_spans (Normal o n) Unused a b h = inr (inl refl)
apart_spans (Normal o n) (Redirect t) a b h = inr (inl refl)
apart_spans (Normal o n) Dead a b h = inr (inl refl)
apart_spans (Normal o n) (Normal o' n') a b h =
    let a1 = a.aligned in let b1 = b.aligned in
    ⊎_elim
    (λ (z : leb ((o + n + 7) / 8 * 8) o' ≡ true). let y = leb-true ((o + n + 7) / 8 * 8) o' z in inr (inr (inl (omega arith))))
    (λ (z : leb ((o' + n' + 7) / 8 * 8) o ≡ true). let y = leb-true ((o' + n' + 7) / 8 * 8) o z in inr (inr (inr (omega arith))))
    (or_cases (leb ((o + n + 7) / 8 * 8) o') (leb ((o' + n' + 7) / 8 * 8) o) h)

span_above : (kinds : List Kind) (p : List ℕ) (x : Pointer) → PointerKeeps kinds p x → (size_of x ≡ 0) ⊎ ((header_of p).upper ≤ start_of x)
span_above kinds p Unused l = inl refl
span_above kinds p (Redirect t) l = inl refl
span_above kinds p Dead l = inl refl
span_above kinds p (Normal o n) l = inr l.above

span_ends : (x : Pointer) → LiesIn x → (size_of x ≡ 0) ⊎ (start_of x + size_of x ≤ 8192)
span_ends Unused l = inl refl
span_ends (Redirect t) l = inl refl
span_ends Dead l = inl refl
span_ends (Normal o n) l = let a = l.aligned in let b = l.ends in inr (omega arith)

size_aligned : (x : Pointer) → size_of x % 8 ≡ 0
size_aligned Unused = refl
size_aligned (Redirect t) = refl
size_aligned Dead = refl
size_aligned (Normal o n) = omega arith

pub top_to_is : (p : List ℕ) (n : ℕ) → top_to p n ≡ 8192 - sum_to (λ k. size_of (pointer_at p (k + 1))) n
top_to_is p zero = refl
top_to_is p (suc n) =
    let e : size_of (pointer_at p (suc n)) ≡ size_of (pointer_at p (n + 1)) = ap (λ (x : ℕ). size_of (pointer_at p x)) (omega arith) in
    omega (arith, top_to_is p n)

pub top_low : (p : List ℕ) (n : ℕ) → top_to p n ≤ 8192
top_low p n = omega (arith, top_to_is p n)

module _ (kinds : List Kind) (p : List ℕ) (s : Sound kinds p) where
  spans : (n : ℕ) → n ≤ count_of p → (header_of p).upper + sum_to (λ k. size_of (pointer_at p (k + 1))) n ≤ 8192
  spans n le =
      packing (λ k. start_of (pointer_at p (k + 1))) (λ k. size_of (pointer_at p (k + 1))) n (header_of p).upper 8192 s.header.upper_in_page
      (λ k l. span_above kinds p (pointer_at p (k + 1)) (keeps_at kinds p s k (omega arith)))
      (λ k l. span_ends (pointer_at p (k + 1)) (lies_at kinds p s k (omega arith)))
      (λ j k l m. apart_spans (pointer_at p (j + 1)) (pointer_at p (k + 1)) (lies_at kinds p s j (omega arith)) (lies_at kinds p s k (omega arith))
      (apart_at kinds p s j k (omega arith) (omega arith) (omega arith)))

  pub top_high : (n : ℕ) → n ≤ count_of p → (header_of p).upper ≤ top_to p n
  top_high n le = let a = spans n le in let b = top_to_is p n in omega arith

  pub top_step : (n : ℕ) → n < count_of p → top_to p (n + 1) + size_of (pointer_at p (n + 1)) ≡ top_to p n
  top_step n l =
      let a = spans (suc n) (omega arith) in let b = top_to_is p n in let d = top_to_more p n in omega arith

  pub top_aligned : (n : ℕ) → n ≤ count_of p → top_to p n % 8 ≡ 0
  top_aligned zero le = refl
  top_aligned (suc n) le =
      let e : suc n ≡ n + 1 = omega arith in
      rw e (let a = top_step n (omega arith) in let b = top_aligned n (omega arith) in let d = size_aligned (pointer_at p (n + 1)) in omega arith)

  top_falls : (d n : ℕ) → n + d ≤ count_of p → top_to p (n + d) ≤ top_to p n
  top_falls zero n le = let e : n + 0 ≡ n = omega arith in rw e (omega arith)
  top_falls (suc d) n le =
      let e : n + suc d ≡ (n + d) + 1 = omega arith in
      rw e (let a = top_falls d n (omega arith) in let b = top_step (n + d) (omega arith) in omega arith)

  pub top_order : (j k : ℕ) → j ≤ k → k ≤ count_of p → top_to p k ≤ top_to p j
  top_order j k le last = let e : j + (k - j) ≡ k = omega arith in rw e at (top_falls (k - j) j (omega arith))

  -- so there is room for each version
  pub sound_packs : Packs p (count_of p)
  sound_packs = record {
    lies = λ k l. lies_at kinds p s k l;
    room = λ k l. let a = top_step k l in omega arith;
  }
