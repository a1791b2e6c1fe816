-- What is reported: none exactly where the page is lawful, and else a rule that fails.
use Rattle.std.proofs.Common.{◌≡◌, ℕ, zero, suc, ◌+◌, Bool, true, false, cond, not, ◌&&◌, List, [], ◌∷◌, is_some, IfSome, Some, None, Option, sym, refl, ap, ◌∙◌, ⊎_elim, arith}
use Rattle.std.specs.Option.{option_or, option_map}
use Rattle.std.proofs.lemmas.Bool.{and_parts, cases_Bool}
use Rattle.std.proofs.lemmas.Bool.Decides.{nat_tests}
use Rattle.page.specs.Headers.{header_of, count_of}
use Rattle.page.specs.LinePointers.{line_pointer_at, meaning_of}
use Rattle.page.specs.Versions.{header_at}
use Rattle.page.specs.declared.kinds.Kind.{Kind}
use Rattle.page.specs.declared.line_pointers.State.{State}
use Rattle.page.specs.declared.line_pointers.State.TheVariants as state
use Rattle.page.specs.declared.line_pointers.LinePointer.{LinePointer}
use Rattle.page_check.specs.All.{each, first_to, all_of, first_of}
use Rattle.page_check.specs.Rules.{header_holds, header_rules, pointer_holds, pointer_rules, version_holds, version_rules, page_holds}
use Rattle.page_check.specs.Lawful.{own_holds, own_break, page_break, is_lawful, header_broken, own_broken, among_broken, first_broken, Fails}
use Rattle.page_check.specs.Marking.{LiesIn, AllLie}
use Rattle.page_check.specs.declared.rules.PageRule.{PageRule}
use Rattle.page_check.specs.declared.rules.PageRule.TheVariants.{NoOverlap, RedirectTarget, NamedOnce}
use Rattle.page_check.specs.declared.rules.Broken.{Broken}
use Rattle.page_check.specs.declared.rules.Broken.TheVariants.{InHeader, AtPointer, InVersion, Among}
use Rattle.page_check.proofs.All.{all_to_at, first_to_each, first_of_all, is_some_mapped}

-- None exactly where the page is lawful.

abbrev option_is_none : {A : Type 0} → Option A → Bool
option_is_none r = not (is_some r)

or_none : {A : Type 0} (r s : Option A) → option_is_none (option_or r s) ≡ (option_is_none r && option_is_none s)
or_none None s = refl
or_none (Some x) s = refl

mapped_all : {R : Type 0} (f : R → Broken) (holds : R → Bool) (rs : List R) → option_is_none (option_map f (first_of holds rs)) ≡ all_of holds rs
mapped_all f holds rs = ap not (is_some_mapped f (first_of holds rs)) ∙ first_of_all holds rs

each_same : (f g : ℕ → Bool) (n : ℕ) → ((k : ℕ) → f k ≡ g k) → each f n ≡ each g n
each_same f g zero h = refl
each_same f g (suc n) h = rw (h (n + 1)) (ap (λ (b : Bool). g (n + 1) && b) (each_same f g n h))

own_none : (kinds : List Kind) (p : List ℕ) (n : ℕ) (l : LinePointer) → option_is_none (own_break kinds p n l) ≡ own_holds kinds p l
own_none kinds p n l =
    or_none (option_map (AtPointer n) (first_of (pointer_holds kinds p l) (pointer_rules l.state))) (option_map (InVersion n) (first_of (version_holds (header_at p l.offset)) (version_rules l.state)))
    ∙ rw (mapped_all (AtPointer n) (pointer_holds kinds p l) (pointer_rules l.state)) (rw (mapped_all (InVersion n) (version_holds (header_at p l.offset)) (version_rules l.state)) refl)

one_none : (b : Bool) (x : Broken) → option_is_none (cond b None (Some x)) ≡ b
one_none true x = refl
one_none false x = refl

module _ (kinds : List Kind) (b : ℕ) (p : List ℕ) where
  own_each : option_is_none (own_broken kinds p) ≡ each (λ n. own_holds kinds p (line_pointer_at p n)) (count_of p)
  own_each =
      first_to_each (λ n. own_break kinds p n (line_pointer_at p n)) (count_of p)
      ∙ each_same (λ n. option_is_none (own_break kinds p n (line_pointer_at p n))) (λ n. own_holds kinds p (line_pointer_at p n)) (count_of p) (λ n. own_none kinds p n (line_pointer_at p n))

  among_each : (r : PageRule) → option_is_none (among_broken b p r) ≡ each (λ n. page_holds b p n r) (count_of p)
  among_each r =
      first_to_each (page_break b p r) (count_of p)
      ∙ each_same (λ n. option_is_none (page_break b p r n)) (λ n. page_holds b p n r) (count_of p) (λ n. one_none (page_holds b p n r) (Among n r))

  five : (v w x y z : Option Broken) → option_is_none (option_or v (option_or w (option_or x (option_or y z)))) ≡ (option_is_none v && option_is_none w && option_is_none x && option_is_none y && option_is_none z)
  five (Some k) w x y z = refl
  five None (Some k) x y z = refl
  five None None (Some k) y z = refl
  five None None None (Some k) z = refl
  five None None None None z = refl

  pub none_lawful : option_is_none (first_broken kinds b p) ≡ is_lawful kinds b p
  none_lawful =
      five (header_broken p) (own_broken kinds p) (among_broken b p NoOverlap) (among_broken b p RedirectTarget) (among_broken b p NamedOnce)
      ∙ rw (mapped_all InHeader (header_holds (header_of p)) header_rules)
      (rw own_each (rw (among_each NoOverlap) (rw (among_each RedirectTarget) (rw (among_each NamedOnce) refl))))

-- A reported rule fails.

found_or : {A : Type 0} (P : A → Type 0) (r s : Option A) → IfSome r P → IfSome s P → IfSome (option_or r s) P
found_or P None s h k = k
found_or P (Some x) s h k = h

found_mapped : {R : Type 0} (f : R → Broken) (P : Broken → Type 0) (r : Option R) → IfSome r (λ x. P (f x)) → IfSome (option_map f r) P
found_mapped f P None h = tt
found_mapped f P (Some x) h = h

found_first_of : {R : Type 0} (holds : R → Bool) (rs : List R) → IfSome (first_of holds rs) (λ r. holds r ≡ false)
found_first_of holds [] = tt
found_first_of holds (r ∷ rs) =
    ⊎_elim
    (λ (e : holds r ≡ true). rw e (found_first_of holds rs))
    (λ (e : holds r ≡ false). rw e e)
    (cases_Bool (holds r))

found_first_to : {A : Type 0} (P : A → Type 0) (f : ℕ → Option A) (n : ℕ) → ((k : ℕ) → IfSome (f k) P) → IfSome (first_to f n) P
found_first_to P f zero h = tt
found_first_to P f (suc n) h = found_or P (first_to f n) (f (n + 1)) (found_first_to P f n h) (h (n + 1))

found_one : (P : Broken → Type 0) (b : Bool) (x : Broken) → (b ≡ false → P x) → IfSome (cond b None (Some x)) P
found_one P true x h = tt
found_one P false x h = h refl

module _ (kinds : List Kind) (b : ℕ) (p : List ℕ) where
  abbrev Fail : Broken → Type 0
  Fail = Fails kinds b p

  own_fails : (n : ℕ) → IfSome (own_break kinds p n (line_pointer_at p n)) Fail
  own_fails n =
      let l = line_pointer_at p n in
      let v = header_at p l.offset in
      let first = first_of (pointer_holds kinds p l) (pointer_rules l.state) in
      let then = first_of (version_holds v) (version_rules l.state) in
      found_or Fail (option_map (AtPointer n) first) (option_map (InVersion n) then)
      (found_mapped (AtPointer n) Fail first (found_first_of (pointer_holds kinds p l) (pointer_rules l.state)))
      (found_mapped (InVersion n) Fail then (found_first_of (version_holds v) (version_rules l.state)))

  among_fails : (r : PageRule) → IfSome (among_broken b p r) Fail
  among_fails r = found_first_to Fail (page_break b p r) (count_of p) (λ n. found_one Fail (page_holds b p n r) (Among n r) (λ e. e))

  pub report_fails : IfSome (first_broken kinds b p) Fail
  report_fails =
      let x = among_broken b p NoOverlap in let y = among_broken b p RedirectTarget in let z = among_broken b p NamedOnce in
      found_or Fail (header_broken p) (option_or (own_broken kinds p) (option_or x (option_or y z)))
      (found_mapped InHeader Fail (first_of (header_holds (header_of p)) header_rules) (found_first_of (header_holds (header_of p)) header_rules))
      (found_or Fail (own_broken kinds p) (option_or x (option_or y z))
      (found_first_to Fail (λ n. own_break kinds p n (line_pointer_at p n)) (count_of p) own_fails)
      (found_or Fail x (option_or y z) (among_fails NoOverlap) (found_or Fail y z (among_fails RedirectTarget) (among_fails NamedOnce))))

-- Where the rules of the pointers hold, their versions lie inside the page.

lies_by : (kinds : List Kind) (p : List ℕ) (l : LinePointer) (s : State) → all_of (pointer_holds kinds p l) (pointer_rules s) ≡ true → LiesIn (meaning_of s l.offset l.len)
lies_by kinds p l state.Unused h = tt
lies_by kinds p l state.Dead h = tt
lies_by kinds p l state.Redirect h = tt
lies_by kinds p l state.Normal h = record { aligned = grind (arith, nat_tests); ends = grind (arith, nat_tests); holds_kind = grind (arith, nat_tests) }

pub all_lie : (kinds : List Kind) (p : List ℕ) → None ≡ own_broken kinds p → AllLie p
all_lie kinds p h k l =
    let holds : each (λ n. own_holds kinds p (line_pointer_at p n)) (count_of p) ≡ true
    = sym (own_each kinds 0 p) ∙ ap (λ (r : Option Broken). not (is_some r)) (sym h) in
    let here = all_to_at (λ k. own_holds kinds p (line_pointer_at p (k + 1))) (count_of p) k holds l in
    lies_by kinds p (line_pointer_at p (k + 1)) (line_pointer_at p (k + 1)).state
    (and_parts (all_of (pointer_holds kinds p (line_pointer_at p (k + 1))) (pointer_rules (line_pointer_at p (k + 1)).state)) _ here).0
