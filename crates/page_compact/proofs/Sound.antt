-- A page whose header and line pointers keep their own rules and whose versions lie apart, whatever its redirects and names.
use Rattle.std.proofs.Common.{◌≡◌, ℕ, ◌+◌, ◌*◌, ◌<◌, ◌≤◌, true, ◌≢◌, List, refl, ⊎_elim, arith}
use Rattle.std.proofs.lemmas.Bool.{cases_lt}
use Rattle.page.specs.Headers.{header_of, count_of}
use Rattle.page.specs.LinePointers.{line_pointer_at, meaning_of, pointer_of, pointer_at}
use Rattle.page.specs.declared.kinds.Kind.{Kind}
use Rattle.page.specs.declared.line_pointers.State.{State}
use Rattle.page.specs.declared.line_pointers.State.TheVariants as state
use Rattle.page.specs.declared.line_pointers.LinePointer.{LinePointer}
use Rattle.page.specs.declared.line_pointers.Pointer.{Pointer}
use Rattle.page.specs.declared.line_pointers.Pointer.TheVariants.{Unused, Normal, Redirect, Dead}
use Rattle.page_check.specs.Rules.{apart}
use Rattle.page_check.specs.Lawful.{own_holds}
use Rattle.page_check.specs.Marking.{LiesIn}
use Rattle.page_laws.specs.Keeps.{HeaderKeeps, Keeps}
use Rattle.page_laws.specs.Windows.{SameOf}
use Rattle.page_laws.proofs.Own.{VersionKeeps, OwnKeeps, own_tells, own_from, version_same, apart_sym}

pub record Sound (kinds : List Kind) (p : List ℕ) : Type 0 where
  pub header : HeaderKeeps (header_of p)
  pub own : (n : ℕ) → 1 ≤ n → n ≤ count_of p → own_holds kinds p (line_pointer_at p n) ≡ true
  pub no_overlap : (n m : ℕ) → 1 ≤ m → m < n → n ≤ count_of p → apart (pointer_at p n) (pointer_at p m) ≡ true

pub sound_of : (kinds : List Kind) (b : ℕ) (p : List ℕ) → Keeps kinds b p → Sound kinds p
sound_of kinds b p k = record { header = k.header; own = k.own; no_overlap = k.no_overlap }

-- the version of a pointer keeps its rules
abbrev pub PointerKeeps : List Kind → List ℕ → Pointer → Type 0
PointerKeeps kinds p Unused = Unit {0}
PointerKeeps kinds p (Normal o n) = VersionKeeps kinds p o n
PointerKeeps kinds p (Redirect t) = Unit {0}
PointerKeeps kinds p Dead = Unit {0}

by_state : (kinds : List Kind) (p : List ℕ) (s : State) (o n : ℕ) → OwnKeeps kinds p s o n → PointerKeeps kinds p (meaning_of s o n)
by_state kinds p state.Unused o n k = tt
by_state kinds p state.Normal o n k = k
by_state kinds p state.Redirect o n k = tt
by_state kinds p state.Dead o n k = tt

pub pointer_keeps : (kinds : List Kind) (p : List ℕ) (l : LinePointer) → own_holds kinds p l ≡ true → PointerKeeps kinds p (pointer_of l)
pointer_keeps kinds p l h = by_state kinds p l.state l.offset l.len (own_tells kinds p l l.state refl h)

pub keeps_lies : (kinds : List Kind) (p : List ℕ) (x : Pointer) → PointerKeeps kinds p x → LiesIn x
keeps_lies kinds p Unused k = tt
keeps_lies kinds p (Normal o n) k = k.lies
keeps_lies kinds p (Redirect t) k = tt
keeps_lies kinds p Dead k = tt

-- a pointer keeps its rules where its version stays and upper does not rise
pub own_same : (kinds : List Kind) (p q : List ℕ) (l : LinePointer) → (header_of q).upper ≤ (header_of p).upper → SameOf (pointer_of l) p q → own_holds kinds p l ≡ true → own_holds kinds q l ≡ true
own_same kinds p q l le same h = own_from kinds q l l.state refl (step l.state l.offset l.len same (own_tells kinds p l l.state refl h))
  where
    step : (s : State) (o n : ℕ) → SameOf (meaning_of s o n) p q → OwnKeeps kinds p s o n → OwnKeeps kinds q s o n
    step state.Unused o n same k = k
    step state.Normal o n same k = version_same kinds p q o n le same k
    step state.Redirect o n same k = k
    step state.Dead o n same k = k

module _ (kinds : List Kind) (p : List ℕ) (s : Sound kinds p) where
  pub lower_above : (k : ℕ) → k < count_of p → 24 + 4 * (k + 1) ≤ (header_of p).lower
  lower_above k l = let a = s.header.lower_past_header in let b = s.header.lower_by_upper in let d = s.header.upper_in_page in omega arith

  pub keeps_at : (k : ℕ) → k < count_of p → PointerKeeps kinds p (pointer_at p (k + 1))
  keeps_at k l = pointer_keeps kinds p (line_pointer_at p (k + 1)) (s.own (k + 1) (omega arith) (omega arith))

  pub lies_at : (k : ℕ) → k < count_of p → LiesIn (pointer_at p (k + 1))
  lies_at k l = keeps_lies kinds p (pointer_at p (k + 1)) (keeps_at k l)

  pub apart_at : (j k : ℕ) → j < count_of p → k < count_of p → j ≢ k → apart (pointer_at p (j + 1)) (pointer_at p (k + 1)) ≡ true
  apart_at j k a b ne =
      ⊎_elim
      (λ (l : j < k). apart_sym (pointer_at p (k + 1)) (pointer_at p (j + 1)) (s.no_overlap (k + 1) (j + 1) (omega arith) (omega arith) (omega arith)))
      (λ (l : k ≤ j). s.no_overlap (j + 1) (k + 1) (omega arith) (omega arith) (omega arith))
      (cases_lt j k)
