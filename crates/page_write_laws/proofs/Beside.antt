-- Two pages that differ in one line pointer and its version alone.
use Rattle.std.proofs.Common.{◌≡◌, ℕ, ◌<◌, ◌≤◌, true, ◌≢◌, List, length, sym, refl, ap, ◌∙◌, ⊎_elim, arith}
use Rattle.std.proofs.lemmas.Bool.{cases_lt, cases_eq}
use Rattle.page.specs.Headers.{header_of, count_of}
use Rattle.page.specs.LinePointers.{line_pointer_at, meaning_of, pointer_of, pointer_at}
use Rattle.page.specs.Slots.{slot_of, slot_no}
use Rattle.page.specs.declared.kinds.Kind.{Kind}
use Rattle.page.specs.declared.line_pointers.State.{State}
use Rattle.page.specs.declared.line_pointers.State.TheVariants as state
use Rattle.page.specs.declared.line_pointers.LinePointer.{LinePointer}
use Rattle.page.specs.declared.line_pointers.Pointer.{Pointer}
use Rattle.page.specs.declared.line_pointers.Pointer.TheVariants.{Unused, Normal, Redirect, Dead}
use Rattle.page_check.specs.Rules.{apart}
use Rattle.page_check.specs.Lawful.{own_holds}
use Rattle.page_check.specs.Marking.{LiesIn}
use Rattle.page_check.proofs.Slots.{slot_no_in, slot_no_past}
use Rattle.page_laws.specs.Keeps.{HeaderKeeps, Keeps}
use Rattle.page_laws.specs.Windows.{SameOf}
use Rattle.page_laws.proofs.Own.{VersionKeeps, own_tells, own_from, slot_same, version_same, apart_sym}
use Rattle.page_write_laws.proofs.Names.{Names}

-- what the rules of a line pointer say of its meaning
abbrev pub VersionOf : List Kind → List ℕ → Pointer → Type 0
VersionOf kinds p Unused = Unit {0}
VersionOf kinds p (Normal o n) = VersionKeeps kinds p o n
VersionOf kinds p (Redirect t) = Unit {0}
VersionOf kinds p Dead = Unit {0}

pub own_version : (kinds : List Kind) (p : List ℕ) (l : LinePointer) → own_holds kinds p l ≡ true → VersionOf kinds p (pointer_of l)
own_version kinds p l h = split l.state refl
  where
    split : (s : State) → l.state ≡ s → VersionOf kinds p (meaning_of s l.offset l.len)
    split state.Unused e = tt
    split state.Redirect e = tt
    split state.Dead e = tt
    split state.Normal e = own_tells kinds p l state.Normal e h

version_lies : (kinds : List Kind) (p : List ℕ) (x : Pointer) → VersionOf kinds p x → LiesIn x
version_lies kinds p Unused v = tt
version_lies kinds p (Normal o n) v = v.lies
version_lies kinds p (Redirect t) v = tt
version_lies kinds p Dead v = tt

pub keeps_version : (kinds : List Kind) (b : ℕ) (p : List ℕ) → Keeps kinds b p → (n : ℕ) → 1 ≤ n → n ≤ count_of p → VersionOf kinds p (pointer_at p n)
keeps_version kinds b p k n x y = own_version kinds p (line_pointer_at p n) (k.own n x y)

-- a line pointer keeps its rules where its version stays and upper does not rise
own_same : (kinds : List Kind) (p q : List ℕ) (l : LinePointer) → (header_of q).upper ≤ (header_of p).upper → SameOf (pointer_of l) p q
    → own_holds kinds p l ≡ true → own_holds kinds q l ≡ true
own_same kinds p q l le s h = split l.state refl s
  where
    split : (t : State) → l.state ≡ t → SameOf (meaning_of t l.offset l.len) p q → own_holds kinds q l ≡ true
    split state.Unused e s = own_from kinds q l state.Unused e (own_tells kinds p l state.Unused e h)
    split state.Redirect e s = own_from kinds q l state.Redirect e (own_tells kinds p l state.Redirect e h)
    split state.Dead e s = own_from kinds q l state.Dead e (own_tells kinds p l state.Dead e h)
    split state.Normal e s =
        own_from kinds q l state.Normal e (version_same kinds p q l.offset l.len le s (own_tells kinds p l state.Normal e h))

-- q is p but for the pointer m and its version
pub record Beside (p q : List ℕ) (m : ℕ) : Type 0 where
  pub long : length q ≡ 8192
  pub upper : (header_of q).upper ≤ (header_of p).upper
  pub count : count_of p ≤ count_of q
  pub within : (n : ℕ) → 1 ≤ n → n ≤ count_of q → n ≢ m → n ≤ count_of p
  pub pointer : (n : ℕ) → 1 ≤ n → n ≤ count_of p → n ≢ m → line_pointer_at p n ≡ line_pointer_at q n
  pub version : (n : ℕ) → 1 ≤ n → n ≤ count_of p → n ≢ m → SameOf (pointer_at p n) p q

module _ (kinds : List Kind) (b : ℕ) (p q : List ℕ) (m : ℕ) (len : length p ≡ 8192) (k : Keeps kinds b p) (s : Beside p q m) where
  pointer_beside : (n : ℕ) → 1 ≤ n → n ≤ count_of p → n ≢ m → pointer_at q n ≡ pointer_at p n
  pointer_beside n x y ne = sym (ap pointer_of (s.pointer n x y ne))

  pub slot_beside : (n : ℕ) → n ≢ m → slot_no q n ≡ slot_no p n
  slot_beside n ne =
      ⊎_elim
      (λ (e : n ≡ 0). rw e refl)
      (λ (e : n ≡ 0 → ⊥).
      let one : 1 ≤ n = omega arith in
      ⊎_elim
      (λ (z : count_of p < n).
      ⊎_elim
      (λ (y : count_of q < n). slot_no_past q n y ∙ sym (slot_no_past p n z))
      (λ (y : n ≤ count_of q). absurd (omega (arith, s.within n one y ne)))
      (cases_lt (count_of q) n))
      (λ (z : n ≤ count_of p).
      slot_no_in q n one (omega (arith, s.count))
      ∙ ap (slot_of q) (pointer_beside n one z ne)
      ∙ sym (slot_same p q (pointer_at p n) len s.long (version_lies kinds p (pointer_at p n) (keeps_version kinds b p k n one z)) (s.version n one z ne))
      ∙ sym (slot_no_in p n one z))
      (cases_lt (count_of p) n))
      (cases_eq n 0)

  own_beside : (n : ℕ) → 1 ≤ n → n ≤ count_of q → n ≢ m → own_holds kinds q (line_pointer_at q n) ≡ true
  own_beside n x y ne =
      let z = s.within n x y ne in
      ap (own_holds kinds q) (sym (s.pointer n x z ne)) ∙ own_same kinds p q (line_pointer_at p n) s.upper (s.version n x z ne) (k.own n x z)

  apart_beside : ((n : ℕ) → 1 ≤ n → n ≤ count_of p → n ≢ m → apart (pointer_at q m) (pointer_at p n) ≡ true)
      → (n j : ℕ) → 1 ≤ j → j < n → n ≤ count_of q → apart (pointer_at q n) (pointer_at q j) ≡ true
  apart_beside new n j x y z =
      let other : (i : ℕ) → 1 ≤ i → i ≤ count_of q → i ≢ m → apart (pointer_at q m) (pointer_at q i) ≡ true
      = λ i u v ne. let w = s.within i u v ne in ap (apart (pointer_at q m)) (pointer_beside i u w ne) ∙ new i u w ne in
      ⊎_elim
      (λ (e : n ≡ m). rw e (other j x (omega arith) (omega arith)))
      (λ (e : n ≡ m → ⊥).
      let w = s.within n (omega arith) z e in
      ⊎_elim
      (λ (d : j ≡ m). rw d (apart_sym (pointer_at q m) (pointer_at q n) (other n (omega arith) z e)))
      (λ (d : j ≡ m → ⊥).
      ap (λ (v : Pointer). apart v (pointer_at q j)) (pointer_beside n (omega arith) w e)
      ∙ ap (apart (pointer_at p n)) (pointer_beside j x (omega arith) d)
      ∙ k.no_overlap n j x y w)
      (cases_eq j m))
      (cases_eq n m)

  -- the page stays lawful where the pointer m and its version keep the rules
  pub keeps_beside : HeaderKeeps (header_of q) → own_holds kinds q (line_pointer_at q m) ≡ true
      → ((n : ℕ) → 1 ≤ n → n ≤ count_of p → n ≢ m → apart (pointer_at q m) (pointer_at p n) ≡ true)
      → Names b (count_of q) (slot_no q) → Keeps kinds b q
  keeps_beside header own new names = record {
    header = header;
    own = λ n x y. ⊎_elim (λ (e : n ≡ m). rw e own) (λ (e : n ≡ m → ⊥). own_beside n x y e) (cases_eq n m);
    no_overlap = apart_beside new;
    redirect_target = names.leads;
    named_once = names.once;
  }

pub keeps_names : (kinds : List Kind) (b : ℕ) (p : List ℕ) → Keeps kinds b p → Names b (count_of p) (slot_no p)
keeps_names kinds b p k = record { leads = k.redirect_target; once = k.named_once }
