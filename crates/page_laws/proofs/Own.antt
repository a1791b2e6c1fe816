-- The rules of a line pointer and its version as facts, and on two pages that hold the same version.
use Rattle.std.proofs.Common.{◌≡◌, ℕ, ◌+◌, ◌-◌, ◌*◌, ◌/◌, ◌%◌, ◌<◌, ◌≤◌, true, ◌&&◌, eqb, leb, ◌≢◌, ◌⊎◌, List, length, is_some, sym, refl, ap, ◌∙◌, inl, inr, ⊎_elim, arith}
use Rattle.std.proofs.lemmas.Bool.{and_parts, and_from, or_cases, eqb-true, eq-eqb, leb-true, le-leb, or_left, or_right, cases_lt}
use Rattle.page.specs.Kinds.{body_len, fits}
use Rattle.page.specs.Headers.{header_of, count_of}
use Rattle.page.specs.LinePointers.{line_pointer_at, meaning_of, pointer_at}
use Rattle.page.specs.Versions.{header_at, row_of}
use Rattle.page.specs.Slots.{slot_of, decoded}
use Rattle.page.specs.Slots.Slot.{holds}
use Rattle.page.specs.declared.kinds.Kind.{Kind}
use Rattle.page.specs.declared.line_pointers.State.{State}
use Rattle.page.specs.declared.line_pointers.State.TheVariants as state
use Rattle.page.specs.declared.line_pointers.LinePointer.{LinePointer}
use Rattle.page.specs.declared.line_pointers.Pointer.{Pointer}
use Rattle.page.specs.declared.line_pointers.Pointer.TheVariants.{Unused, Normal, Redirect, Dead}
use Rattle.page.specs.declared.versions.VersionHeader.{VersionHeader}
use Rattle.page_check.specs.All.{all_of}
use Rattle.page_check.specs.Rules.{pointer_holds, pointer_rules, version_holds, version_rules, kind_at, apart}
use Rattle.page_check.specs.Lawful.{own_holds}
use Rattle.page_check.specs.Marking.{Lies, LiesIn, AllLie}
use Rattle.page_laws.specs.Keeps.{Keeps}
use Rattle.page_laws.specs.Windows.{Same, SameOf}
use Rattle.page_laws.proofs.Windows.{header_at_same, between_same}

-- what the rules of a version at o, of the length n, come to
pub record VersionKeeps (kinds : List Kind) (p : List ℕ) (o n : ℕ) : Type 0 where
  pub lies : Lies o n
  pub above : (header_of p).upper ≤ o
  pub known : is_some (body_len kinds (kind_at p o)) ≡ true
  pub row : fits (body_len kinds (kind_at p o)) (n - 25) ≡ true
  pub head : all_of (version_holds (header_at p o)) (version_rules state.Normal) ≡ true

-- the same of a line pointer, by its state
abbrev pub OwnKeeps : List Kind → List ℕ → State → ℕ → ℕ → Type 0
OwnKeeps kinds p state.Unused o n = (o ≡ 0) × (n ≡ 0)
OwnKeeps kinds p state.Dead o n = (o ≡ 0) × (n ≡ 0)
OwnKeeps kinds p state.Redirect o n = n ≡ 0
OwnKeeps kinds p state.Normal o n = VersionKeeps kinds p o n

pub own_tells : (kinds : List Kind) (p : List ℕ) (l : LinePointer) (s : State) → l.state ≡ s → own_holds kinds p l ≡ true → OwnKeeps kinds p s l.offset l.len
own_tells kinds p l s e h =
    split s (rw e at (and_parts (all_of (pointer_holds kinds p l) (pointer_rules l.state)) (all_of (version_holds (header_at p l.offset)) (version_rules l.state)) h))
  where
    split : (s : State) → (all_of (pointer_holds kinds p l) (pointer_rules s) ≡ true) × (all_of (version_holds (header_at p l.offset)) (version_rules s) ≡ true) → OwnKeeps kinds p s l.offset l.len
    split state.Unused h =
        let both = and_parts (eqb l.offset 0) (eqb l.len 0) (and_parts (eqb l.offset 0 && eqb l.len 0) true h.0).0 in
        (eqb-true l.offset 0 both.0, eqb-true l.len 0 both.1)
    split state.Dead h =
        let both = and_parts (eqb l.offset 0) (eqb l.len 0) (and_parts (eqb l.offset 0 && eqb l.len 0) true h.0).0 in
        (eqb-true l.offset 0 both.0, eqb-true l.len 0 both.1)
    split state.Redirect h = eqb-true l.len 0 (and_parts (eqb l.len 0) true h.0).0
    split state.Normal h =
        let a = and_parts (eqb (l.offset % 8) 0) _ h.0 in
        let b = and_parts (leb (header_of p).upper l.offset) _ a.1 in
        let c = and_parts (leb (l.offset + l.len) 8192) _ b.1 in
        let d = and_parts (leb 25 l.len) _ c.1 in
        let k = and_parts (is_some (body_len kinds (kind_at p l.offset))) _ d.1 in
        let r = and_parts (fits (body_len kinds (kind_at p l.offset)) (l.len - 25)) true k.1 in
        record {
          lies = record { aligned = eqb-true (l.offset % 8) 0 a.0; ends = leb-true (l.offset + l.len) 8192 c.0; holds_kind = leb-true 25 l.len d.0 };
          above = leb-true (header_of p).upper l.offset b.0;
          known = k.0;
          row = r.0;
          head = h.1;
        }

pub own_from : (kinds : List Kind) (p : List ℕ) (l : LinePointer) (s : State) → l.state ≡ s → OwnKeeps kinds p s l.offset l.len → own_holds kinds p l ≡ true
own_from kinds p l s e k = rw e (join s k)
  where
    join : (s : State) → OwnKeeps kinds p s l.offset l.len → (all_of (pointer_holds kinds p l) (pointer_rules s) && all_of (version_holds (header_at p l.offset)) (version_rules s)) ≡ true
    join state.Unused k = and_from _ _ (and_from _ _ (and_from _ _ (eq-eqb l.offset 0 k.0) (eq-eqb l.len 0 k.1)) refl) refl
    join state.Dead k = and_from _ _ (and_from _ _ (and_from _ _ (eq-eqb l.offset 0 k.0) (eq-eqb l.len 0 k.1)) refl) refl
    join state.Redirect k = and_from _ _ (and_from _ _ (eq-eqb l.len 0 k) refl) refl
    join state.Normal k =
        and_from _ _
        (and_from _ _ (eq-eqb (l.offset % 8) 0 k.lies.aligned)
        (and_from _ _ (le-leb (header_of p).upper l.offset k.above)
        (and_from _ _ (le-leb (l.offset + l.len) 8192 k.lies.ends)
        (and_from _ _ (le-leb 25 l.len k.lies.holds_kind)
        (and_from _ _ k.known (and_from _ _ k.row refl))))))
        k.head

lies_in : (kinds : List Kind) (p : List ℕ) (s : State) (o n : ℕ) → OwnKeeps kinds p s o n → LiesIn (meaning_of s o n)
lies_in kinds p state.Unused o n k = tt
lies_in kinds p state.Dead o n k = tt
lies_in kinds p state.Redirect o n k = tt
lies_in kinds p state.Normal o n k = k.lies

-- the versions of a page that keeps the rules lie inside it
pub keeps_lie : (kinds : List Kind) (b : ℕ) (p : List ℕ) → Keeps kinds b p → AllLie p
keeps_lie kinds b p k i l =
    let at = line_pointer_at p (i + 1) in
    lies_in kinds p at.state at.offset at.len (own_tells kinds p at at.state refl (k.own (i + 1) (omega arith) (omega arith)))

-- The version of a pointer on two pages.

pub slot_same : (p q : List ℕ) (x : Pointer) → length p ≡ 8192 → length q ≡ 8192 → LiesIn x → SameOf x p q → slot_of p x ≡ slot_of q x
slot_same p q Unused lp lq l s = refl
slot_same p q (Redirect t) lp lq l s = refl
slot_same p q Dead lp lq l s = refl
slot_same p q (Normal o n) lp lq l s =
    let l1 = l.ends in let l2 = l.holds_kind in
    ap (λ (v : VersionHeader). holds (decoded v (row_of p o n))) (header_at_same p q o (λ k a b. s k a (omega arith)))
    ∙ ap (λ (r : List ℕ). holds (decoded (header_at q o) r)) (between_same p q (o + 24) (o + n) (omega arith) (omega arith) (λ k a b. s k (omega arith) b))

-- a version that stays keeps its rules, where upper does not rise
pub version_same : (kinds : List Kind) (p q : List ℕ) (o n : ℕ) → (header_of q).upper ≤ (header_of p).upper → Same o (o + n) p q → VersionKeeps kinds p o n → VersionKeeps kinds q o n
version_same kinds p q o n le s k =
    let full = k.lies.holds_kind in
    let above = k.above in
    let e = header_at_same p q o (λ i a b. s i a (omega arith)) in
    let f = s (o + 24) (omega arith) (omega arith) in
    record {
      lies = k.lies;
      above = omega arith;
      known = ap (λ (x : ℕ). is_some (body_len kinds x)) (sym f) ∙ k.known;
      row = ap (λ (x : ℕ). fits (body_len kinds x) (n - 25)) (sym f) ∙ k.row;
      head = ap (λ (v : VersionHeader). all_of (version_holds v) (version_rules state.Normal)) (sym e) ∙ k.head;
    }

-- Versions apart.

pub apart_sym : (x y : Pointer) → apart x y ≡ true → apart y x ≡ true
apart_sym Unused Unused h = refl
apart_sym Unused (Normal o n) h = refl
apart_sym Unused (Redirect t) h = refl
apart_sym Unused Dead h = refl
apart_sym (Redirect t) Unused h = refl
apart_sym (Redirect t) (Normal o n) h = refl
apart_sym (Redirect t) (Redirect u) h = refl
apart_sym (Redirect t) Dead h = refl
apart_sym Dead Unused h = refl
apart_sym Dead (Normal o n) h = refl
apart_sym Dead (Redirect u) h = refl
apart_sym Dead Dead h = refl
apart_sym (Normal o n) Unused h = refl
apart_sym (Normal o n) (Redirect t) h = refl
apart_sym (Normal o n) Dead h = refl
apart_sym (Normal o n) (Normal o' n') h =
    ⊎_elim
    (λ (a : leb ((o + n + 7) / 8 * 8) o' ≡ true). or_right (leb ((o' + n' + 7) / 8 * 8) o) (leb ((o + n + 7) / 8 * 8) o') a)
    (λ (a : leb ((o' + n' + 7) / 8 * 8) o ≡ true). or_left (leb ((o' + n' + 7) / 8 * 8) o) (leb ((o + n + 7) / 8 * 8) o') a)
    (or_cases (leb ((o + n + 7) / 8 * 8) o') (leb ((o' + n' + 7) / 8 * 8) o) h)

-- two pointers of a page, in either order
pub apart_two : (kinds : List Kind) (b : ℕ) (p : List ℕ) → Keeps kinds b p → (n m : ℕ) → 1 ≤ n → n ≤ count_of p → 1 ≤ m → m ≤ count_of p → n ≢ m
    → apart (pointer_at p n) (pointer_at p m) ≡ true
apart_two kinds b p k n m a1 a2 b1 b2 ne =
    ⊎_elim
    (λ (l : n < m). apart_sym (pointer_at p m) (pointer_at p n) (k.no_overlap m n a1 l b2))
    (λ (l : m ≤ n). k.no_overlap n m b1 (omega arith) a2)
    (cases_lt n m)

-- bytes that change only inside of one version leave the others
pub others_same : (p q : List ℕ) (o n : ℕ) (x : Pointer) → apart (Normal o n) x ≡ true
    → ((a e : ℕ) → (e ≤ o) ⊎ (o + n ≤ a) → Same a e p q) → SameOf x p q
others_same p q o n Unused h s = tt
others_same p q o n (Redirect t) h s = tt
others_same p q o n Dead h s = tt
others_same p q o n (Normal o' n') h s =
    s o' (o' + n')
    (⊎_elim
    (λ (a : leb ((o + n + 7) / 8 * 8) o' ≡ true). let b = leb-true ((o + n + 7) / 8 * 8) o' a in inr (omega arith))
    (λ (a : leb ((o' + n' + 7) / 8 * 8) o ≡ true). let b = leb-true ((o' + n' + 7) / 8 * 8) o a in inl (omega arith))
    (or_cases (leb ((o + n + 7) / 8 * 8) o') (leb ((o' + n' + 7) / 8 * 8) o) h))
