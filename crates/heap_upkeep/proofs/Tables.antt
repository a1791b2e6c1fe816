-- Tables by pointer number, filled one number after the other.
use Rattle.std.proofs.Common.{◌≡◌, ℕ, ◌+◌, ◌<◌, ◌≤◌, cond, ◌&&◌, leb, ◌⊎◌, List, length, get_or, set, replicate, sym, ap, ◌∙◌, subst, unwrap_or, inl, inr, ⊎_elim, arith}
use Rattle.std.proofs.lemmas.List.{get_or-replicate, get_or_past, length-replicate, get_or-set_same, get_or-set_other}
use Rattle.std.proofs.lemmas.Bool.{and_from, and_left, and_right, le-leb, lt-leb, cond-true, cond-false, cases_lt, cases_eq}
use Rattle.page.specs.Headers.{count_of}
use Rattle.page.specs.LinePointers.{pointer_at}
use Rattle.page.specs.Slots.{Slot, slot_of, slot_no}
use Rattle.page.specs.Slots.Slot.{unused}
use Rattle.page_check.proofs.Slots.{slot_no_in, slot_no_past}
use Rattle.page_prune.specs.Members.{no_member, next_in}
use Rattle.page_prune.specs.declared.chains.Member.{Member}
use Rattle.xid.specs.Meaning.{Meaning}
use Rattle.heap_read.specs.Links.{LeadsAlong}
use Rattle.heap_upkeep.specs.Dead.{AlongNames}

-- the table has f at the numbers 1 to i, and d elsewhere
abbrev pub Filled : {X : Type 0} → (ℕ → X) → X → ℕ → List X → Type 0
Filled f d i table = (n : ℕ) → get_or table n d ≡ cond (leb 1 n && leb n i) (f n) d

outside : {X : Type 0} (x d : X) (i n : ℕ) → (n ≡ 0) ⊎ (i < n) → d ≡ cond (leb 1 n && leb n i) x d
outside x d i n h =
    sym (cond-false (leb 1 n && leb n i) x d
    (⊎_elim (λ (e : n ≡ 0). and_left (leb 1 n) (leb n i) (lt-leb 1 n (omega arith))) (λ (l : i < n). and_right (leb 1 n) (leb n i) (lt-leb n i l)) h))

inside : {X : Type 0} (x d : X) (i n : ℕ) → 1 ≤ n → n ≤ i → x ≡ cond (leb 1 n && leb n i) x d
inside x d i n a b = sym (cond-true (leb 1 n && leb n i) x d (and_from (leb 1 n) (leb n i) (le-leb 1 n a) (le-leb n i b)))

-- a table of d alone
blank : {X : Type 0} (d : X) (n : ℕ) → get_or (replicate 292 d) n d ≡ d
blank d n =
    ⊎_elim
    (λ (l : n < 292). get_or-replicate 292 n d d l)
    (λ (l : 292 ≤ n). get_or_past (replicate 292 d) n d (omega (arith, length-replicate 292 d)))
    (cases_lt n 292)

module _ {X : Type 0} (f : ℕ → X) (d : X) where
  pub filled_none : Filled f d 0 (replicate 292 d)
  filled_none n =
      blank d n
      ∙ ⊎_elim (λ (e : n ≡ 0). outside (f n) d 0 n (inl e)) (λ (e : n ≡ 0 → ⊥). outside (f n) d 0 n (inr (omega arith))) (cases_eq n 0)

  -- one number more
  pub filled_more : (i j : ℕ) (t : List X) (x : X) → j ≡ i + 1 → length t ≡ 292 → j ≤ 291 → Filled f d i t → x ≡ f j → Filled f d j (set t j x)
  filled_more i j t x more len few h e n =
      ⊎_elim
      (λ (q : n ≡ j).
      ap (λ (k : ℕ). get_or (set t j x) k d) q ∙ get_or-set_same t j x d (omega arith) ∙ e ∙ ap f (sym q)
      ∙ inside (f n) d j n (omega arith) (omega arith))
      (λ (q : n ≡ j → ⊥).
      get_or-set_other t j n x d q ∙ h n
      ∙ ⊎_elim
      (λ (l : n ≤ i). ⊎_elim
      (λ (z : n ≡ 0). sym (outside (f n) d i n (inl z)) ∙ outside (f n) d j n (inl z))
      (λ (z : n ≡ 0 → ⊥). sym (inside (f n) d i n (omega arith) l) ∙ inside (f n) d j n (omega arith) (omega arith))
      (cases_eq n 0))
      (λ (l : i < n). sym (outside (f n) d i n (inr l)) ∙ outside (f n) d j n (inr (omega arith)))
      (⊎_elim (λ (l : n < i + 1). inl (omega arith)) (λ (l : i + 1 ≤ n). inr (omega arith)) (cases_lt n (i + 1))))
      (cases_eq n j)

-- a table over the slots of a page, once all pointers are through
pub filled_page : {X : Type 0} (F : Slot → X) (d : X) (p : List ℕ) (i : ℕ) (t : List X) → F unused ≡ d → i ≡ count_of p
    → Filled (λ n. F (slot_no p n)) d i t → (n : ℕ) → get_or t n d ≡ F (slot_no p n)
filled_page F d p i t e same h n =
    h n ∙
    ⊎_elim
    (λ (z : n ≡ 0). sym (outside (F (slot_no p n)) d i n (inl z)) ∙ sym (ap (λ (k : ℕ). F (slot_no p k)) z ∙ e))
    (λ (z : n ≡ 0 → ⊥). ⊎_elim
    (λ (l : i < n). sym (outside (F (slot_no p n)) d i n (inr l)) ∙ sym (ap F (slot_no_past p n (omega arith)) ∙ e))
    (λ (l : n ≤ i). sym (inside (F (slot_no p n)) d i n (omega arith) l))
    (cases_lt i n))
    (cases_eq n 0)

-- what is asked for by its pointer is that of its slot, also with a source that means the same
pub slot_told : {X : Type 0} (F : Meaning → Slot → X) (m n : Meaning) (p : List ℕ) (i : ℕ) (r : X) → n ≡ m → 1 ≤ i → i ≤ count_of p
    → r ≡ F n (slot_of p (pointer_at p i)) → r ≡ F m (slot_no p i)
slot_told F m n p i r e a b h = h ∙ ap (λ (x : Meaning). F x (slot_of p (pointer_at p i))) e ∙ ap (F m) (sym (slot_no_in p i a b))

-- A table that leads along the names of a page.

pub record AlongTo (b : ℕ) (p : List ℕ) (i : ℕ) (t : List Member) : Type 0 where
  pub named : (n : ℕ) → 1 ≤ n → n ≤ i → LeadsAlong b (slot_no p) (slot_no p n) (next_in t n)
  pub none_first : next_in t 0 ≡ 0
  pub none_past : (n : ℕ) → i < n → next_in t n ≡ 0

module _ (b : ℕ) (p : List ℕ) where
  -- a table of no members leads nowhere
  nowhere : (n : ℕ) → next_in (replicate 292 no_member) n ≡ 0
  nowhere n = ap (λ (m : Member). unwrap_or m.next 0) (blank no_member n)

  pub along_none : AlongTo b p 0 (replicate 292 no_member)
  along_none = record { named = λ n x y. absurd (omega arith); none_first = nowhere 0; none_past = λ n l. nowhere n }

  pub along_more : (i j : ℕ) (t : List Member) (x : Member) → j ≡ i + 1 → length t ≡ 292 → j ≤ 291 → AlongTo b p i t
      → LeadsAlong b (slot_no p) (slot_no p j) (unwrap_or x.next 0) → AlongTo b p j (set t j x)
  along_more i j t x more len few h e = record {
    named = λ n a c.
        ⊎_elim
        (λ (q : n ≡ j). rw q (rw (get_or-set_same t j x no_member (omega arith)) e))
        (λ (q : n ≡ j → ⊥). rw (get_or-set_other t j n x no_member q) (h.named n a (omega arith)))
        (cases_eq n j);
    none_first = let ne : 0 ≡ j → ⊥ = λ q. omega arith in ap (λ (m : Member). unwrap_or m.next 0) (get_or-set_other t j 0 x no_member ne) ∙ h.none_first;
    none_past = λ n l. let ne : n ≡ j → ⊥ = λ q. omega arith in ap (λ (m : Member). unwrap_or m.next 0) (get_or-set_other t j n x no_member ne) ∙ h.none_past n (omega arith);
  }

  pub along_all : (i : ℕ) (t : List Member) → i ≡ count_of p → AlongTo b p i t → AlongNames b p t
  along_all i t same h n =
      ⊎_elim
      (λ (z : n ≡ 0). rw z h.none_first)
      (λ (z : n ≡ 0 → ⊥). ⊎_elim
      (λ (l : i < n). subst (λ (s : Slot). LeadsAlong b (slot_no p) s (next_in t n)) (sym (slot_no_past p n (omega arith))) (h.none_past n l))
      (λ (l : n ≤ i). h.named n (omega arith) l)
      (cases_lt i n))
      (cases_eq n 0)
