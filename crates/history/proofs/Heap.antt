-- The pages of a heap: what replacing one does to the slots, and what a sound heap passes.
use Rattle.std.proofs.Common.{◌≡◌, ℕ, zero, suc, ◌+◌, ◌-◌, ◌<◌, ◌≤◌, Bool, true, false, cond, ◌&&◌, ltb, leb, ◌⊎◌, List, [], length, get_or, set, is_some, Some, None, Option, sym, refl, ap, ◌∙◌, inl, inr, ⊎_elim, arith}
use Rattle.std.proofs.lemmas.List.{get_or_past, length-set, get_or-set_same, get_or-set_other, set-set}
use Rattle.std.proofs.lemmas.Bool.{and_from, and_parts, both_ways, cases_Bool, cases_eq, cases_lt, cond-false, le-leb, leb-true, ltb-true}
use Rattle.page.specs.Headers.{count_of}
use Rattle.page.specs.LinePointers.{pointer_at}
use Rattle.page.specs.Slots.{Version, Slot, slot_of, slot_no, slot_at}
use Rattle.page.specs.Slots.Slot.{unused, holds}
use Rattle.page.specs.declared.kinds.Kind.{Kind}
use Rattle.page.specs.declared.versions.Address.{Address}
use Rattle.page_check.specs.Lawful.{is_lawful}
use Rattle.page_check.proofs.All.{all_to_from, all_to_at}
use Rattle.page_laws.proofs.Facts.{lawful_tells}
use Rattle.page_laws.proofs.Views.{slot_at_one}
use Rattle.page_room.specs.Room.{is_unused, takes, block_taking}
use Rattle.page_room.proofs.Least.{least_le, least_hit}
use Rattle.page_write_laws.proofs.PutLaw.{free_slot_lem}
use Rattle.heap_read.proofs.Shown.{slot_no_nowhere}
use Rattle.history.specs.Archive.{Archive, page_at, slot_in}
use Rattle.history.specs.Checks.{heap_fits, page_lawful, all_lawful, version_length, block_for}
use Rattle.history.specs.Granted.{or_zero, fresh_in}
use Rattle.history.proofs.Invariant.{Sound}

-- One page replaced.

module _ (pages : List (List ℕ)) (b : ℕ) (q : List ℕ) where
  pub page_same : b < length pages → page_at (set pages b q) b ≡ q
  page_same l = get_or-set_same pages b q [] l

  pub page_other : (c : ℕ) → (c ≡ b → ⊥) → page_at (set pages b q) c ≡ page_at pages c
  page_other c ne = get_or-set_other pages b c q [] ne

  -- the page is changed once more
  pub set_again : b < length pages → (f : List ℕ → List ℕ) → set (set pages b q) b (f (page_at (set pages b q) b)) ≡ set pages b (f q)
  set_again l f = ap (λ (p : List ℕ). set (set pages b q) b (f p)) (page_same l) ∙ set-set pages b q (f q)

  pub slot_same : b < length pages → (a : Address) → a.block ≡ b → slot_in (set pages b q) a ≡ slot_no q a.pointer
  slot_same l a e = ap (λ (k : ℕ). slot_no (page_at (set pages b q) k) a.pointer) e ∙ ap (λ (p : List ℕ). slot_no p a.pointer) (page_same l)

  pub slot_other : (a : Address) → (a.block ≡ b → ⊥) → slot_in (set pages b q) a ≡ slot_in pages a
  slot_other a ne = ap (λ (p : List ℕ). slot_no p a.pointer) (page_other a.block ne)

  pub sound_set : (kinds : List Kind) → Sound kinds pages → length q ≡ 8192 → is_lawful kinds b q ≡ true → Sound kinds (set pages b q)
  sound_set kinds h len law =
      let n = length-set pages b q in
      let some = h.some_page in
      let few = h.few_pages in
      record {
        some_page = omega arith;
        few_pages = omega arith;
        long = λ c l. ⊎_elim
            (λ (e : c ≡ b). ap length (ap (page_at (set pages b q)) e ∙ page_same (omega arith)) ∙ len)
            (λ (e : c ≡ b → ⊥). ap length (page_other c e) ∙ h.long c (omega arith))
            (cases_eq c b);
        lawful = λ c l. ⊎_elim
            (λ (e : c ≡ b). rw e (ap (is_lawful kinds b) (page_same (omega arith)) ∙ law))
            (λ (e : c ≡ b → ⊥). ap (is_lawful kinds c) (page_other c e) ∙ h.lawful c (omega arith))
            (cases_eq c b);
      }

-- One slot of a list replaced.

module _ (ss : List Slot) (n : ℕ) (s : Slot) (one : 1 ≤ n) where
  pub set_here : n ≤ length ss → slot_at (set ss (n - 1) s) n ≡ s
  set_here l =
      let e : n ≡ (n - 1) + 1 = omega arith in
      ap (slot_at (set ss (n - 1) s)) e ∙ slot_at_one (set ss (n - 1) s) (n - 1) ∙ get_or-set_same ss (n - 1) s unused (omega arith)

  pub set_beside : (m : ℕ) → (m ≡ n → ⊥) → slot_at (set ss (n - 1) s) m ≡ slot_at ss m
  set_beside zero ne = refl
  set_beside (suc m) ne = get_or-set_other ss (n - 1) m s unused (λ e. ne (omega arith))

-- What the calls check of a heap.

pub heap_fits_lem : (kinds : List Kind) (pages : List (List ℕ)) → Sound kinds pages → heap_fits pages ≡ true
heap_fits_lem kinds pages h = and_from (leb 1 (length pages)) (leb (length pages) 64) (le-leb 1 (length pages) h.some_page) (le-leb (length pages) 64 h.few_pages)

pub all_lawful_lem : (s : Archive) → Sound s.kinds s.pages → all_lawful s ≡ true
all_lawful_lem s h = all_to_from (page_lawful s) (length s.pages) h.lawful

pub sound_page : (s : Archive) → all_lawful s ≡ true → (b : ℕ) → b < length s.pages → is_lawful s.kinds b (page_at s.pages b) ≡ true
sound_page s h b l = all_to_at (page_lawful s) (length s.pages) b h l

-- Where a new version goes.

some_cond : (t : Bool) (x b : ℕ) → cond t (Some x) None ≡ Some b → (t ≡ true) × (x ≡ b)
some_cond true x b e = (refl, cc)
some_cond false x b e = let z : ◌≡◌ {A = ℕ} 0 1 = cc in absurd (omega arith)

-- the block that is found for a row is one of the heap, and takes the row
pub block_found : (pages : List (List ℕ)) (row : List ℕ) (b : ℕ) → block_for pages row ≡ Some b
    → (b < length pages) × (takes 0 (page_at pages b) (24 + length row) ≡ true)
block_found pages row b e =
    let found = block_taking 0 pages (version_length row) in
    let r = some_cond (ltb found (length pages)) found b e in
    let l = ltb-true found (length pages) r.0 in
    (omega (arith, r.1), rw r.1 at (least_hit (λ c. takes 0 (get_or pages c []) (version_length row)) (length pages) l))

some_is : (o : Option ℕ) → is_some o ≡ true → o ≡ Some (or_zero o)
some_is None h = absurd (both_ways false refl h)
some_is (Some b) h = refl

pub block_there : (pages : List (List ℕ)) (row : List ℕ) → is_some (block_for pages row) ≡ true
    → (or_zero (block_for pages row) < length pages) × (takes 0 (page_at pages (or_zero (block_for pages row))) (24 + length row) ≡ true)
block_there pages row h = block_found pages row (or_zero (block_for pages row)) (some_is (block_for pages row) h)

-- the pointer that a new version takes
pub record Fresh (pages : List (List ℕ)) (n : Address) : Type 0 where
  pub first : 1 ≤ n.pointer
  pub small : n.pointer < 65536
  pub free : slot_in pages n ≡ unused

pub fresh_small : (kinds : List Kind) (pages : List (List ℕ)) → Sound kinds pages → (b : ℕ) → b < length pages → Fresh pages (fresh_in pages b)
fresh_small kinds pages h b l =
    let p = page_at pages b in
    let few = (lawful_tells kinds b p (h.lawful b l)).header.pointer_limit in
    record {
      first = omega arith;
      small = omega (arith, least_le (λ k. is_unused (pointer_at p (k + 1))) (count_of p));
      free = free_slot_lem p;
    }

-- Where a version stands.

pub record InHeap (pages : List (List ℕ)) (a : Address) : Type 0 where
  pub block_in : a.block < length pages
  pub pointer_low : 1 ≤ a.pointer
  pub pointer_high : a.pointer ≤ count_of (page_at pages a.block)

pub held_in : (pages : List (List ℕ)) (a : Address) (v : Version) → slot_in pages a ≡ holds v → InHeap pages a
held_in pages a v e = go (cases_lt a.block (length pages)) (cases_Bool (leb 1 a.pointer && leb a.pointer (count_of (page_at pages a.block))))
  where
    empty : unused ≡ holds v → ⊥
    empty z = let u : ◌≡◌ {A = ℕ} 0 1 = cc in omega arith

    go : (a.block < length pages) ⊎ (length pages ≤ a.block)
        → ((leb 1 a.pointer && leb a.pointer (count_of (page_at pages a.block))) ≡ true)
        ⊎ ((leb 1 a.pointer && leb a.pointer (count_of (page_at pages a.block))) ≡ false)
        → InHeap pages a
    go (inr l) h = absurd (empty (sym (ap (λ (p : List ℕ). slot_no p a.pointer) (get_or_past pages a.block [] l) ∙ slot_no_nowhere a.pointer) ∙ e))
    go (inl l) (inr h) = absurd (empty (sym (cond-false _ (slot_of (page_at pages a.block) (pointer_at (page_at pages a.block) a.pointer)) unused h) ∙ e))
    go (inl l) (inl h) =
        let both = and_parts _ _ h in
        record { block_in = l; pointer_low = leb-true 1 a.pointer both.0; pointer_high = leb-true a.pointer _ both.1 }

-- a version's pointer is one of its page's, of which there are at most 291
pub held_small : (kinds : List Kind) (pages : List (List ℕ)) → Sound kinds pages → (a : Address) (v : Version) → slot_in pages a ≡ holds v
    → a.pointer < 65536
held_small kinds pages h a v e =
    let i = held_in pages a v e in
    let k = lawful_tells kinds a.block (page_at pages a.block) (h.lawful a.block i.block_in) in
    let n = i.pointer_high in
    let m = k.header.pointer_limit in
    omega arith
