-- next finds the lowest visible version above an address: the first version above it that the ledger lists.
use Rattle.std.proofs.Common.{◌≡◌, ℕ, zero, suc, ◌+◌, ◌-◌, ◌<◌, ◌≤◌, Bool, true, false, cond, ◌&&◌, ltb, ◌⊎◌, List, length, get_or, Some, None, Option, sym, refl, ap, ◌∙◌, inl, inr, arith}
use Rattle.std.specs.Option.{option_map}
use Rattle.std.proofs.lemmas.Bool.{both_ways, cases_Bool, cases_eq, cases_lt, cases_order, and_parts, ltb-true, lt-ltb}
use Rattle.std.proofs.lemmas.Bool.Decides.{nat_tests}
use Rattle.page.specs.Headers.{count_of}
use Rattle.page.specs.Slots.{Version, Slot, slot_no}
use Rattle.page.specs.Slots.Slot.{unused, dead, redirect, holds}
use Rattle.page.specs.declared.versions.Address.{Address}
use Rattle.page_check.specs.All.{first_below}
use Rattle.xid.specs.declared.statuses.Status.{Status}
use Rattle.snapshot.specs.Snapshots.{SnapshotData}
use Rattle.heap_read.specs.Fates.{visible}
use Rattle.heap_read.specs.Reading.{visible_slot, above, next_on, next_in, start_in, address_in, handed}
use Rattle.heap_read.proofs.Firsts.{skip_at}
use Rattle.history.specs.Archive.{Transactions, page_at, slot_in, is_above}
use Rattle.history.specs.Ledger.{Ledger, Listed}
use Rattle.history.specs.Claim.{NextIs, FirstPast}
use Rattle.history.proofs.Addresses.{address}
use Rattle.history.proofs.Heap.{held_in}
use Rattle.history.proofs.Invariant.{Agrees, SlotsAgree, id_at}
use Rattle.history.proofs.Visible.{There, listed_there, visible_listed, row_listed, address_listed}

-- The order of addresses.

pub not_above_self : (a : Address) → is_above a a ≡ false
not_above_self a = grind (arith, nat_tests)

pub above_then : (a b c : Address) → is_above a b ≡ true → is_above b c ≡ true → is_above a c ≡ true
above_then a b c h k = grind (arith, nat_tests)

-- of two different addresses one is above
pub above_other : (a b : Address) → is_above a b ≡ false → (a ≡ b) ⊎ (is_above b a ≡ true)
above_other a b h = go (cases_eq a.block b.block) (cases_eq a.pointer b.pointer)
  where
    go : (a.block ≡ b.block) ⊎ (a.block ≡ b.block → ⊥) → (a.pointer ≡ b.pointer) ⊎ (a.pointer ≡ b.pointer → ⊥) → (a ≡ b) ⊎ (is_above b a ≡ true)
    go (inl x) (inl y) = inl (address a b x y)
    go (inl x) (inr y) = inr (grind (arith, nat_tests))
    go (inr x) y = inr (grind (arith, nat_tests))

-- What is found first.

record FoundFirst {A : Type 0} (f : ℕ → Option A) (n : ℕ) (r : A) : Type 0 where
  pub at : ℕ
  pub below : at < n
  pub is : f at ≡ Some r
  pub none_before : (j : ℕ) → j < at → f j ≡ None

not_some : {A : Type 0} (r : A) → Some r ≡ None → ⊥
not_some r e = let z : ◌≡◌ {A = ℕ} 0 1 = cc in omega arith

below_none : {A : Type 0} (f : ℕ → Option A) (n : ℕ) → first_below f n ≡ None → (j : ℕ) → j < n → f j ≡ None
below_none f zero e j l = absurd (omega arith)
below_none {A} f (suc n) e j l = go (first_below f n) refl (cases_eq j n) (λ z m. below_none f n z j m)
  where
    go : (r : Option A) → first_below f n ≡ r → (j ≡ n) ⊎ (j ≡ n → ⊥) → (first_below f n ≡ None → j < n → f j ≡ None) → f j ≡ None
    go None z (inl h) ih = ap f h ∙ (rw z at e)
    go None z (inr h) ih = ih z (omega arith)
    go (Some x) z h ih = absurd (not_some x (rw z at e))

below_some : {A : Type 0} (f : ℕ → Option A) (n : ℕ) (r : A) → first_below f n ≡ Some r → FoundFirst f n r
below_some f zero r e = absurd (not_some r (sym e))
below_some {A} f (suc n) r e = go (first_below f n) refl (below_some f n r)
  where
    go : (s : Option A) → first_below f n ≡ s → (first_below f n ≡ Some r → FoundFirst f n r) → FoundFirst f (suc n) r
    go None z ih = record { at = n; below = omega arith; is = rw z at e; none_before = below_none f n z }
    go (Some x) z ih =
        let w : Some x ≡ Some r = (rw z at e) in
        let o = ih (z ∙ w) in
        record { at = o.at; below = omega (arith, o.below); is = o.is; none_before = o.none_before }

-- A slot that holds a version lies in the heap, at a pointer of its page.

module _ (told : ℕ → Status) (sn : SnapshotData) where
  shows : (s : Slot) → visible_slot told sn s ≡ true → (v : Version) × (s ≡ holds v) × (visible told sn v ≡ true)
  shows unused h = absurd (both_ways _ refl h)
  shows dead h = absurd (both_ways _ refl h)
  shows (redirect t) h = absurd (both_ways _ refl h)
  shows (holds v) h = (v, refl, h)

  -- On one page: the pointer that is found is visible and above a, and none between them is.
  module _ (p : List ℕ) (a : ℕ) where
    abbrev shown : ℕ → Bool
    shown n = visible_slot told sn (slot_no p n)

    record FoundOn (m : ℕ) : Type 0 where
      pub is_visible : shown m ≡ true
      pub is_above_lem : a < m
      pub lowest : (n : ℕ) → 1 ≤ n → a < n → n < m → shown n ≡ false

    passed : (n : ℕ) → above shown a n ≡ None → a < n → shown n ≡ false
    passed n e l = go (cases_Bool (shown n))
      where
        go : (shown n ≡ true) ⊎ (shown n ≡ false) → shown n ≡ false
        go (inr h) = h
        go (inl h) = let y = lt-ltb a n l in absurd (not_some n (rw (y, h) at e))

    on_none : next_on told sn p a ≡ None → (n : ℕ) → 1 ≤ n → n ≤ count_of p → a < n → shown n ≡ false
    on_none e n l h b =
        let i : (n - 1) + 1 ≡ n = omega arith in
        passed n (rw i at (below_none (λ k. above shown a (k + 1)) (count_of p) e (n - 1) (omega arith))) b

    on_some : (m : ℕ) → next_on told sn p a ≡ Some m → FoundOn m
    on_some m e = go (below_some (λ k. above shown a (k + 1)) (count_of p) m e)
      where
        go : FoundFirst (λ k. above shown a (k + 1)) (count_of p) m → FoundOn m
        go o = at (cases_Bool (ltb a (o.at + 1) && shown (o.at + 1)))
          where
            at : ((ltb a (o.at + 1) && shown (o.at + 1)) ≡ true) ⊎ ((ltb a (o.at + 1) && shown (o.at + 1)) ≡ false) → FoundOn m
            at (inr h) = absurd (not_some m (sym (rw h at o.is)))
            at (inl h) =
                let same : Some (o.at + 1) ≡ Some m = (rw h at o.is) in
                let i : o.at + 1 ≡ m = cc in
                let both = and_parts _ _ h in
                record {
                  is_visible = rw i at both.1;
                  is_above_lem = let l = ltb-true a (o.at + 1) both.0 in omega arith;
                  lowest = λ n l b u.
                      let j : (n - 1) + 1 ≡ n = omega arith in
                      passed n (rw j at (o.none_before (n - 1) (omega arith))) b;
                }

  -- In the heap.
  module _ (pages : List (List ℕ)) (a : Address) where
    abbrev on_block : ℕ → Option Address
    on_block b = option_map (address_in b) (next_on told sn (page_at pages b) (start_in a b))

    abbrev searched : ℕ → Option Address
    searched b = cond (ltb b a.block) None (on_block b)

    -- the version at c is the lowest visible one above a
    pub record Lowest (c : Address) : Type 0 where
      pub what : Version
      pub is : slot_in pages c ≡ holds what
      pub is_visible : visible told sn what ≡ true
      pub is_above_lem : is_above c a ≡ true
      pub block_in : c.block < length pages
      pub lowest : (e : Address) (w : Version) → slot_in pages e ≡ holds w → visible told sn w ≡ true → is_above e a ≡ true → is_above c e ≡ false

    above_start : (e : Address) → 1 ≤ e.pointer → is_above e a ≡ true → start_in a e.block < e.pointer
    above_start e l h = grind (arith, nat_tests)

    mapped_none : (b : ℕ) (r : Option ℕ) → option_map (address_in b) r ≡ None → r ≡ None
    mapped_none b None e = refl
    mapped_none b (Some m) e = absurd (not_some (address_in b m) e)

    mapped_some : (b : ℕ) (r : Option ℕ) (c : Address) → option_map (address_in b) r ≡ Some c → (b ≡ c.block) × (r ≡ Some c.pointer)
    mapped_some b None c e = absurd (not_some c (sym e))
    mapped_some b (Some m) c e = let z : address_in b m ≡ c = cc in (ap (λ (x : Address). x.block) z, ap (λ (x : Address). Some x.pointer) z)

    -- a visible version of a block where nothing is found does not lie above a
    block_none : (e : Address) (w : Version) → searched e.block ≡ None → slot_in pages e ≡ holds w → visible told sn w ≡ true → is_above e a ≡ false
    block_none e w n s v = go (cases_Bool (is_above e a))
      where
        go : (is_above e a ≡ true) ⊎ (is_above e a ≡ false) → is_above e a ≡ false
        go (inr h) = h
        go (inl h) =
            let l : a.block ≤ e.block = grind (arith, nat_tests) in
            let i = held_in pages e w s in
            let none = mapped_none e.block _ (sym (skip_at on_block a.block e.block l) ∙ n) in
            let unseen = on_none (page_at pages e.block) (start_in a e.block) none e.pointer i.pointer_low i.pointer_high (above_start e i.pointer_low h) in
            absurd (both_ways _ unseen (rw s v))

    -- nothing is found: no visible version lies above a
    pub next_none : next_in told sn pages a ≡ None → (e : Address) (w : Version) → slot_in pages e ≡ holds w → visible told sn w ≡ true → is_above e a ≡ false
    next_none n e w s v = block_none e w (below_none searched (length pages) n e.block (held_in pages e w s).block_in) s v

    -- c is found in block b
    record FoundIn (b : ℕ) (c : Address) : Type 0 where
      pub not_before : a.block ≤ b
      pub block_is : b ≡ c.block
      pub on_page : next_on told sn (page_at pages b) (start_in a b) ≡ Some c.pointer

    block_some : (b : ℕ) (c : Address) → searched b ≡ Some c → FoundIn b c
    block_some b c e = go (cases_lt b a.block)
      where
        go : (b < a.block) ⊎ (a.block ≤ b) → FoundIn b c
        go (inl l) = let h = lt-ltb b a.block l in absurd (not_some c (sym (rw h at e)))
        go (inr l) = let m = mapped_some b _ c (sym (skip_at on_block a.block b l) ∙ e) in record { not_before = l; block_is = m.0; on_page = m.1 }

    -- c is lowest: the blocks below have no visible version above a, and its own block has none below it
    lowest_in : (c : Address) → a.block ≤ c.block → FoundOn (page_at pages c.block) (start_in a c.block) c.pointer
        → ((b : ℕ) → b < c.block → searched b ≡ None) → Lowest c
    lowest_in c l o none =
        let s = shows (slot_in pages c) o.is_visible in
        record {
          what = s.0;
          is = s.1;
          is_visible = s.2;
          is_above_lem = let h = o.is_above_lem in grind (arith, nat_tests);
          block_in = (held_in pages c s.0 s.1).block_in;
          lowest = lowest;
        }
      where
        lowest : (e : Address) (w : Version) → slot_in pages e ≡ holds w → visible told sn w ≡ true → is_above e a ≡ true → is_above c e ≡ false
        lowest e w s v h = go (cases_order e.block c.block) (cases_lt e.pointer c.pointer)
          where
            go : (e.block ≡ c.block) ⊎ ((e.block < c.block) ⊎ (c.block < e.block)) → (e.pointer < c.pointer) ⊎ (c.pointer ≤ e.pointer) → is_above c e ≡ false
            go (inl x) (inl y) =
                let i = held_in pages e w s in
                let j : start_in a c.block < e.pointer = rw x at (above_start e i.pointer_low h) in
                absurd (both_ways _ (o.lowest e.pointer i.pointer_low j y) (rw (sym x, s) v))
            go (inl x) (inr y) = grind (arith, nat_tests)
            go (inr (inl x)) y = absurd (both_ways _ (block_none e w (none e.block x) s v) h)
            go (inr (inr x)) y = grind (arith, nat_tests)

    pub next_some : (c : Address) → next_in told sn pages a ≡ Some c → Lowest c
    next_some c e =
        let o = below_some searched (length pages) c e in
        let h = block_some o.at c o.is in
        let b = h.block_is in
        let p : next_on told sn (page_at pages c.block) (start_in a c.block) ≡ Some c.pointer = rw b at h.on_page in
        lowest_in c (omega (arith, h.not_before)) (on_some (page_at pages c.block) (start_in a c.block) c.pointer p)
        (λ k l. o.none_before k (omega arith))

-- By the ledger: what is found is the first listed version above a, or there is none.
module _ (d : Transactions) (l : Ledger) (base low : ℕ) (g : Agrees d l.transactions base low) (pages : List (List ℕ))
    (q : SlotsAgree d l.transactions l.versions base low (slot_in pages)) (k : ℕ) (sn : SnapshotData) (pl : get_or d.places k None ≡ Some sn) where
  abbrev there : (v : ℕ) → Listed l k v → There d l base low g (slot_in pages) q k sn pl v
  there = listed_there d l base low g (slot_in pages) q k sn pl

  first_past : (a c : Address) (o : Lowest d.source.status sn pages a c) → FirstPast l k a (record { address = c; row = o.what.row })
  first_past a c o =
      let at = address_listed d l base low g (slot_in pages) q k sn pl c o.what o.is in
      record {
        version = id_at l.versions c;
        listed = visible_listed d l base low g (slot_in pages) q k sn pl c o.what o.is o.is_visible;
        is = record { same_address_lem = sym at; same_bytes = row_listed d l base low g (slot_in pages) q k sn pl c o.what o.is };
        past = rw at o.is_above_lem;
        lowest = λ w y p. let t = there w y in rw at (o.lowest (l.versions.entry w).address t.what t.is t.is_visible p);
      }

  pub next_right : (a : Address) → NextIs l k a (handed pages (next_in d.source.status sn pages a))
  next_right a = go (next_in d.source.status sn pages a) refl
    where
      go : (r : Option Address) → next_in d.source.status sn pages a ≡ r → NextIs l k a (handed pages r)
      go None e = λ v y p.
          let t = there v y in
          both_ways _ (next_none d.source.status sn pages a e (l.versions.entry v).address t.what t.is t.is_visible) p
      go (Some c) e = let o = next_some d.source.status sn pages a c e in rw o.is (first_past a c o)
