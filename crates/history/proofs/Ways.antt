-- Links on a page lead to versions that were added later, so the way from a version along links ends within its page.
use Rattle.std.proofs.Common.{◌≡◌, ℕ, zero, suc, ◌+◌, ◌<◌, ◌≤◌, Bool, true, false, cond, eqb, ◌⊎◌, List, [], ◌∷◌, sym, refl, ap, ◌∙◌, subst, inl, inr, add-one, arith}
use Rattle.std.proofs.lemmas.Bool.{cases_eq, cases_lt, cases_Bool, both_ways, eqb-true, eq-eqb, and_parts, and_from, or_cases, or_left, not-true, not_from_false}
use Rattle.page.specs.Headers.{count_of}
use Rattle.page.specs.Slots.{Version, Slot, slot_no}
use Rattle.page.specs.Slots.Slot.{unused, dead, redirect, holds}
use Rattle.page.specs.declared.versions.Address.{Address}
use Rattle.page_check.specs.Rules.{is_made_by}
use Rattle.page_check.proofs.Slots.{slot_no_past}
use Rattle.page_laws.specs.Chains.{chain}
use Rattle.page_compact.proofs.Packing.{sum_to, packing}
use Rattle.page_prune.specs.Chains.{walk, member}
use Rattle.page_prune.proofs.Walks.{chain_none, chain_more, chain_full}
use Rattle.heap_read.specs.Fates.{creator_fate, remover_fate}
use Rattle.heap_read.specs.Links.{is_aborted, links_on, link_from, link_at}
use Rattle.heap_read.specs.Reading.{address_in}
use Rattle.heap_upkeep.specs.Dead.{is_removed}
use Rattle.history.specs.Archive.{Transactions}
use Rattle.history.specs.Ledger.{TransactionLog, VersionLog}
use Rattle.history.proofs.Invariant.{Agrees, Order, SlotsAgree, StandsIn, Before, alive, id_at, maker_at, root_at}
use Rattle.history.proofs.Fates.{creator_out_dead, remover_one, remover_alive}

-- the page of a block, where the slots of all pages agree with the ledger
pub record Page : Type 0 where
  pub xacts : Transactions
  pub log : TransactionLog
  pub versions : VersionLog
  pub base : ℕ
  pub low : ℕ
  pub agrees : Agrees xacts log base low
  pub order : Order log versions
  pub slot_at : Address → Slot
  pub slots : SlotsAgree xacts log versions base low slot_at
  pub block : ℕ
  pub bytes : List ℕ
  pub same : (n : ℕ) → slot_at (address_in block n) ≡ slot_no bytes n

-- a heap-only version with a given creator
made_by : (x : ℕ) (s : Slot) → is_made_by x s ≡ true → (u : Version) × (s ≡ holds u) × (u.heap_only ≡ true)
made_by x unused e = absurd (both_ways false refl e)
made_by x dead e = absurd (both_ways false refl e)
made_by x (redirect t) e = absurd (both_ways false refl e)
made_by x (holds u) e = (u, refl, (and_parts _ _ e).0)

ones : (n : ℕ) → sum_to (λ k. 1) n ≡ n
ones zero = refl
ones (suc n) = let e = ones n in omega arith

module _ (w : Page) where
  -- what the page has by number: the address, the slot, the link; the version that the ledger has there, and its row's first address
  abbrev pub addr : ℕ → Address
  addr n = address_in w.block n

  abbrev pub slot : ℕ → Slot
  slot n = slot_no w.bytes n

  abbrev pub link : ℕ → ℕ
  link n = link_at w.xacts.source.status w.block w.bytes n

  abbrev pub id : ℕ → ℕ
  id n = id_at w.versions (address_in w.block n)

  abbrev pub maker : ℕ → ℕ
  maker n = maker_at w.versions (address_in w.block n)

  abbrev pub root_of : ℕ → Address
  root_of n = root_at w.versions (address_in w.block n)

  abbrev pub is_alive : ℕ → Bool
  is_alive i = alive w.xacts w.log w.base w.low i

  pub within : (n : ℕ) → (slot n ≡ unused → ⊥) → (1 ≤ n) × (n ≤ count_of w.bytes)
  within n h = (go n h, low_enough (cases_lt (count_of w.bytes) n))
    where
      go : (n : ℕ) → (slot n ≡ unused → ⊥) → 1 ≤ n
      go zero h = absurd (h refl)
      go (suc n) h = omega arith

      low_enough : (count_of w.bytes < n) ⊎ (n ≤ count_of w.bytes) → n ≤ count_of w.bytes
      low_enough (inl l) = absurd (h (slot_no_past w.bytes n l))
      low_enough (inr l) = l

  module _ (n : ℕ) (v : Version) (e : slot n ≡ holds v) where
    pub held_within : (1 ≤ n) × (n ≤ count_of w.bytes)
    held_within = within n (λ z. let y : ◌≡◌ {A = ℕ} 0 1 = cc in absurd (omega arith))

    pub not_zero : n ≡ 0 → ⊥
    not_zero z = let k = held_within.0 in omega arith

    pub held : w.slot_at (addr n) ≡ holds v
    held = w.same n ∙ e

    pub stands : StandsIn w.xacts w.log w.versions w.base w.low (addr n) v
    stands = w.slots.stands (addr n) v held

    pub root_of_on : root_of n ≡ addr (root_of n).pointer
    root_of_on =
        let k = stands in
        ap (λ (c : ℕ). address_in c (root_of n).pointer) (w.slots.rows.root_block (id n) k.is_added ∙ ap (λ (a : Address). a.block) k.address_is)

    -- who is recorded with a version is not aborted: then its maker is not
    pub maker_alive : (i : ℕ) → w.versions.recorded (id n) i ≡ true → is_alive i ≡ true → is_alive (maker n) ≡ true
    maker_alive i r a = go (w.order.rec_after (id n) i r)
      where
        go : (w.log.committed (maker n) ≡ true) ⊎ (i ≡ maker n) → is_alive (maker n) ≡ true
        go (inl c) = or_left _ _ c
        go (inr c) = ap is_alive (sym c) ∙ a

    pub creator_alive : is_alive (maker n) ≡ true → is_aborted (creator_fate w.xacts.source.status v) ≡ false
    creator_alive a = go (cases_Bool (is_aborted (creator_fate w.xacts.source.status v)))
      where
        go : (is_aborted (creator_fate w.xacts.source.status v) ≡ true) ⊎ (is_aborted (creator_fate w.xacts.source.status v) ≡ false)
            → is_aborted (creator_fate w.xacts.source.status v) ≡ false
        go (inr x) = x
        go (inl x) = absurd (both_ways _ (creator_out_dead w.xacts w.log w.versions w.base w.low w.agrees (addr n) v stands x) a)

    link_is : link n ≡ cond (links_on w.xacts.source.status w.block slot v) v.ctid.pointer 0
    link_is = ap (link_from w.xacts.source.status w.block slot) e

    -- a version that is HOT-updated by a transaction that is not aborted links on to its ctid
    pub links_on_lem : v.hot_updated ≡ true → (i : ℕ) → w.versions.recorded (id n) i ≡ true → is_alive i ≡ true → v.ctid ≡ addr (link n)
    links_on_lem hot i r a =
        let f = w.slots.rows.follow (addr n) v held hot i r a in
        let c : v.ctid ≡ addr v.ctid.pointer = ap (λ (c : ℕ). address_in c v.ctid.pointer) f.near in
        let s : slot v.ctid.pointer ≡ holds f.what = sym (w.same v.ctid.pointer) ∙ ap w.slot_at (sym c) ∙ f.is in
        let m : is_made_by v.remover (slot v.ctid.pointer) ≡ true
        = ap (is_made_by v.remover) s ∙ and_from _ _ f.only (eq-eqb _ _ f.by) in
        let l : links_on w.xacts.source.status w.block slot v ≡ true
        = and_from _ _ (and_from _ _ (and_from _ _ (and_from _ _ hot (eq-eqb _ _ f.near)) m) (not_from_false _ (creator_alive (maker_alive i r a))))
        (not_from_false _ (remover_alive w.xacts w.log w.versions w.base w.low w.agrees (addr n) v stands i r a)) in
        c ∙ ap addr (sym (link_is ∙ rw l))

    -- the version that it links on to
    pub record Linked : Type 0 where
      pub what : Version
      pub is : slot (link n) ≡ holds what
      pub only : what.heap_only ≡ true
      pub creator_in : is_aborted (creator_fate w.xacts.source.status v) ≡ false
      pub rises : id n < id (link n)
      pub same_row : root_of (link n) ≡ root_of n
      pub is_alive_lem : is_alive (maker (link n)) ≡ true
      pub is_recorded : w.versions.recorded (id n) (maker (link n)) ≡ true
      pub committed_is : is_removed (remover_fate w.xacts.source.status v) ≡ w.log.committed (maker (link n))

    pub linked : (link n ≡ 0 → ⊥) → Linked
    linked h = go (cases_Bool (links_on w.xacts.source.status w.block slot v))
      where
        go : (links_on w.xacts.source.status w.block slot v ≡ true) ⊎ (links_on w.xacts.source.status w.block slot v ≡ false) → Linked
        go (inr l) = absurd (h (link_is ∙ rw l))
        go (inl l) =
            let p4 = and_parts _ _ l in
            let p3 = and_parts _ _ p4.0 in
            let p2 = and_parts _ _ p3.0 in
            let p1 = and_parts _ _ p2.0 in
            let u = made_by v.remover (slot v.ctid.pointer) p2.1 in
            let to : v.ctid.pointer ≡ link n = sym (link_is ∙ rw l) in
            let at : v.ctid ≡ addr (link n) = ap (λ (c : ℕ). address_in c v.ctid.pointer) (eqb-true _ _ p1.1) ∙ ap addr to in
            let r = remover_one w.xacts w.log w.versions w.base w.low w.agrees (addr n) v stands (not-true _ p4.1) in
            let f = w.slots.rows.follow (addr n) v held p1.0 r.who r.is_recorded r.is_alive_lem in
            let m : maker (link n) ≡ r.who = ap (maker_at w.versions) (sym at) ∙ f.maker_is in
            record {
              what = u.0;
              is = ap slot (sym to) ∙ u.1;
              only = u.2;
              creator_in = not-true _ p3.1;
              rises = subst (λ (a : Address). id n < id_at w.versions a) at f.later;
              same_row = ap (root_at w.versions) (sym at) ∙ f.same_row;
              is_alive_lem = ap is_alive m ∙ r.is_alive_lem;
              is_recorded = ap (w.versions.recorded (id n)) m ∙ r.is_recorded;
              committed_is = r.committed_is ∙ ap w.log.committed (sym m);
            }

  -- the version before another links on to it
  pub record Linking (n : ℕ) (k : Before w.versions w.slot_at (addr n)) : Type 0 where
    pub from_is : k.from ≡ addr k.from.pointer
    pub is : slot k.from.pointer ≡ holds k.what
    pub link_is : link k.from.pointer ≡ n

  pub linking : (n : ℕ) → is_alive (maker n) ≡ true → (k : Before w.versions w.slot_at (addr n)) → Linking n k
  linking n a k =
      let f = w.slots.rows.follow k.from k.what k.is k.is_hot_lem (maker n) k.made_by a in
      let z : k.from ≡ addr k.from.pointer
      = ap (λ (c : ℕ). address_in c k.from.pointer) (sym f.near ∙ ap (λ (x : Address). x.block) k.to_is) in
      let s : slot k.from.pointer ≡ holds k.what = sym (w.same k.from.pointer) ∙ ap w.slot_at (sym z) ∙ k.is in
      let l = links_on_lem k.from.pointer k.what s k.is_hot_lem (maker n) (ap (λ (x : Address). w.versions.recorded (id_at w.versions x) (maker n)) (sym z) ∙ k.made_by) a in
      record { from_is = z; is = s; link_is = ap (λ (x : Address). x.pointer) (sym l ∙ k.to_is) }

  -- Induction along links: from no link at all back to each version before.
  pub along : (P : ℕ → Type 0) → P 0 → ((n : ℕ) (v : Version) → slot n ≡ holds v → P (link n) → P n) → (n : ℕ) (v : Version) → slot n ≡ holds v → P n
  along P none step n v e = go w.versions.added n v e (omega arith)
    where
      go : (f n : ℕ) (v : Version) → slot n ≡ holds v → w.versions.added ≤ id n + f → P n
      go zero n v e h = let k = (stands n v e).is_added in absurd (omega arith)
      go (suc f) n v e h = step n v e (on (cases_eq (link n) 0) (λ l. go f (link n) l.what l.is (let k = l.rises in omega arith)))
        where
          on : (link n ≡ 0) ⊎ (link n ≡ 0 → ⊥) → (Linked n v e → P (link n)) → P (link n)
          on (inl z) ih = subst P (sym z) none
          on (inr z) ih = ih (linked n v e z)

  -- The way from a version along links, the version itself first.

  abbrev pub way : ℕ → List ℕ
  way n = chain (link_at w.xacts.source.status w.block w.bytes) (count_of w.bytes) n

  pub way_none : way 0 ≡ []
  way_none = chain_none link (count_of w.bytes)

  pub none_on : (m n : ℕ) → n ≡ 0 → member m (way n) ≡ true → ⊥
  none_on m n z h = both_ways false refl (ap (member m) (sym (ap way z ∙ way_none)) ∙ h)

  module _ (n : ℕ) (v : Version) (e : slot n ≡ holds v) where
    walk_held : (i : ℕ) → (walk link i n ≡ 0 → ⊥) → (u : Version) × (slot (walk link i n) ≡ holds u)
    walk_held zero h = (v, e)
    walk_held (suc i) h =
        let r = walk_held i (λ z. h (ap link z)) in
        let l = linked (walk link i n) r.0 r.1 h in
        (l.what, l.is)

    walk_rises : (i k : ℕ) → i < k → (walk link k n ≡ 0 → ⊥) → id (walk link i n) < id (walk link k n)
    walk_rises i zero l h = absurd (omega arith)
    walk_rises i (suc k) l h = go (cases_eq i k) (λ m. walk_rises i k (omega arith) (λ z. h (ap link z)))
      where
        one : id (walk link k n) < id (walk link (suc k) n)
        one = let r = walk_held k (λ z. h (ap link z)) in (linked (walk link k n) r.0 r.1 h).rises

        go : (i ≡ k) ⊎ (i ≡ k → ⊥) → ((i ≡ k → ⊥) → id (walk link i n) < id (walk link k n)) → id (walk link i n) < id (walk link (suc k) n)
        go (inl z) ih = rw z one
        go (inr z) ih = let a = ih z in let b = one in omega arith

    not_yet : (i k : ℕ) → i ≤ k → (walk link k n ≡ 0 → ⊥) → walk link i n ≡ 0 → ⊥
    not_yet i zero l h z = h (let y : 0 ≡ i = omega arith in ap (λ (j : ℕ). walk link j n) y ∙ z)
    not_yet i (suc k) l h z = go (cases_eq i (suc k)) (λ m. not_yet i k (omega arith) (λ y. h (ap link y)) z)
      where
        go : (i ≡ suc k) ⊎ (i ≡ suc k → ⊥) → ((i ≡ suc k → ⊥) → ⊥) → ⊥
        go (inl y) ih = h (ap (λ (j : ℕ). walk link j n) (sym y) ∙ z)
        go (inr y) ih = ih y

    -- as many steps as there are pointers lead to the end: otherwise a number came twice
    way_ends : walk link (count_of w.bytes) n ≡ 0
    way_ends = go (cases_eq (walk link (count_of w.bytes) n) 0)
      where
        go : (walk link (count_of w.bytes) n ≡ 0) ⊎ (walk link (count_of w.bytes) n ≡ 0 → ⊥) → walk link (count_of w.bytes) n ≡ 0
        go (inl z) = z
        go (inr h) = absurd (let o = ones (suc (count_of w.bytes)) in let k = packed in omega arith)
          where
            there : (i : ℕ) → i < suc (count_of w.bytes) → walk link i n ≡ 0 → ⊥
            there i l = not_yet i (count_of w.bytes) (omega arith) h

            in_page : (i : ℕ) → i < suc (count_of w.bytes) → (1 ≤ walk link i n) × (walk link i n ≤ count_of w.bytes)
            in_page i l = let r = walk_held i (there i l) in held_within (walk link i n) r.0 r.1

            apart : (i k : ℕ) → i < k → k < suc (count_of w.bytes) → (walk link i n + 1 ≤ walk link k n) ⊎ (walk link k n + 1 ≤ walk link i n)
            apart i k l m = by (cases_lt (walk link i n) (walk link k n)) (cases_eq (walk link i n) (walk link k n))
              where
                by : (walk link i n < walk link k n) ⊎ (walk link k n ≤ walk link i n) → (walk link i n ≡ walk link k n) ⊎ (walk link i n ≡ walk link k n → ⊥)
                    → (walk link i n + 1 ≤ walk link k n) ⊎ (walk link k n + 1 ≤ walk link i n)
                by (inl a) x = inl (omega arith)
                by (inr a) (inr x) = inr (omega arith)
                by (inr a) (inl x) = absurd (let r : id (walk link i n) < id (walk link k n) = walk_rises i k l (there k m) in let y = ap id x in omega arith)

            packed : 1 + sum_to (λ k. 1) (suc (count_of w.bytes)) ≤ suc (count_of w.bytes)
            packed =
                packing (λ k. walk link k n) (λ k. 1) (suc (count_of w.bytes)) 1 (suc (count_of w.bytes)) (omega arith)
                (λ k l. inr (in_page k l).0) (λ k l. inr (let y = (in_page k l).1 in omega arith)) (λ j k l m. inr (inr (apart j k l m)))

    pub way_full : (d : ℕ) → chain link (count_of w.bytes + d) n ≡ way n
    way_full d = chain_full link refl (count_of w.bytes) d n way_ends

    pub way_on : way n ≡ n ∷ way (link n)
    way_on = sym (way_full 1) ∙ ap (λ (f : ℕ). chain link f n) (add-one (count_of w.bytes)) ∙ chain_more link (count_of w.bytes) n (not_zero n v e)

  -- what holds at the start of a way, and passes on along links, holds at each version of the way
  pub on_way : (P : ℕ → Type 0) → ((n : ℕ) (v : Version) (e : slot n ≡ holds v) → Linked n v e → P n → P (link n)) → (m n : ℕ) (v : Version) → slot n ≡ holds v
      → P n → member m (way n) ≡ true → P m
  on_way P pass m = along (λ n. P n → member m (way n) ≡ true → P m) (λ x h. absurd (none_on m 0 refl h)) step
    where
      step : (n : ℕ) (v : Version) → slot n ≡ holds v → (P (link n) → member m (way (link n)) ≡ true → P m) → P n → member m (way n) ≡ true → P m
      step n v e ih x h = go (or_cases _ _ (ap (member m) (sym (way_on n v e)) ∙ h)) (cases_eq (link n) 0)
        where
          go : (eqb m n ≡ true) ⊎ (member m (way (link n)) ≡ true) → (link n ≡ 0) ⊎ (link n ≡ 0 → ⊥) → P m
          go (inl y) z = subst P (sym (eqb-true m n y)) x
          go (inr y) (inl z) = absurd (none_on m (link n) z y)
          go (inr y) (inr z) = ih (pass n v e (linked n v e z) x) y
