-- A fetch by a row's first address gives the row's listed version.
use Rattle.std.proofs.Common.{◌≡◌, ℕ, zero, suc, ◌<◌, ◌≤◌, Bool, true, false, cond, eqb, ◌⊎◌, List, [], ◌∷◌, ◌++◌, length, get_or, Some, None, Option, sym, refl, ap, ◌∙◌, subst, inl, inr, add-one, arith}
use Rattle.std.specs.Option.{option_map}
use Rattle.std.proofs.lemmas.List.{get_or_past}
use Rattle.std.proofs.lemmas.Bool.{cases_eq, cases_lt, cases_Bool, both_ways, eqb-true, eq-eqb, or_cases, or_left, or_right, not-true, cond-false}
use Rattle.page.specs.Headers.{count_of}
use Rattle.page.specs.Slots.{Version, Slot, slot_no}
use Rattle.page.specs.Slots.Slot.{unused, dead, redirect, holds}
use Rattle.page.specs.declared.versions.Address.{Address}
use Rattle.page_check.proofs.Slots.{slot_no_past}
use Rattle.page_laws.specs.Chains.{chain}
use Rattle.page_prune.specs.Chains.{start_of, member}
use Rattle.page_prune.proofs.Walks.{chain_more}
use Rattle.snapshot.specs.Snapshots.{SnapshotData}
use Rattle.heap_read.specs.Fates.{visible}
use Rattle.heap_read.specs.Links.{is_root, link_from, first_in, fetch_in}
use Rattle.heap_read.specs.Reading.{visible_slot, address_in, found_in, FoundRow, handed}
use Rattle.history.specs.Archive.{Transactions, page_at, slot_in}
use Rattle.history.specs.Ledger.{Ledger, Listed}
use Rattle.history.specs.Claim.{FetchIs}
use Rattle.history.proofs.Invariant.{Agrees, Order, SlotsAgree, id_at}
use Rattle.history.proofs.Visible.{visible_listed, listed_there}
use Rattle.history.proofs.Ways.{Page, addr, slot, link, id, maker, root_of, is_alive, stands, linked, along, way, none_on, way_full, way_on, on_way}
use Rattle.history.proofs.Reaching.{start, start_own, start_to, Starts, starts, row, reached}

-- The first of a list that passes a test.

data First (f : ℕ → Bool) (l : List ℕ) : Option ℕ → Type 0 where
  none : ((m : ℕ) → member m l ≡ true → f m ≡ true → ⊥) → First f l None
  one : (m : ℕ) → member m l ≡ true → f m ≡ true → First f l (Some m)

first : (f : ℕ → Bool) (l : List ℕ) → First f l (first_in f l)
first f [] = none (λ m h e. both_ways false refl h)
first f (x ∷ l) = go (cases_Bool (f x)) (first_in f l) (first f l)
  where
    go : (f x ≡ true) ⊎ (f x ≡ false) → (r : Option ℕ) → First f l r → First f (x ∷ l) (cond (f x) (Some x) r)
    go (inl e) r k = rw e (one x (or_left _ _ (eq-eqb x x refl)) e)
    go (inr e) _ (one m h y) = rw e (one m (or_right (eqb m x) _ h) y)
    go (inr e) _ (none k) = rw e (none (λ m h y. on m y (or_cases _ _ h)))
      where
        on : (m : ℕ) → f m ≡ true → (eqb m x ≡ true) ⊎ (member m l ≡ true) → ⊥
        on m y (inl z) = both_ways _ e (ap f (sym (eqb-true m x z)) ∙ y)
        on m y (inr z) = k m z y

member_behind : (before l : List ℕ) (m : ℕ) → member m l ≡ true → member m (before ++ l) ≡ true
member_behind [] l m h = h
member_behind (x ∷ before) l m h = or_right (eqb m x) _ (member_behind before l m h)

visible_holds : (d : Transactions) (sn : SnapshotData) (s : Slot) → visible_slot d.source.status sn s ≡ true
    → (v : Version) × (s ≡ holds v) × (visible d.source.status sn v ≡ true)
visible_holds d sn unused e = absurd (both_ways false refl e)
visible_holds d sn dead e = absurd (both_ways false refl e)
visible_holds d sn (redirect t) e = absurd (both_ways false refl e)
visible_holds d sn (holds v) e = (v, refl, e)

module _ (d : Transactions) (l : Ledger) (base low : ℕ) (g : Agrees d l.transactions base low) (o : Order l.transactions l.versions) (pages : List (List ℕ))
    (q : SlotsAgree d l.transactions l.versions base low (slot_in pages)) where
  -- the first address of a row is a root, on a page that exists
  pub root_there : (v : ℕ) → v < l.versions.added → is_root (slot_in pages (l.versions.entry v).root) ≡ true
  root_there v h = q.rows.root_is v h

  pub root_block : (v : ℕ) → v < l.versions.added → (l.versions.entry v).root.block < length pages
  root_block v h = go (cases_lt (l.versions.entry v).root.block (length pages))
    where
      no_page : (n : ℕ) → slot_no [] n ≡ unused
      no_page zero = refl
      no_page (suc n) = slot_no_past [] (suc n) (omega arith)

      go : ((l.versions.entry v).root.block < length pages) ⊎ (length pages ≤ (l.versions.entry v).root.block) → (l.versions.entry v).root.block < length pages
      go (inl x) = x
      go (inr x) =
          absurd (both_ways false refl (ap is_root (sym (ap (λ (p : List ℕ). slot_no p (l.versions.entry v).root.pointer) (get_or_past pages (l.versions.entry v).root.block [] x)
          ∙ no_page (l.versions.entry v).root.pointer)) ∙ root_there v h))

  module _ (k : ℕ) (sn : SnapshotData) (pl : get_or d.places k None ≡ Some sn) (bk : ℕ) where
    abbrev w : Page
    w = record {
      xacts = d;
      log = l.transactions;
      versions = l.versions;
      base = base;
      low = low;
      agrees = g;
      order = o;
      slot_at = slot_in pages;
      slots = q;
      block = bk;
      bytes = page_at pages bk;
      same = λ n. refl;
    }

    abbrev sees : ℕ → Bool
    sees n = visible_slot d.source.status sn (slot_no (page_at pages bk) n)

    -- what is visible is listed
    seen_listed : (n : ℕ) → sees n ≡ true → Listed l k (id w n)
    seen_listed n e =
        let v = visible_holds d sn (slot w n) e in
        visible_listed d l base low g (slot_in pages) q k sn pl (addr w n) v.0 v.1 v.2

    -- a place that keeps the maker of a version keeps those of all before it on a way
    kept_back : (m n : ℕ) (v : Version) → slot w n ≡ holds v → member m (way w n) ≡ true → l.transactions.keeps k (maker w m) ≡ true → l.transactions.keeps k (maker w n) ≡ true
    kept_back m = along w (λ n. member m (way w n) ≡ true → l.transactions.keeps k (maker w m) ≡ true → l.transactions.keeps k (maker w n) ≡ true) (λ h. absurd (none_on w m 0 refl h)) step
      where
        step : (n : ℕ) (v : Version) → slot w n ≡ holds v
            → (member m (way w (link w n)) ≡ true → l.transactions.keeps k (maker w m) ≡ true → l.transactions.keeps k (maker w (link w n)) ≡ true)
            → member m (way w n) ≡ true → l.transactions.keeps k (maker w m) ≡ true → l.transactions.keeps k (maker w n) ≡ true
        step n v e ih h kept = go (or_cases _ _ (ap (member m) (sym (way_on w n v e)) ∙ h)) (cases_eq (link w n) 0)
          where
            go : (eqb m n ≡ true) ⊎ (member m (way w (link w n)) ≡ true) → (link w n ≡ 0) ⊎ (link w n ≡ 0 → ⊥) → l.transactions.keeps k (maker w n) ≡ true
            go (inl x) z = ap (λ (j : ℕ). l.transactions.keeps k (maker w j)) (sym (eqb-true m n x)) ∙ kept
            go (inr x) (inl z) = absurd (none_on w m (link w n) z x)
            go (inr x) (inr z) = o.kept_after k (id w n) (maker w (link w n)) (linked w n v e z).is_recorded (ih x kept)

    -- behind a visible version none is visible
    none_behind : (n : ℕ) (v : Version) → slot w n ≡ holds v → sees n ≡ true → (m : ℕ) → member m (way w (link w n)) ≡ true → sees m ≡ true → ⊥
    none_behind n v e s m h t = go (cases_eq (link w n) 0)
      where
        go : (link w n ≡ 0) ⊎ (link w n ≡ 0 → ⊥) → ⊥
        go (inl z) = none_on w m (link w n) z h
        go (inr z) =
            let j = linked w n v e z in
            both_ways _ ((seen_listed n s).none_kept (maker w (link w n)) j.is_recorded) (kept_back m (link w n) j.what j.is h (seen_listed m t).maker_kept)

    -- so on a way at most one is
    only_one : (a b n : ℕ) (v : Version) → slot w n ≡ holds v → member a (way w n) ≡ true → sees a ≡ true → member b (way w n) ≡ true → sees b ≡ true → a ≡ b
    only_one a b =
        along w (λ n. member a (way w n) ≡ true → sees a ≡ true → member b (way w n) ≡ true → sees b ≡ true → a ≡ b)
        (λ h s h' s'. absurd (none_on w a 0 refl h)) step
      where
        step : (n : ℕ) (v : Version) → slot w n ≡ holds v → (member a (way w (link w n)) ≡ true → sees a ≡ true → member b (way w (link w n)) ≡ true → sees b ≡ true → a ≡ b)
            → member a (way w n) ≡ true → sees a ≡ true → member b (way w n) ≡ true → sees b ≡ true → a ≡ b
        step n v e ih h s h' s' = go (or_cases _ _ (ap (member a) (sym (way_on w n v e)) ∙ h)) (or_cases _ _ (ap (member b) (sym (way_on w n v e)) ∙ h'))
          where
            go : (eqb a n ≡ true) ⊎ (member a (way w (link w n)) ≡ true) → (eqb b n ≡ true) ⊎ (member b (way w (link w n)) ≡ true) → a ≡ b
            go (inl x) (inl y) = eqb-true a n x ∙ sym (eqb-true b n y)
            go (inl x) (inr y) = absurd (none_behind n v e (ap sees (sym (eqb-true a n x)) ∙ s) b y s')
            go (inr x) (inl y) = absurd (none_behind n v e (ap sees (sym (eqb-true b n y)) ∙ s') a x s)
            go (inr x) (inr y) = ih x s y s'

    -- the walk from a root passes over a redirect or a dead pointer, and then is the way from the chain's start
    from_root : (r : ℕ) → is_root (slot w r) ≡ true → first_in sees (chain (link w) (suc (count_of (page_at pages bk))) r) ≡ first_in sees (way w (start w r))
    from_root r e = go (slot w r) refl e
      where
        past_it : (t : ℕ) → link w r ≡ t → start w r ≡ t → sees r ≡ false → (r ≡ 0 → ⊥)
            → first_in sees (chain (link w) (suc (count_of (page_at pages bk))) r) ≡ first_in sees (way w (start w r))
        past_it t x y s z =
            ap (first_in sees) (chain_more (link w) (count_of (page_at pages bk)) r z) ∙ cond-false (sees r) (Some r) (first_in sees (way w (link w r))) s
            ∙ ap (λ (j : ℕ). first_in sees (way w j)) (x ∙ sym y)

        is_there : r ≡ 0 → ⊥
        is_there z = both_ways false refl (ap (λ (j : ℕ). is_root (slot w j)) (sym z) ∙ e)

        go : (x : Slot) → slot w r ≡ x → is_root x ≡ true → first_in sees (chain (link w) (suc (count_of (page_at pages bk))) r) ≡ first_in sees (way w (start w r))
        go unused x h = absurd (both_ways false refl h)
        go dead x h = past_it 0 (ap (link_from d.source.status bk (slot w)) x) (ap (start_of r) x) (ap (visible_slot d.source.status sn) x) is_there
        go (redirect t) x h = past_it t (ap (link_from d.source.status bk (slot w)) x) (start_to w r t x) (ap (visible_slot d.source.status sn) x) is_there
        go (holds v) x h =
            ap (λ (f : ℕ). first_in sees (chain (link w) f r)) (sym (add-one (count_of (page_at pages bk)))) ∙ ap (first_in sees) (way_full w r v x 1)
            ∙ ap (λ (j : ℕ). first_in sees (way w j)) (sym (start_own w r v x (not-true _ h)))

    -- a listed version of the row is visible, and lies on the chain of the row's root
    record Lies (r v : ℕ) : Type 0 where
      pointer : ℕ
      id_is : id w pointer ≡ v
      is_seen_lem : sees pointer ≡ true
      is_on : member pointer (way w (start w r)) ≡ true

    lies : (r v : ℕ) → Listed l k v → (l.versions.entry v).root ≡ addr w r → Lies r v
    lies r v y z =
        let t = listed_there d l base low g (slot_in pages) q k sn pl v y in
        let n = (l.versions.entry v).address.pointer in
        let a : (l.versions.entry v).address ≡ addr w n
        = ap (λ (c : ℕ). address_in c n) (sym (q.rows.root_block v y.is_added) ∙ ap (λ (c : Address). c.block) z) in
        let e : slot w n ≡ holds t.what = ap (slot_in pages) (sym a) ∙ t.is in
        let i : id w n ≡ v = ap (id_at l.versions) (sym a) ∙ t.id in
        let m : is_alive w (maker w n) ≡ true = or_left _ _ (ap (λ (j : ℕ). l.transactions.committed (l.versions.entry j).maker) i ∙ g.kept_committed k _ y.maker_kept) in
        let c = reached w n t.what e m in
        let s : row w n ≡ r = ap (λ (j : ℕ). (l.versions.entry j).root.pointer) i ∙ ap (λ (c : Address). c.pointer) z in
        record {
          pointer = n;
          id_is = i;
          is_seen_lem = ap (visible_slot d.source.status sn) e ∙ t.is_visible;
          is_on = ap (λ (j : ℕ). member n (way w (start w j))) (sym s) ∙ ap (member n) c.1
              ∙ member_behind c.0 (way w n) n (ap (member n) (way_on w n t.what e) ∙ or_left _ _ (eq-eqb n n refl));
        }

    fetch_at : (r : ℕ) → is_root (slot w r) ≡ true → FetchIs l k (addr w r) (handed pages (fetch_in d.source.status sn pages (addr w r)))
    fetch_at r e =
        subst (λ (x : Option ℕ). FetchIs l k (addr w r) (handed pages (option_map (address_in bk) x))) (sym (from_root r e))
        (go (first_in sees (way w (start w r))) (first sees (way w (start w r))) (starts w r))
      where
        go : (x : Option ℕ) → First sees (way w (start w r)) x → (start w r ≡ 0) ⊎ Starts w r → FetchIs l k (addr w r) (handed pages (option_map (address_in bk) x))
        go _ (none h) s = λ v y z. let t = lies r v y z in h t.pointer t.is_on t.is_seen_lem
        go _ (one m h y) (inl z) = absurd (none_on w m (start w r) z h)
        go _ (one m h y) (inr s) =
            let v = visible_holds d sn (slot w m) y in
            subst (λ (x : Option FoundRow). FetchIs l k (addr w r) x) (sym (ap (found_in (addr w m)) v.1))
            (record {
              version = id w m;
              listed = seen_listed m y;
              is = record { same_address_lem = sym (stands w m v.0 v.1).address_is; same_bytes = (stands w m v.0 v.1).row_is };
              of_row = on_way w (λ j. root_of w j ≡ addr w r) (λ n u f j x. j.same_row ∙ x) m (start w r) s.what s.is s.row_is h;
              only = λ n x z. let t = lies r n x z in
                  sym t.id_is ∙ ap (id w) (only_one t.pointer m (start w r) s.what s.is t.is_on t.is_seen_lem h y);
            })

  -- the first visible version of the chain is the row's one listed version; without one, none is listed
  pub fetch_right : (k : ℕ) (sn : SnapshotData) → get_or d.places k None ≡ Some sn → (v : ℕ) → v < l.versions.added
      → FetchIs l k (l.versions.entry v).root (handed pages (fetch_in d.source.status sn pages (l.versions.entry v).root))
  fetch_right k sn pl v h = fetch_at k sn pl (l.versions.entry v).root.block (l.versions.entry v).root.pointer (root_there v h)
