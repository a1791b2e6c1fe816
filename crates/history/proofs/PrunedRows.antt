-- A prune keeps the rows, and takes only versions that no snapshot lists, now or later.
use Rattle.std.proofs.Common.{◌≡◌, ℕ, Bool, true, false, cond, ◌&&◌, ◌||◌, ◌⊎◌, List, [], ◌∷◌, ◌++◌, sym, refl, ap, ◌∙◌, subst, inl, inr, arith}
use Rattle.std.proofs.lemmas.Bool.{cases_eq, cases_Bool, both_ways, and_parts, or_cases, or_left, or_parts, or_from, cond-true, cond-false}
use Rattle.page.specs.Slots.{Version, Slot, slot_no, view_of}
use Rattle.page.specs.Slots.Slot.{unused, dead, redirect, holds}
use Rattle.page.specs.declared.versions.Address.{Address}
use Rattle.page_check.specs.Rules.{is_heap_only}
use Rattle.page_prune.specs.Chains.{any_dead, left}
use Rattle.page_prune.specs.Pruned.{leads_to, slot_after}
use Rattle.xid.specs.Numbers.{precedes}
use Rattle.heap_read.specs.Fates.{creator_fate, remover_fate}
use Rattle.heap_read.specs.Links.{is_aborted, is_none, link_at, is_root}
use Rattle.heap_read.specs.Reading.{address_in}
use Rattle.heap_read.specs.declared.fates.RemoverFate.{RemoverFate}
use Rattle.heap_read.specs.declared.fates.RemoverFate.TheVariants as remover
use Rattle.heap_upkeep.specs.Dead.{is_made, is_removed, dead_slot}
use Rattle.heap_upkeep.specs.Pruning.{dead_at}
use Rattle.history.specs.Archive.{Transactions, horizon}
use Rattle.history.specs.Checks.{place_taken}
use Rattle.history.specs.Ledger.{TransactionLog, VersionLog}
use Rattle.history.proofs.Ordered.{settled_maker}
use Rattle.history.proofs.Invariant.{Agrees, Order, Passed, Prior, Follow, Target, Rows, Account, SlotsAgree, pointer_in, id_at, maker_at, root_at}
use Rattle.history.proofs.Invariant.Account.{here, aborted, past}
use Rattle.history.proofs.Effects.{Prunes}
use Rattle.history.proofs.Fates.{remover_one}
use Rattle.history.proofs.Early.{early, horizon_fits}
use Rattle.history.proofs.Ways.{Page, addr, slot, link, id, maker, root_of, is_alive, not_zero, held, stands, root_of_on, maker_alive, creator_alive, links_on_lem}
use Rattle.history.proofs.Ways.{Linked, linked, Linking, linking, along, way, way_none, way_on}
use Rattle.history.proofs.Reaching.{root_not, start, start_own, start_to, Starts, starts, row, row_root, reached, dead_behind, left_all, left_behind}
use Rattle.history.proofs.Reaching.{gone, doomed, doomed_none, doomed_on, sound_alive, pruned_heap_only, pruned_led, pruned_not_led}

removed_some : (f : RemoverFate) → is_removed f ≡ true → is_none f ≡ false
removed_some remover.None e = absurd (both_ways false refl e)
removed_some remover.Pending e = refl
removed_some remover.Committed e = refl
removed_some remover.Unknown e = refl

-- What is doomed is passed.
module _ (w : Page) where
  abbrev Beyond : ℕ → Type 0
  Beyond n = Passed w.log w.versions (place_taken w.xacts) (id w n)

  -- a dead version whose creator is not aborted was removed before the horizon
  removed : (n : ℕ) (v : Version) → slot w n ≡ holds v → is_aborted (creator_fate w.xacts.source.status v) ≡ false → gone w n ≡ true
      → (precedes v.remover (horizon w.xacts) ≡ true) × (is_removed (remover_fate w.xacts.source.status v) ≡ true)
  removed n v e a g = go (or_cases _ _ (ap (dead_slot w.xacts.source.status (horizon w.xacts)) (sym e) ∙ g))
    where
      go : (is_aborted (creator_fate w.xacts.source.status v) ≡ true)
          ⊎ ((is_made (creator_fate w.xacts.source.status v) && precedes v.remover (horizon w.xacts) && is_removed (remover_fate w.xacts.source.status v)) ≡ true)
          → (precedes v.remover (horizon w.xacts) ≡ true) × (is_removed (remover_fate w.xacts.source.status v) ≡ true)
      go (inl z) = absurd (both_ways _ a z)
      go (inr z) = let y = and_parts _ _ z in ((and_parts _ _ y.0).1, y.1)

  -- so its remover is settled
  dead_passed : (n : ℕ) (v : Version) → slot w n ≡ holds v → is_alive w (maker w n) ≡ true → gone w n ≡ true → Beyond n
  dead_passed n v e a g =
      let y = removed n v e (creator_alive w n v e a) g in
      let r = remover_one w.xacts w.log w.versions w.base w.low w.agrees (addr w n) v (stands w n v e) (removed_some _ y.1) in
      record {
        by = r.who;
        is_recorded = r.is_recorded;
        settled = early w.xacts w.log w.base w.low w.agrees (horizon w.xacts) (horizon_fits w.xacts w.log w.base w.low w.agrees)
            r.who r.begun r.current (sym r.committed_is ∙ y.1) (ap (λ (k : ℕ). precedes k (horizon w.xacts)) (sym r.number) ∙ y.0);
      }

  -- and so is each version before it on its chain, whose remover made the next
  doomed_passed : (n : ℕ) (v : Version) → slot w n ≡ holds v → is_alive w (maker w n) ≡ true → doomed w n ≡ true → Beyond n
  doomed_passed = along w (λ n. is_alive w (maker w n) ≡ true → doomed w n ≡ true → Beyond n) (λ a d. absurd (both_ways _ (doomed_none w) d)) step
    where
      step : (n : ℕ) (v : Version) → slot w n ≡ holds v → (is_alive w (maker w (link w n)) ≡ true → doomed w (link w n) ≡ true → Beyond (link w n))
          → is_alive w (maker w n) ≡ true → doomed w n ≡ true → Beyond n
      step n v e ih a d = go (or_cases _ _ (sym (doomed_on w n v e) ∙ d)) (cases_eq (link w n) 0)
        where
          go : (gone w n ≡ true) ⊎ (doomed w (link w n) ≡ true) → (link w n ≡ 0) ⊎ (link w n ≡ 0 → ⊥) → Beyond n
          go (inl x) z = dead_passed n v e a x
          go (inr x) (inl z) = absurd (both_ways _ (doomed_none w) (ap (doomed w) (sym z) ∙ x))
          go (inr x) (inr z) =
              let l = linked w n v e z in
              record {
                by = maker w (link w n);
                is_recorded = l.is_recorded;
                settled = settled_maker w.log w.versions (place_taken w.xacts) w.order (id w (link w n)) (ih l.is_alive_lem x);
              }

  -- the first version that is left of a chain with a dead one: its maker removed the version before it, and is committed
  record Survivor (r : Address) (m : ℕ) : Type 0 where
    what : Version
    is : slot w m ≡ holds what
    only : what.heap_only ≡ true
    is_committed_lem : w.log.committed (maker w m) ≡ true
    row_is : root_of w m ≡ r
    sound : doomed w m ≡ false

  survivor : (r : Address) (m : ℕ) (ms : List ℕ) (n : ℕ) (v : Version) → slot w n ≡ holds v → root_of w n ≡ r → doomed w n ≡ true → left (gone w) (way w n) ≡ m ∷ ms
      → Survivor r m
  survivor r m ms = along w (λ n. root_of w n ≡ r → doomed w n ≡ true → left (gone w) (way w n) ≡ m ∷ ms → Survivor r m) (λ x d l. absurd (both_ways _ (doomed_none w) d)) step
    where
      step : (n : ℕ) (v : Version) → slot w n ≡ holds v → (root_of w (link w n) ≡ r → doomed w (link w n) ≡ true → left (gone w) (way w (link w n)) ≡ m ∷ ms → Survivor r m)
          → root_of w n ≡ r → doomed w n ≡ true → left (gone w) (way w n) ≡ m ∷ ms → Survivor r m
      step n v e ih x d l = go (cases_eq (link w n) 0) (cases_Bool (doomed w (link w n)))
        where
          c : (gone w n || doomed w (link w n)) ≡ true
          c = sym (doomed_on w n v e) ∙ d

          rest : left (gone w) (way w (link w n)) ≡ m ∷ ms
          rest = sym (ap (left (gone w)) (way_on w n v e) ∙ cond-true (gone w n || doomed w (link w n)) (left (gone w) (way w (link w n))) (n ∷ way w (link w n)) c) ∙ l

          is_gone_lem : doomed w (link w n) ≡ false → gone w n ≡ true
          is_gone_lem f = by (or_cases _ _ c)
            where
              by : (gone w n ≡ true) ⊎ (doomed w (link w n) ≡ true) → gone w n ≡ true
              by (inl z) = z
              by (inr z) = absurd (both_ways _ f z)

          go : (link w n ≡ 0) ⊎ (link w n ≡ 0 → ⊥) → (doomed w (link w n) ≡ true) ⊎ (doomed w (link w n) ≡ false) → Survivor r m
          go (inl z) f =
              let y : [] ≡ m ∷ ms = sym (ap (λ (k : ℕ). left (gone w) (way w k)) z ∙ ap (left (gone w)) (way_none w)) ∙ rest in
              let q : ◌≡◌ {A = ℕ} 0 1 = cc in absurd (omega arith)
          go (inr z) (inl f) = ih ((linked w n v e z).same_row ∙ x) f rest
          go (inr z) (inr f) =
              let k = linked w n v e z in
              let y : link w n ∷ way w (link w (link w n)) ≡ m ∷ ms = sym (left_all (gone w) (way w (link w n)) f ∙ way_on w (link w n) k.what k.is) ∙ rest in
              let s : link w n ≡ m = cc in
              subst (λ (j : ℕ). Survivor r j) s
              (record {
                what = k.what;
                is = k.is;
                only = k.only;
                is_committed_lem = sym k.committed_is ∙ (removed n v e k.creator_in (is_gone_lem f)).1;
                row_is = k.same_row ∙ x;
                sound = f;
              })

not_version : (l : List ℕ) (x : Slot) (v : Version) → slot_after (leads_to l) x ≡ holds v → ⊥
not_version [] x v e = let q : ◌≡◌ {A = ℕ} 0 1 = cc in omega arith
not_version (m ∷ l) x v e = let q : ◌≡◌ {A = ℕ} 0 1 = cc in omega arith

-- a slot holds a heap-only version, or none
slot_kind : (s : Slot) → ((v : Version) × (s ≡ holds v) × (v.heap_only ≡ true)) ⊎ (is_heap_only s ≡ false)
slot_kind unused = inr refl
slot_kind dead = inr refl
slot_kind (redirect n) = inr refl
slot_kind (holds v) = go (cases_Bool v.heap_only)
  where
    go : (v.heap_only ≡ true) ⊎ (v.heap_only ≡ false) → ((u : Version) × (holds v ≡ holds u) × (u.heap_only ≡ true)) ⊎ (v.heap_only ≡ false)
    go (inl h) = inl (v, refl, h)
    go (inr h) = inr h

-- The slots after a prune.
module _ (w : Page) (S' : Address → Slot) (pr : Prunes w.slot_at S' w.block (link w) (gone w) (view_of w.bytes)) where
  heap_only_after : (n : ℕ) (v : Version) → slot w n ≡ holds v → v.heap_only ≡ true → S' (addr w n) ≡ cond (doomed w n) unused (holds v)
  heap_only_after n v e h = pr.on n ∙ pruned_heap_only w n v e h

  led : (r : ℕ) → is_heap_only (slot w r) ≡ false → doomed w (start w r) ≡ true → S' (addr w r) ≡ slot_after (leads_to (left (gone w) (way w (start w r)))) (slot w r)
  led r h d = pr.on r ∙ pruned_led w r h d

  not_led : (r : ℕ) → is_heap_only (slot w r) ≡ false → doomed w (start w r) ≡ false → S' (addr w r) ≡ slot w r
  not_led r h d = pr.on r ∙ pruned_not_led w r h d

  -- a version stays if no version on its way is dead, and else goes
  keeps : (n : ℕ) (v : Version) → slot w n ≡ holds v → doomed w n ≡ false → S' (addr w n) ≡ holds v
  keeps n v e d = go (cases_Bool v.heap_only)
    where
      go : (v.heap_only ≡ true) ⊎ (v.heap_only ≡ false) → S' (addr w n) ≡ holds v
      go (inl h) = heap_only_after n v e h ∙ cond-false (doomed w n) unused (holds v) d
      go (inr h) = not_led n (ap is_heap_only e ∙ h) (ap (doomed w) (start_own w n v e h) ∙ d) ∙ e

  -- a version that is there was there, and has no dead one on its way
  stays : (n : ℕ) (v : Version) → S' (addr w n) ≡ holds v → (slot w n ≡ holds v) × (doomed w n ≡ false)
  stays n v f = go (slot_kind (slot w n))
    where
      go : ((u : Version) × (slot w n ≡ holds u) × (u.heap_only ≡ true)) ⊎ (is_heap_only (slot w n) ≡ false) → (slot w n ≡ holds v) × (doomed w n ≡ false)
      go (inl k) = by (cases_Bool (doomed w n))
        where
          by : (doomed w n ≡ true) ⊎ (doomed w n ≡ false) → (slot w n ≡ holds v) × (doomed w n ≡ false)
          by (inl d) =
              let z : unused ≡ holds v = sym (heap_only_after n k.0 k.1 k.2 ∙ cond-true (doomed w n) unused (holds k.0) d) ∙ f in
              let q : ◌≡◌ {A = ℕ} 0 1 = cc in absurd (omega arith)
          by (inr d) = (k.1 ∙ sym (keeps n k.0 k.1 d) ∙ f, d)
      go (inr h) = by (cases_Bool (doomed w (start w n)))
        where
          by : (doomed w (start w n) ≡ true) ⊎ (doomed w (start w n) ≡ false) → (slot w n ≡ holds v) × (doomed w n ≡ false)
          by (inl d) = absurd (not_version (left (gone w) (way w (start w n))) (slot w n) v (sym (led n h d) ∙ f))
          by (inr d) =
              let e : slot w n ≡ holds v = sym (not_led n h d) ∙ f in
              (e, ap (doomed w) (sym (start_own w n v e (ap is_heap_only (sym e) ∙ h))) ∙ d)

  root_stays : (r : ℕ) → is_root (slot w r) ≡ true → is_root (S' (addr w r)) ≡ true
  root_stays r e = by (cases_Bool (doomed w (start w r)))
    where
      leads : (l : List ℕ) (x : Slot) → is_root (slot_after (leads_to l) x) ≡ true
      leads [] x = refl
      leads (m ∷ l) x = refl

      by : (doomed w (start w r) ≡ true) ⊎ (doomed w (start w r) ≡ false) → is_root (S' (addr w r)) ≡ true
      by (inl d) = ap is_root (led r (root_not (slot w r) e) d) ∙ leads (left (gone w) (way w (start w r))) (slot w r)
      by (inr d) = ap is_root (not_led r (root_not (slot w r) e) d) ∙ e

  on_page : (a : Address) → a.block ≡ w.block → a ≡ addr w a.pointer
  on_page a z = ap (λ (c : ℕ). address_in c a.pointer) z

  was_held : (a : Address) (v : Version) → S' a ≡ holds v → w.slot_at a ≡ holds v
  was_held a v e = go (cases_eq a.block w.block)
    where
      go : (a.block ≡ w.block) ⊎ (a.block ≡ w.block → ⊥) → w.slot_at a ≡ holds v
      go (inr n) = sym (pr.off a n) ∙ e
      go (inl z) = let y = on_page a z in ap w.slot_at y ∙ held w a.pointer v (stays a.pointer v (ap S' (sym y) ∙ e)).0

  -- A heap-only version that stays keeps the one before it, or else the root leads to it.
  prior_on : (n : ℕ) (v : Version) → S' (addr w n) ≡ holds v → v.heap_only ≡ true → Prior w.versions S' (addr w n)
  prior_on n v f h = go (stays n v f)
    where
      go : (slot w n ≡ holds v) × (doomed w n ≡ false) → Prior w.versions S' (addr w n)
      go st = which (w.slots.rows.prior (addr w n) v (held w n v st.0) h a)
        where
          a : is_alive w (maker w n) ≡ true
          a = sound_alive w n v st.0 st.1

          root : root_of w n ≡ addr w (row w n)
          root = root_of_on w n v st.0

          which : Prior w.versions w.slot_at (addr w n) → Prior w.versions S' (addr w n)
          which (inl x) =
              let y : slot w (row w n) ≡ redirect n = sym (w.same (row w n)) ∙ ap w.slot_at (sym root) ∙ x in
              inl (ap S' root ∙ not_led (row w n) (ap is_heap_only y) (ap (doomed w) (start_to w (row w n) n y) ∙ st.1) ∙ y)
          which (inr k) = by (cases_Bool (gone w k.from.pointer))
            where
              y : Linking w n k
              y = linking w n a k

              l : Linked w k.from.pointer k.what y.is
              l = linked w k.from.pointer k.what y.is (λ z. not_zero w n v st.0 (sym y.link_is ∙ z))

              on : doomed w k.from.pointer ≡ (gone w k.from.pointer || doomed w n)
              on = doomed_on w k.from.pointer k.what y.is ∙ ap (λ (j : ℕ). gone w k.from.pointer || doomed w j) y.link_is

              by : (gone w k.from.pointer ≡ true) ⊎ (gone w k.from.pointer ≡ false) → Prior w.versions S' (addr w n)
              by (inr g) =
                  inr (record {
                    from = k.from;
                    what = k.what;
                    is = ap S' y.from_is ∙ keeps k.from.pointer k.what y.is (on ∙ or_from _ _ g st.1);
                    is_hot_lem = k.is_hot_lem;
                    to_is = k.to_is;
                    made_by = k.made_by;
                  })
              by (inl g) =
                  let r = reached w k.from.pointer k.what y.is (maker_alive w k.from.pointer k.what y.is (maker w (link w k.from.pointer)) l.is_recorded l.is_alive_lem) in
                  let same : row w k.from.pointer ≡ row w n = ap (λ (x : Address). x.pointer) (sym l.same_row ∙ ap (root_of w) y.link_is) in
                  let c : way w (start w (row w n)) ≡ r.0 ++ (k.from.pointer ∷ way w n)
                  = ap (λ (x : ℕ). way w (start w x)) (sym same) ∙ r.1
                  ∙ ap (λ (x : List ℕ). r.0 ++ x) (way_on w k.from.pointer k.what y.is ∙ ap (λ (x : ℕ). k.from.pointer ∷ way w x) y.link_is) in
                  let d : doomed w (start w (row w n)) ≡ true = ap (any_dead (gone w)) c ∙ dead_behind (gone w) r.0 (k.from.pointer ∷ way w n) (or_left _ _ g) in
                  let f : left (gone w) (way w (start w (row w n))) ≡ n ∷ way w (link w n)
                  = ap (left (gone w)) c ∙ left_behind (gone w) r.0 (way w n) k.from.pointer g st.1 ∙ way_on w n v st.0 in
                  inl (ap S' root ∙ led (row w n) (root_not (slot w (row w n)) (row_root w n v st.0)) d ∙ ap (λ (x : List ℕ). slot_after (leads_to x) (slot w (row w n))) f)

  -- A redirect leads to a version that stays.
  target_on : (r n : ℕ) → S' (addr w r) ≡ redirect n → Target w.log.committed w.versions S' (addr w r) n
  target_on r n e = go (slot_kind (slot w r))
    where
      led_to : Starts w r → doomed w (start w r) ≡ true → (l : List ℕ) → left (gone w) (way w (start w r)) ≡ l → slot_after (leads_to l) (slot w r) ≡ redirect n
          → Target w.log.committed w.versions S' (addr w r) n
      led_to k d [] x z = let q : ◌≡◌ {A = ℕ} 0 1 = cc in absurd (omega arith)
      led_to k d (m ∷ ms) x z =
          let y : m ≡ n = cc in
          let u = survivor w (addr w r) m ms (start w r) k.what k.is k.row_is d x in
          subst (λ (j : ℕ). Target w.log.committed w.versions S' (addr w r) j) y
          (record { what = u.what; is = keeps m u.what u.is u.sound; only = u.only; is_committed_lem = u.is_committed_lem; row_is = u.row_is })

      go : ((v : Version) × (slot w r ≡ holds v) × (v.heap_only ≡ true)) ⊎ (is_heap_only (slot w r) ≡ false) → Target w.log.committed w.versions S' (addr w r) n
      go (inl k) = absurd (no_redirect (doomed w r) (sym (heap_only_after r k.0 k.1 k.2) ∙ e))
        where
          no_redirect : (x : Bool) → cond x unused (holds k.0) ≡ redirect n → ⊥
          no_redirect true z = let q : ◌≡◌ {A = ℕ} 0 1 = cc in omega arith
          no_redirect false z = let q : ◌≡◌ {A = ℕ} 0 1 = cc in omega arith
      go (inr h) = by (cases_Bool (doomed w (start w r))) (starts w r)
        where
          by : (doomed w (start w r) ≡ true) ⊎ (doomed w (start w r) ≡ false) → (start w r ≡ 0) ⊎ Starts w r → Target w.log.committed w.versions S' (addr w r) n
          by (inl d) (inl z) = absurd (both_ways _ (doomed_none w) (ap (doomed w) (sym z) ∙ d))
          by (inl d) (inr k) = led_to k d (left (gone w) (way w (start w r))) refl (sym (led r h d) ∙ e)
          by (inr d) k =
              let x : slot w r ≡ redirect n = sym (not_led r h d) ∙ e in
              let t = w.slots.rows.redirected (addr w r) n (w.same r ∙ x) in
              record {
                what = t.what;
                is = keeps n t.what (sym (w.same n) ∙ t.is) (ap (doomed w) (sym (start_to w r n x)) ∙ d);
                only = t.only;
                is_committed_lem = t.is_committed_lem;
                row_is = t.row_is;
              }

  -- what a HOT-updated version that stays names stays too
  follow_on : (n : ℕ) (u : Version) → S' (addr w n) ≡ holds u → u.hot_updated ≡ true → (i : ℕ) → w.versions.recorded (id w n) i ≡ true → is_alive w i ≡ true
      → Follow w.versions S' (addr w n) u i
  follow_on n u e h i r a =
      let st = stays n u e in
      let f = w.slots.rows.follow (addr w n) u (held w n u st.0) h i r a in
      let c = links_on_lem w n u st.0 h i r a in
      let s : slot w (link w n) ≡ holds f.what = sym (w.same (link w n)) ∙ ap w.slot_at (sym c) ∙ f.is in
      let d : doomed w (link w n) ≡ false = (or_parts _ _ (sym (doomed_on w n u st.0) ∙ st.1)).1 in
      record {
        what = f.what;
        is = ap S' c ∙ keeps (link w n) f.what s d;
        only = f.only;
        by = f.by;
        near = f.near;
        maker_is = f.maker_is;
        same_row = f.same_row;
        later = f.later;
      }

  -- The rows of the other pages are as they were.
  rows_pruned : Rows (is_alive w) w.log.committed w.log.begun w.versions S'
  rows_pruned =
      record {
        rec_begun = w.slots.rows.rec_begun;
        root_is = λ v l. root (w.versions.entry v).root (w.slots.rows.root_is v l) (cases_eq _ _);
        root_block = w.slots.rows.root_block;
        first = λ a v e h. w.slots.rows.first a v (was_held a v e) h;
        prior = λ a v e h l. prior a v e h l (cases_eq _ _);
        follow = λ a u e h i r l. follow a u e h i r l (cases_eq _ _);
        redirected = λ r n e. redirected r n e (cases_eq _ _);
      }
    where
      root : (a : Address) → is_root (w.slot_at a) ≡ true → (a.block ≡ w.block) ⊎ (a.block ≡ w.block → ⊥) → is_root (S' a) ≡ true
      root a e (inr n) = ap is_root (pr.off a n) ∙ e
      root a e (inl z) =
          let y = on_page a z in
          ap (λ (x : Address). is_root (S' x)) y ∙ root_stays a.pointer (ap is_root (sym (w.same a.pointer) ∙ ap w.slot_at (sym y)) ∙ e)

      prior : (a : Address) (v : Version) → S' a ≡ holds v → v.heap_only ≡ true → is_alive w (maker_at w.versions a) ≡ true → (a.block ≡ w.block) ⊎ (a.block ≡ w.block → ⊥)
          → Prior w.versions S' a
      prior a v e h l (inl z) = let y = on_page a z in subst (λ (x : Address). Prior w.versions S' x) (sym y) (prior_on a.pointer v (ap S' (sym y) ∙ e) h)
      prior a v e h l (inr n) = go (w.slots.rows.prior a v (was_held a v e) h l)
        where
          k : (root_at w.versions a).block ≡ a.block
          k =
              let s = w.slots.stands a v (was_held a v e) in
              w.slots.rows.root_block (id_at w.versions a) s.is_added ∙ ap (λ (x : Address). x.block) s.address_is

          go : Prior w.versions w.slot_at a → Prior w.versions S' a
          go (inl x) = inl (pr.off (root_at w.versions a) (λ z. n (sym k ∙ z)) ∙ x)
          go (inr p) =
              let f = w.slots.rows.follow p.from p.what p.is p.is_hot_lem (maker_at w.versions a) p.made_by l in
              inr (record {
                from = p.from;
                what = p.what;
                is = pr.off p.from (λ z. n (ap (λ (x : Address). x.block) (sym p.to_is) ∙ f.near ∙ z)) ∙ p.is;
                is_hot_lem = p.is_hot_lem;
                to_is = p.to_is;
                made_by = p.made_by;
              })

      follow : (a : Address) (u : Version) → S' a ≡ holds u → u.hot_updated ≡ true → (i : ℕ) → w.versions.recorded (id_at w.versions a) i ≡ true → is_alive w i ≡ true
          → (a.block ≡ w.block) ⊎ (a.block ≡ w.block → ⊥) → Follow w.versions S' a u i
      follow a u e h i r l (inl z) =
          let y = on_page a z in
          subst (λ (x : Address). Follow w.versions S' x u i) (sym y)
          (follow_on a.pointer u (ap S' (sym y) ∙ e) h i (ap (λ (x : Address). w.versions.recorded (id_at w.versions x) i) (sym y) ∙ r) l)
      follow a u e h i r l (inr n) =
          let f = w.slots.rows.follow a u (was_held a u e) h i r l in
          record {
            what = f.what;
            is = pr.off u.ctid (λ z. n (sym f.near ∙ z)) ∙ f.is;
            only = f.only;
            by = f.by;
            near = f.near;
            maker_is = f.maker_is;
            same_row = f.same_row;
            later = f.later;
          }

      redirected : (r : Address) (n : ℕ) → S' r ≡ redirect n → (r.block ≡ w.block) ⊎ (r.block ≡ w.block → ⊥) → Target w.log.committed w.versions S' r n
      redirected r n e (inl z) = let y = on_page r z in subst (λ (x : Address). Target w.log.committed w.versions S' x n) (sym y) (target_on r.pointer n (ap S' (sym y) ∙ e))
      redirected r n e (inr k) =
          let g = w.slots.rows.redirected r n (sym (pr.off r k) ∙ e) in
          record { what = g.what; is = pr.off (pointer_in r n) k ∙ g.is; only = g.only; is_committed_lem = g.is_committed_lem; row_is = g.row_is }

  -- what is taken is aborted or passed
  data Taken (a : Address) (v : Version) : Type 0 where
    stayed : S' a ≡ holds v → Taken a v
    not_made : is_alive w (maker_at w.versions a) ≡ false → Taken a v
    passed : Passed w.log w.versions (place_taken w.xacts) (id_at w.versions a) → Taken a v

  taken : (a : Address) (v : Version) → w.slot_at a ≡ holds v → Taken a v
  taken a v e = go (cases_eq a.block w.block)
    where
      at : (n : ℕ) → slot w n ≡ holds v → (doomed w n ≡ true) ⊎ (doomed w n ≡ false) → (is_alive w (maker w n) ≡ true) ⊎ (is_alive w (maker w n) ≡ false) → Taken (addr w n) v
      at n s (inl d) (inl l) = passed (doomed_passed w n v s l d)
      at n s d (inr l) = not_made l
      at n s (inr d) (inl l) = stayed (keeps n v s d)

      go : (a.block ≡ w.block) ⊎ (a.block ≡ w.block → ⊥) → Taken a v
      go (inr n) = stayed (pr.off a n ∙ e)
      go (inl z) =
          let y = on_page a z in
          subst (λ (x : Address). Taken x v) (sym y)
          (at a.pointer (sym (w.same a.pointer) ∙ ap w.slot_at (sym y) ∙ e) (cases_Bool _) (cases_Bool _))

  pruned : SlotsAgree w.xacts w.log w.versions w.base w.low S'
  pruned =
      record {
        stands = λ a v e. w.slots.stands a v (was_held a v e);
        rows = rows_pruned;
        account = λ v h. account v (w.slots.account v h);
        makers = w.slots.makers;
      }
    where
      account : (v : ℕ) → Account w.xacts w.log w.versions w.base w.low w.slot_at v → Account w.xacts w.log w.versions w.base w.low S' v
      account v (aborted e) = aborted e
      account v (past p) = past p
      account v (here u e l) = go (taken (w.versions.entry v).address u e)
        where
          is : id_at w.versions (w.versions.entry v).address ≡ v
          is = rw l

          go : Taken (w.versions.entry v).address u → Account w.xacts w.log w.versions w.base w.low S' v
          go (stayed z) = here u z l
          go (not_made z) = aborted (ap (λ (i : ℕ). is_alive w (w.versions.entry i).maker) (sym is) ∙ z)
          go (passed z) = past (subst (λ (i : ℕ). Passed w.log w.versions (place_taken w.xacts) i) is z)

-- After a prune of the page p of block bk the slots agree with the ledger still.
module _ (d : Transactions) (t : TransactionLog) (b : VersionLog) (base low : ℕ) (g : Agrees d t base low) (o : Order t b) (S : Address → Slot)
    (q : SlotsAgree d t b base low S) (bk : ℕ) (p : List ℕ) (at : (n : ℕ) → S (address_in bk n) ≡ slot_no p n) where
  pub slots_prune : (S' : Address → Slot) → Prunes S S' bk (link_at d.source.status bk p) (dead_at d.source.status (horizon d) p) (view_of p)
      → SlotsAgree d t b base low S'
  slots_prune S' pr =
      pruned
      (record {
        xacts = d;
        log = t;
        versions = b;
        base = base;
        low = low;
        agrees = g;
        order = o;
        slot_at = S;
        slots = q;
        block = bk;
        bytes = p;
        same = at;
      }) S' pr
