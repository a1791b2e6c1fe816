-- A version of a heap is marked as removed, and no other slot changes; an update puts a version and marks the old one.
use Rattle.std.proofs.Common.{◌≡◌, ℕ, ◌+◌, ◌-◌, ◌<◌, ◌≤◌, Bool, true, false, cond, ◌&&◌, eqb, List, length, set, is_some, sym, refl, ap, ◌∙◌, subst, ⊎_elim, arith}
use Rattle.std.proofs.lemmas.List.{length-set}
use Rattle.std.proofs.lemmas.Bool.{and_parts, both_ways, cases_eq, eqb-true}
use Rattle.page.specs.Kinds.{row_fits}
use Rattle.page.specs.Slots.{Version, Slot, slot_no, slot_at, view_of}
use Rattle.page.specs.Slots.Slot.{unused, dead, redirect, holds}
use Rattle.page.specs.declared.kinds.Kind.{Kind}
use Rattle.page.specs.declared.versions.Address.{Address}
use Rattle.page_check.specs.Rules.{is_heap_only, is_made_by, name_of}
use Rattle.page_laws.proofs.Facts.{lawful_tells, lawful_from}
use Rattle.page_laws.proofs.Views.{view_at, view_fun, view_length}
use Rattle.page_room.specs.Room.{takes}
use Rattle.page_write.specs.Changing.{mark_removed}
use Rattle.page_write.specs.Fields.{new_version, removed_by, leads_to, is_hot}
use Rattle.page_write.specs.declared.fields.Removal.{Removal}
use Rattle.page_write_laws.specs.Slots.{on_version, NoOtherNames}
use Rattle.page_write_laws.proofs.Changes.{Held, held, Changed, changed}
use Rattle.page_write_laws.proofs.Naming.{removed_replaces, removed_alone}
use Rattle.heap_read.specs.Reading.{address_in}
use Rattle.history.specs.Archive.{page_at, slot_in}
use Rattle.history.specs.Checks.{block_for}
use Rattle.history.specs.Granted.{fresh_in, insert_at, update_at, is_heap_only_update, put_in, mark_at, update_origin, update_removal}
use Rattle.history.proofs.Effects.{Puts, Changes}
use Rattle.history.proofs.Addresses.{address, cases_address}
use Rattle.history.proofs.Heap.{set_here, set_beside, slot_same, slot_other, sound_set, block_there, fresh_small}
use Rattle.history.proofs.Invariant.{Sound}
use Rattle.history.proofs.Putting.{put_effect}

unused_holds : (u : Version) → unused ≡ holds u → ⊥
unused_holds u e = let z : ◌≡◌ {A = ℕ} 0 1 = cc in omega arith

holds_redirect : (u : Version) (t : ℕ) → holds u ≡ redirect t → ⊥
holds_redirect u t e = let z : ◌≡◌ {A = ℕ} 0 1 = cc in omega arith

same_hot : (u v : Version) → holds u ≡ holds v → u.hot_updated ≡ v.hot_updated
same_hot u v e = cc

cond_some : (t : Bool) (k m : ℕ) → 1 ≤ m → cond t k 0 ≡ m → (t ≡ true) × (k ≡ m)
cond_some true k m l e = (refl, e)
cond_some false k m l e = absurd (omega arith)

-- what names the pointer m of block b is a redirect to it, or a version that was HOT-updated to it by its creator
named_by : (b : ℕ) (at : ℕ → Slot) (s : Slot) (m : ℕ) → 1 ≤ m → name_of b at s ≡ m → (s ≡ redirect m → ⊥)
    → ((v : Version) → s ≡ holds v → v.hot_updated ≡ true → v.ctid ≡ address_in b m → is_made_by v.remover (at m) ≡ true → ⊥) → ⊥
named_by b at unused m l e straight never = omega arith
named_by b at dead m l e straight never = omega arith
named_by b at (redirect t) m l e straight never = straight (ap redirect (cond_some (is_heap_only (at t)) t m l e).1)
named_by b at (holds v) m l e straight never =
    let by = is_made_by v.remover (at v.ctid.pointer) in
    let on = eqb v.ctid.block b in
    let r = cond_some (v.hot_updated && on && by) v.ctid.pointer m l e in
    let all = and_parts (v.hot_updated && on) by r.0 in
    let two = and_parts v.hot_updated on all.0 in
    never v refl two.0 (address v.ctid (address_in b m) (eqb-true v.ctid.block b two.1) r.1)
    (subst (λ (k : ℕ). is_made_by v.remover (at k) ≡ true) r.1 all.1)

leads_is : (hot : Bool) (a n : Address) → leads_to a (update_removal hot n) ≡ n
leads_is true a n = refl
leads_is false a n = refl

hot_is : (hot : Bool) (n : Address) → is_hot (update_removal hot n) ≡ hot
hot_is true n = refl
hot_is false n = refl

-- A mark.

module _ (kinds : List Kind) (pages : List (List ℕ)) (h : Sound kinds pages) (a : Address) (u : Version) (is : slot_in pages a ≡ holds u)
    (in_heap : a.block < length pages) (x : ℕ) (three : 3 ≤ x) (small : x < 4294967296)
    (r : Removal) (block : (leads_to a r).block < 4294967296) (pointer : (leads_to a r).pointer < 65536) where
  abbrev b : ℕ
  b = a.block

  abbrev m : ℕ
  m = a.pointer

  abbrev p : List ℕ
  p = page_at pages b

  abbrev q : List ℕ
  q = mark_removed p a x r

  abbrev g : Version → Version
  g = removed_by x (leads_to a r) (is_hot r)

  on_page : slot_at (view_of p) m ≡ holds u
  on_page = view_at p m ∙ is

  there : Held p m u
  there = held p m u on_page

  -- the old version of a heap-only update wants that no other slot of its page names the new one
  pub mark_effect : (is_hot r ≡ true → (c : Address) → c.block ≡ a.block → (c ≡ a → ⊥)
      → name_of a.block (slot_no (page_at pages a.block)) (slot_in pages c) ≡ (leads_to a r).pointer → ⊥)
      → Changes (slot_in pages) (slot_in (mark_at pages a x r)) a (removed_by x (leads_to a r) (is_hot r)) × Sound kinds (mark_at pages a x r)
  mark_effect alone =
      let none : is_hot r ≡ true → NoOtherNames b (view_of p) m (leads_to a r).pointer
      = λ hot k i j ne e. alone hot (address_in b k) refl (λ f. ne (ap (λ (c : Address). c.pointer) f)) (sym (ap (λ (at : ℕ → Slot). name_of b at (at k)) (view_fun p)) ∙ e) in
      let d : Changed kinds b p q m (g u)
      = changed kinds b p g m u (h.long b in_heap) (lawful_tells kinds b p (h.lawful b in_heap)) on_page
      (removed_replaces u x (leads_to a r) (is_hot r) three small block pointer) (removed_alone b (view_of p) m u x (leads_to a r) (is_hot r) none) in
      let slot : (k : ℕ) → slot_no q k ≡ slot_at (set (view_of p) (m - 1) (holds (g u))) k
      = λ k. sym (view_at q k) ∙ ap (λ (ss : List Slot). slot_at ss k) d.view in (
        record {
          here = slot_same pages b q in_heap a refl ∙ slot m
              ∙ set_here (view_of p) m (holds (g u)) there.one (omega (arith, there.last, view_length p)) ∙ sym (ap (on_version g) is);
          others = λ c ne. ⊎_elim
              (λ (e : c.block ≡ b).
              slot_same pages b q in_heap c e ∙ slot c.pointer
              ∙ set_beside (view_of p) m (holds (g u)) there.one c.pointer (λ f. ne (address c a e f))
              ∙ view_at p c.pointer ∙ ap (λ (k : ℕ). slot_no (page_at pages k) c.pointer) (sym e))
              (λ (e : c.block ≡ b → ⊥). slot_other pages b q c e)
              (cases_eq c.block b);
        },
        sound_set pages b q kinds h d.long (lawful_from kinds b q d.keeps),
      )

-- Updates.

-- the version w is put into the unused slot at n, and the one at a becomes v
pub record Updates (S S' : Address → Slot) (a : Address) (v : Version) (n : Address) (w : Version) : Type 0 where
  pub was : S n ≡ unused
  pub new : S' n ≡ holds w
  pub old : S' a ≡ holds v
  pub others : (c : Address) → (c ≡ n → ⊥) → (c ≡ a → ⊥) → S' c ≡ S c

-- the new version of an update of the one at a goes to n
pub record Place (pages : List (List ℕ)) (a : Address) (row : List ℕ) (hot : Bool) (n : Address) : Type 0 where
  pub in_heap : n.block < length pages
  pub fresh : n ≡ fresh_in pages n.block
  pub room : takes 0 (page_at pages n.block) (24 + length row) ≡ true
  pub near : hot ≡ true → n.block ≡ a.block

pub update_place : (pages : List (List ℕ)) (a : Address) (keep : Bool) (row : List ℕ) → a.block < length pages → is_some (block_for pages row) ≡ true
    → Place pages a row (is_heap_only_update pages a keep row) (update_at pages a keep row)
update_place pages a keep row l found =
    on (is_heap_only_update pages a keep row) (λ e. (and_parts keep (takes 0 (page_at pages a.block) (24 + length row)) e).1)
  where
    on : (hot : Bool) → (hot ≡ true → takes 0 (page_at pages a.block) (24 + length row) ≡ true)
        → Place pages a row hot (cond hot (fresh_in pages a.block) (insert_at pages row))
    on true room = record { in_heap = l; fresh = refl; room = room refl; near = λ e. refl }
    on false room =
        let r = block_there pages row found in
        record { in_heap = r.0; fresh = refl; room = r.1; near = λ e. absurd (both_ways false refl e) }

module _ (kinds : List Kind) (pages : List (List ℕ)) (h : Sound kinds pages) (a : Address) (u : Version) (is : slot_in pages a ≡ holds u)
    (in_heap : a.block < length pages) (x : ℕ) (three : 3 ≤ x) (small : x < 4294967296) (row : List ℕ) (fits : row_fits kinds row ≡ true)
    (hot : Bool) (n : Address) (place : Place pages a row hot n)
    (none_awaits : (c : Address) (w : Version) → slot_in pages c ≡ holds w → w.hot_updated ≡ true → w.ctid ≡ n → w.remover ≡ x → ⊥)
    (no_redirect : (c : Address) → c.block ≡ a.block → slot_in pages c ≡ redirect n.pointer → n.block ≡ a.block → ⊥) where
  abbrev then : List (List ℕ)
  then = put_in pages n.block x (update_origin hot) row

  abbrev w : Version
  w = new_version x n (update_origin hot) row

  -- first the new version is put
  put : Puts (slot_in pages) (slot_in then) n w × Sound kinds then
  put =
      subst (λ (k : Address). Puts (slot_in pages) (slot_in then) k (new_version x k (update_origin hot) row) × Sound kinds then) (sym place.fresh)
      (put_effect kinds pages h n.block place.in_heap x three small (update_origin hot) row fits place.room
      (λ e c v f g to. none_awaits c v f g (to ∙ sym place.fresh)))

  other : a ≡ n → ⊥
  other e = unused_holds u (sym put.0.was ∙ ap (slot_in pages) (sym e) ∙ is)

  still : slot_in then a ≡ holds u
  still = put.0.others a other ∙ is

  small_pointer : (1 ≤ n.pointer) × (n.pointer < 65536)
  small_pointer =
      let f = fresh_small kinds pages h n.block place.in_heap in
      let e = ap (λ (k : Address). k.pointer) place.fresh in
      (omega (arith, e, f.first), omega (arith, e, f.small))

  -- then the old one is marked: on its page, no slot names the new version yet
  nameless : hot ≡ true → (c : Address) → c.block ≡ a.block → name_of a.block (slot_no (page_at then a.block)) (slot_in then c) ≡ n.pointer → ⊥
  nameless e c on name =
      let at_new : slot_no (page_at then a.block) n.pointer ≡ holds w
      = ap (λ (k : ℕ). slot_no (page_at then k) n.pointer) (sym (place.near e)) ∙ put.0.here in
      named_by a.block (slot_no (page_at then a.block)) (slot_in then c) n.pointer small_pointer.0 name
      (λ f. ⊎_elim
      (λ (g : c ≡ n). holds_redirect w n.pointer (sym put.0.here ∙ ap (slot_in then) (sym g) ∙ f))
      (λ (g : c ≡ n → ⊥). no_redirect c on (sym (put.0.others c g) ∙ f) (place.near e))
      (cases_address c n))
      (λ v f warm to made. ⊎_elim
      (λ (g : c ≡ n). both_ways v.hot_updated (sym (same_hot w v (sym put.0.here ∙ ap (slot_in then) (sym g) ∙ f))) warm)
      (λ (g : c ≡ n → ⊥).
      none_awaits c v (sym (put.0.others c g) ∙ f) warm (to ∙ address (address_in a.block n.pointer) n (sym (place.near e)) refl)
      (sym (eqb-true x v.remover (and_parts w.heap_only (eqb x v.remover) (rw at_new at made)).1)))
      (cases_address c n))

  pub update_effect : Updates (slot_in pages) (slot_in (mark_at then a x (update_removal hot n))) a (removed_by x n hot u) n (new_version x n (update_origin hot) row)
      × Sound kinds (mark_at then a x (update_removal hot n))
  update_effect =
      let r = update_removal hot n in
      let to = leads_is hot a n in
      let warm = hot_is hot n in
      let few = h.few_pages in
      let long : length then ≡ length pages = length-set pages n.block _ in
      let marks = mark_effect kinds then put.1 a u still (omega arith) x three small r
      (rw to (omega arith)) (rw to small_pointer.1)
      (λ e c on ne name. nameless (sym warm ∙ e) c on (name ∙ ap (λ (k : Address). k.pointer) to)) in (
        record {
          was = put.0.was;
          new = marks.0.others n (λ e. other (sym e)) ∙ put.0.here;
          old = marks.0.here ∙ ap (on_version (removed_by x (leads_to a r) (is_hot r))) still
              ∙ ap (λ (k : Address). holds (removed_by x k (is_hot r) u)) to ∙ ap (λ (k : Bool). holds (removed_by x n k u)) warm;
          others = λ c from-new from_old. marks.0.others c from_old ∙ put.0.others c from-new;
        },
        marks.1,
      )
