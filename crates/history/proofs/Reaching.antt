-- Each version whose maker is not aborted is reached from its row's root; so what a prune makes of each slot is told by the way
-- from it alone.
use Rattle.std.proofs.Common.{◌≡◌, ℕ, zero, suc, ◌+◌, ◌-◌, ◌<◌, Bool, true, false, cond, ◌||◌, eqb, ◌⊎◌, List, [], ◌∷◌, ◌++◌, length, sym, refl, ap, ◌∙◌, inl, inr, append_assoc, arith}
use Rattle.std.proofs.lemmas.Bool.{cases_Bool, both_ways, eqb-true, eq-eqb, or_cases, or_left, or_right, or_parts, not-true, cond-true, cond-false}
use Rattle.page.specs.Headers.{count_of}
use Rattle.page.specs.Slots.{Version, Slot, view_of, slot_at}
use Rattle.page.specs.Slots.Slot.{unused, dead, redirect, holds}
use Rattle.page.specs.declared.versions.Address.{Address}
use Rattle.page_check.specs.Rules.{is_heap_only}
use Rattle.page_check.proofs.All.{any_to_true, any_to_hit}
use Rattle.page_laws.specs.Chains.{chain}
use Rattle.page_laws.proofs.Views.{view_at, view_length}
use Rattle.page_prune.specs.Chains.{start_of, chain_of, member, any_dead, lost, left, chained_in, lost_in}
use Rattle.page_prune.specs.Pruned.{leads_to, root_outcome, heap_only_outcome, slot_after, pruned_slot}
use Rattle.page_prune.proofs.Walks.{chain_none}
use Rattle.heap_read.specs.Links.{is_root}
use Rattle.heap_upkeep.specs.Pruning.{dead_at}
use Rattle.history.specs.Archive.{horizon}
use Rattle.history.proofs.Invariant.{Prior}
use Rattle.history.proofs.Fates.{creator_dead_out}
use Rattle.history.proofs.Ways.{Page, addr, slot, link, id, maker, root_of, is_alive, within, not_zero, held, stands, root_of_on, maker_alive}
use Rattle.history.proofs.Ways.{linked, linking, along, way, way_none, none_on, way_full, way_on, on_way}

-- a root is no heap-only version
pub root_not : (s : Slot) → is_root s ≡ true → is_heap_only s ≡ false
root_not unused e = refl
root_not dead e = refl
root_not (redirect t) e = refl
root_not (holds v) e = not-true _ e

module _ (w : Page) where
  -- where the chain of a pointer starts: 0 if it has none
  abbrev pub start : ℕ → ℕ
  start r = start_of r (slot w r)

  pub start_own : (r : ℕ) (v : Version) → slot w r ≡ holds v → v.heap_only ≡ false → start r ≡ r
  start_own r v e h = ap (start_of r) e ∙ rw h

  pub start_to : (r n : ℕ) → slot w r ≡ redirect n → start r ≡ n
  start_to r n e = ap (start_of r) e

  -- a chain starts at a version of the row of its root: heap-only only if its maker committed
  pub record Starts (r : ℕ) : Type 0 where
    pub what : Version
    pub is : slot w (start r) ≡ holds what
    pub row_is : root_of w (start r) ≡ addr w r
    pub made : what.heap_only ≡ true → is_alive w (maker w (start r)) ≡ true

  pub starts : (r : ℕ) → (start r ≡ 0) ⊎ Starts r
  starts r = go (slot w r) refl
    where
      go : (s : Slot) → slot w r ≡ s → (start r ≡ 0) ⊎ Starts r
      go unused e = inl (ap (start_of r) e)
      go dead e = inl (ap (start_of r) e)
      go (redirect n) e =
          let k = w.slots.rows.redirected (addr w r) n (w.same r ∙ e) in
          let z = start_to r n e in
          inr (record {
            what = k.what;
            is = ap (slot w) z ∙ sym (w.same n) ∙ k.is;
            row_is = ap (root_of w) z ∙ k.row_is;
            made = λ h. or_left _ _ (ap (λ (i : ℕ). w.log.committed (maker w i)) z ∙ k.is_committed_lem);
          })
      go (holds v) e = by (cases_Bool v.heap_only)
        where
          by : (v.heap_only ≡ true) ⊎ (v.heap_only ≡ false) → (start r ≡ 0) ⊎ Starts r
          by (inl h) = inl (ap (start_of r) e ∙ rw h)
          by (inr h) =
              let z = start_own r v e h in
              inr (record {
                what = v;
                is = ap (slot w) z ∙ e;
                row_is = ap (root_of w) z ∙ w.slots.rows.first (addr w r) v (held w r v e) h;
                made = λ y. absurd (both_ways _ h y);
              })

  pub chain_is : (r : ℕ) → chain_of (link w) (view_of w.bytes) r ≡ way w (start r)
  chain_is r =
      ap (λ (f : ℕ). chain (link w) (f + 1) (start_of r (slot_at (view_of w.bytes) r))) (view_length w.bytes)
      ∙ ap (λ (s : Slot). chain (link w) (count_of w.bytes + 1) (start_of r s)) (view_at w.bytes r) ∙ go (starts r)
    where
      go : (start r ≡ 0) ⊎ Starts r → chain (link w) (count_of w.bytes + 1) (start r) ≡ way w (start r)
      go (inl z) = rw z (chain_none (link w) (count_of w.bytes + 1) ∙ sym (way_none w))
      go (inr k) = way_full w (start r) k.what k.is 1

  -- the pointer of a version's root
  abbrev pub row : ℕ → ℕ
  row n = (root_of w n).pointer

  pub row_root : (n : ℕ) (v : Version) → slot w n ≡ holds v → is_root (slot w (row n)) ≡ true
  row_root n v e =
      ap is_root (sym (w.same (row n)) ∙ ap w.slot_at (sym (root_of_on w n v e))) ∙ w.slots.rows.root_is (id w n) (stands w n v e).is_added

  -- the chain of its root has its way at the end
  abbrev pub Reached : ℕ → Type 0
  Reached n = (before : List ℕ) × (way w (start (row n)) ≡ before ++ way w n)

  pub reached : (n : ℕ) (v : Version) → slot w n ≡ holds v → is_alive w (maker w n) ≡ true → Reached n
  reached n v e a = go (suc (id w n)) n v e a (omega arith)
    where
      go : (f n : ℕ) (v : Version) → slot w n ≡ holds v → is_alive w (maker w n) ≡ true → id w n < f → Reached n
      go zero n v e a l = absurd (omega arith)
      go (suc f) n v e a l = by (cases_Bool v.heap_only) (λ m u x y z. go f m u x y z)
        where
          by : (v.heap_only ≡ true) ⊎ (v.heap_only ≡ false) → ((m : ℕ) (u : Version) → slot w m ≡ holds u → is_alive w (maker w m) ≡ true → id w m < f → Reached m) → Reached n
          by (inr h) ih =
              let z : row n ≡ n = ap (λ (x : Address). x.pointer) (w.slots.rows.first (addr w n) v (held w n v e) h) in
              ([], ap (λ (r : ℕ). way w (start r)) z ∙ ap (way w) (start_own n v e h))
          by (inl h) ih = on (w.slots.rows.prior (addr w n) v (held w n v e) h a)
            where
              on : Prior w.versions w.slot_at (addr w n) → Reached n
              on (inl x) = ([], ap (way w) (start_to (row n) n (sym (w.same (row n)) ∙ ap w.slot_at (sym (root_of_on w n v e)) ∙ x)))
              on (inr k) =
                  let y = linking w n a k in
                  let m = k.from.pointer in
                  let z = y.link_is in
                  let j = linked w m k.what y.is (λ q. not_zero w n v e (sym z ∙ q)) in
                  let r = ih m k.what y.is (maker_alive w m k.what y.is (maker w (link w m)) j.is_recorded j.is_alive_lem) (less j.rises (ap (id w) z)) in
                  let same : row m ≡ row n = ap (λ (x : Address). x.pointer) (sym j.same_row ∙ ap (root_of w) z) in (
                    r.0 ++ (m ∷ []),
                    ap (λ (x : ℕ). way w (start x)) (sym same) ∙ r.1 ∙ ap (λ (x : List ℕ). r.0 ++ x) (way_on w m k.what y.is ∙ ap (λ (x : ℕ). m ∷ way w x) z)
                        ∙ sym (append_assoc r.0 (m ∷ []) (way w n)),
                  )
                where
                  less : {x y : ℕ} → x < y → y ≡ id w n → x < f
                  less p q = omega arith

-- What becomes of a slot, by its outcome.

freed : (lost? chained? dead? : Bool) (s : Slot) → (lost? ≡ true) ⊎ ((dead? ≡ true) × (chained? ≡ false)) → slot_after (heap_only_outcome lost? chained? dead?) s ≡ unused
freed lost? chained? dead? s (inl e) = rw e
freed true chained? dead? s (inr e) = refl
freed false chained? dead? s (inr e) = rw (e.0, e.1)

kept : (lost? chained? dead? : Bool) (s : Slot) → lost? ≡ false → dead? ≡ false → slot_after (heap_only_outcome lost? chained? dead?) s ≡ s
kept lost? chained? dead? s e f = rw (e, f)

led : (gone : ℕ → Bool) (l : List ℕ) (s : Slot) → any_dead gone l ≡ true → slot_after (root_outcome gone l) s ≡ slot_after (leads_to (left gone l)) s
led gone l s e = rw e

not_led : (gone : ℕ → Bool) (l : List ℕ) (s : Slot) → any_dead gone l ≡ false → slot_after (root_outcome gone l) s ≡ s
not_led gone l s e = rw e

module _ (nx : ℕ → ℕ) (gone : ℕ → Bool) (ss : List Slot) (m : ℕ) where
  by_marks : (v : Version) → slot_at ss m ≡ holds v → v.heap_only ≡ true
      → pruned_slot nx gone ss m ≡ slot_after (heap_only_outcome (lost_in nx gone ss m) (chained_in nx ss m) (gone m)) (holds v)
  by_marks v e h = rw (e, h) refl

  by_chain : is_heap_only (slot_at ss m) ≡ false → pruned_slot nx gone ss m ≡ slot_after (root_outcome gone (chain_of nx ss m)) (slot_at ss m)
  by_chain h = rw h refl

-- What a chain loses, where a part of it comes before.
module _ (gone : ℕ → Bool) where
  pub dead_behind : (before l : List ℕ) → any_dead gone l ≡ true → any_dead gone (before ++ l) ≡ true
  dead_behind [] l e = e
  dead_behind (m ∷ before) l e = or_right (gone m) _ (dead_behind before l e)

  lost_behind : (before l : List ℕ) (n : ℕ) → any_dead gone l ≡ true → member n (lost gone l) ≡ true → member n (lost gone (before ++ l)) ≡ true
  lost_behind [] l n e h = h
  lost_behind (m ∷ before) l n e h =
      let c : (gone m || any_dead gone (before ++ l)) ≡ true = or_right (gone m) _ (dead_behind before l e) in
      rw c (or_right (eqb n m) _ (lost_behind before l n e h))

  pub left_all : (l : List ℕ) → any_dead gone l ≡ false → left gone l ≡ l
  left_all [] e = refl
  left_all (m ∷ l) e = rw e

  -- behind the last dead member all is left
  pub left_behind : (before l : List ℕ) (m : ℕ) → gone m ≡ true → any_dead gone l ≡ false → left gone (before ++ (m ∷ l)) ≡ l
  left_behind [] l m d e = rw d (left_all l e)
  left_behind (x ∷ before) l m d e =
      let c : (gone x || any_dead gone (before ++ (m ∷ l))) ≡ true = or_right (gone x) _ (dead_behind before (m ∷ l) (or_left _ _ d)) in
      rw c (left_behind before l m d e)

module _ (w : Page) where
  abbrev pub gone : ℕ → Bool
  gone n = dead_at w.xacts.source.status (horizon w.xacts) w.bytes n

  -- a dead version lies on the way: the version, or one behind it
  abbrev pub doomed : ℕ → Bool
  doomed n = any_dead (dead_at w.xacts.source.status (horizon w.xacts) w.bytes) (way w n)

  pub doomed_none : doomed 0 ≡ false
  doomed_none = ap (any_dead gone) (way_none w)

  pub doomed_on : (n : ℕ) (v : Version) → slot w n ≡ holds v → doomed n ≡ (gone n || doomed (link w n))
  doomed_on n v e = ap (any_dead gone) (way_on w n v e)

  -- an aborted version is dead
  pub aborted_doomed : (n : ℕ) (v : Version) → slot w n ≡ holds v → is_alive w (maker w n) ≡ false → (gone n ≡ true) × (doomed n ≡ true)
  aborted_doomed n v e a = (d, doomed_on n v e ∙ or_left _ _ d)
    where
      d : gone n ≡ true
      d = rw e (or_left _ _ (creator_dead_out w.xacts w.log w.versions w.base w.low w.agrees (addr w n) v (stands w n v e) a))

  pub sound_alive : (n : ℕ) (v : Version) → slot w n ≡ holds v → doomed n ≡ false → is_alive w (maker w n) ≡ true
  sound_alive n v e d = go (cases_Bool (is_alive w (maker w n)))
    where
      go : (is_alive w (maker w n) ≡ true) ⊎ (is_alive w (maker w n) ≡ false) → is_alive w (maker w n) ≡ true
      go (inl a) = a
      go (inr a) = absurd (both_ways _ d (aborted_doomed n v e a).1)

  -- what a chain loses is doomed
  lost_doomed : (m n : ℕ) (v : Version) → slot w n ≡ holds v → member m (lost gone (way w n)) ≡ true → doomed m ≡ true
  lost_doomed m =
      along w (λ n. member m (lost gone (way w n)) ≡ true → doomed m ≡ true)
      (λ h. absurd (both_ways false refl (ap (λ (l : List ℕ). member m (lost gone l)) (sym (way_none w)) ∙ h))) step
    where
      step : (n : ℕ) (v : Version) → slot w n ≡ holds v → (member m (lost gone (way w (link w n))) ≡ true → doomed m ≡ true) → member m (lost gone (way w n)) ≡ true → doomed m ≡ true
      step n v e ih h = go (cases_Bool (gone n || doomed (link w n))) (ap (λ (l : List ℕ). member m (lost gone l)) (sym (way_on w n v e)) ∙ h)
        where
          go : ((gone n || doomed (link w n)) ≡ true) ⊎ ((gone n || doomed (link w n)) ≡ false)
              → member m (cond (gone n || doomed (link w n)) (n ∷ lost gone (way w (link w n))) []) ≡ true → doomed m ≡ true
          go (inr c) x = absurd (both_ways false refl (rw c at x))
          go (inl c) x = on (or_cases _ _ (rw c at x))
            where
              on : (eqb m n ≡ true) ⊎ (member m (lost gone (way w (link w n))) ≡ true) → doomed m ≡ true
              on (inl y) = ap doomed (eqb-true m n y) ∙ doomed_on n v e ∙ c
              on (inr y) = ih y

  abbrev view : List Slot
  view = view_of w.bytes

  abbrev loses_at : ℕ → ℕ → Bool
  loses_at n r = member n (lost gone (chain_of (link w) view (r + 1)))

  abbrev chains_at : ℕ → ℕ → Bool
  chains_at n r = member n (chain_of (link w) view (r + 1))

  -- of the versions whose maker is not aborted the chains lose just the doomed ones
  lost_in_lem : (n : ℕ) (v : Version) → slot w n ≡ holds v → is_alive w (maker w n) ≡ true → doomed n ≡ true → lost_in (link w) gone view n ≡ true
  lost_in_lem n v e a d =
      let r = reached w n v e a in
      let i = within w (row w n) (λ z. both_ways false refl (ap is_root (sym z) ∙ row_root w n v e)) in
      let one : row w n - 1 + 1 ≡ row w n = (let y = i.0 in omega arith) in
      let short : row w n - 1 < length view = (let x = i.0 in let y = i.1 in let z = view_length w.bytes in omega arith) in
      let first : member n (lost gone (way w n)) ≡ true = ap (λ (l : List ℕ). member n (lost gone l)) (way_on w n v e)
      ∙ ap (member n) (cond-true (gone n || doomed (link w n)) (n ∷ lost gone (way w (link w n))) [] (sym (doomed_on n v e) ∙ d)) ∙ or_left _ _ (eq-eqb n n refl) in
      let there : member n (lost gone (chain_of (link w) view (row w n))) ≡ true = ap (λ (l : List ℕ). member n (lost gone l)) (chain_is w (row w n) ∙ r.1)
      ∙ lost_behind gone r.0 (way w n) n d first in
      any_to_true (loses_at n) (row w n - 1) (length view) short (ap (λ (k : ℕ). member n (lost gone (chain_of (link w) view k))) one ∙ there)

  lost_out : (n : ℕ) → lost_in (link w) gone view n ≡ true → doomed n ≡ true
  lost_out n h = let r = any_to_hit (loses_at n) (length view) h in go (r.0 + 1) r.2 (starts w (r.0 + 1))
    where
      go : (r : ℕ) → member n (lost gone (chain_of (link w) view r)) ≡ true → (start w r ≡ 0) ⊎ Starts w r → doomed n ≡ true
      go r x (inl z) = absurd (both_ways false refl (ap (λ (l : List ℕ). member n (lost gone l)) (sym (chain_is w r ∙ ap (way w) z ∙ way_none w)) ∙ x))
      go r x (inr k) = lost_doomed n (start w r) k.what k.is (ap (λ (l : List ℕ). member n (lost gone l)) (sym (chain_is w r)) ∙ x)

  -- a heap-only version whose maker is aborted lies in no chain
  unchained : (n : ℕ) (v : Version) → slot w n ≡ holds v → v.heap_only ≡ true → is_alive w (maker w n) ≡ false → chained_in (link w) view n ≡ false
  unchained n v e h a = by (cases_Bool (chained_in (link w) view n))
    where
      made : (r : ℕ) → (start w r ≡ 0) ⊎ Starts w r → member n (chain_of (link w) view r) ≡ true → is_alive w (maker w n) ≡ true
      made r (inl z) x = absurd (none_on w n (start w r) z (ap (member n) (sym (chain_is w r)) ∙ x))
      made r (inr k) x =
          on_way w (λ m. is_heap_only (slot w m) ≡ true → is_alive w (maker w m) ≡ true) (λ m u y j p z. j.is_alive_lem) n (start w r) k.what k.is
          (λ y. k.made (ap is_heap_only (sym k.is) ∙ y)) (ap (member n) (sym (chain_is w r)) ∙ x) (ap is_heap_only e ∙ h)

      by : (chained_in (link w) view n ≡ true) ⊎ (chained_in (link w) view n ≡ false) → chained_in (link w) view n ≡ false
      by (inr z) = z
      by (inl z) = let r = any_to_hit (chains_at n) (length view) z in absurd (both_ways _ a (made (r.0 + 1) (starts w (r.0 + 1)) r.2))

  -- What a prune makes of each slot: a doomed heap-only version goes, and a root whose chain
  -- has a dead version leads to what is left of it.

  pub pruned_heap_only : (n : ℕ) (v : Version) → slot w n ≡ holds v → v.heap_only ≡ true → pruned_slot (link w) gone view n ≡ cond (doomed n) unused (holds v)
  pruned_heap_only n v e h = by_marks (link w) gone view n v (view_at w.bytes n ∙ e) h ∙ go (cases_Bool (doomed n)) (cases_Bool (is_alive w (maker w n)))
    where
      go : (doomed n ≡ true) ⊎ (doomed n ≡ false) → (is_alive w (maker w n) ≡ true) ⊎ (is_alive w (maker w n) ≡ false)
          → slot_after (heap_only_outcome (lost_in (link w) gone view n) (chained_in (link w) view n) (gone n)) (holds v) ≡ cond (doomed n) unused (holds v)
      go (inl d) (inl a) =
          freed (lost_in (link w) gone view n) (chained_in (link w) view n) (gone n) (holds v) (inl (lost_in_lem n v e a d)) ∙ sym (cond-true (doomed n) unused (holds v) d)
      go (inl d) (inr a) =
          freed (lost_in (link w) gone view n) (chained_in (link w) view n) (gone n) (holds v) (inr ((aborted_doomed n v e a).0, unchained n v e h a))
          ∙ sym (cond-true (doomed n) unused (holds v) d)
      go (inr d) a =
          kept (lost_in (link w) gone view n) (chained_in (link w) view n) (gone n) (holds v) (not_lost (cases_Bool (lost_in (link w) gone view n)))
          (or_parts (gone n) (doomed (link w n)) (sym (doomed_on n v e) ∙ d)).0 ∙ sym (cond-false (doomed n) unused (holds v) d)
        where
          not_lost : (lost_in (link w) gone view n ≡ true) ⊎ (lost_in (link w) gone view n ≡ false) → lost_in (link w) gone view n ≡ false
          not_lost (inr z) = z
          not_lost (inl z) = absurd (both_ways _ d (lost_out n z))

  by_way : (r : ℕ) → is_heap_only (slot w r) ≡ false → pruned_slot (link w) gone view r ≡ slot_after (root_outcome gone (way w (start w r))) (slot w r)
  by_way r h =
      by_chain (link w) gone view r (ap is_heap_only (view_at w.bytes r) ∙ h) ∙ ap (λ (l : List ℕ). slot_after (root_outcome gone l) (slot_at view r)) (chain_is w r)
      ∙ ap (slot_after (root_outcome gone (way w (start w r)))) (view_at w.bytes r)

  pub pruned_led : (r : ℕ) → is_heap_only (slot w r) ≡ false → doomed (start w r) ≡ true
      → pruned_slot (link w) gone view r ≡ slot_after (leads_to (left gone (way w (start w r)))) (slot w r)
  pruned_led r h d = by_way r h ∙ led gone (way w (start w r)) (slot w r) d

  pub pruned_not_led : (r : ℕ) → is_heap_only (slot w r) ≡ false → doomed (start w r) ≡ false → pruned_slot (link w) gone view r ≡ slot w r
  pruned_not_led r h d = by_way r h ∙ not_led gone (way w (start w r)) (slot w r) d
