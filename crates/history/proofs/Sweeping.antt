-- The upkeep of one page of a heap: all its versions are changed, or it is pruned, and no other page changes.
use Rattle.std.proofs.Common.{◌≡◌, ℕ, zero, suc, ◌<◌, true, false, ◌&&◌, ◌||◌, eqb, leb, List, [], ◌∷◌, map, length, set, sym, refl, ap, ◌∙◌, subst, arith}
use Rattle.page.specs.Headers.{count_of}
use Rattle.page.specs.Slots.{Version, Slot, slot_no, slot_at, view_of}
use Rattle.page.specs.Slots.Slot.{holds}
use Rattle.page.specs.Versions.{header_at}
use Rattle.page.specs.declared.kinds.Kind.{Kind}
use Rattle.page_laws.specs.Keeps.{Keeps}
use Rattle.page_laws.proofs.Facts.{lawful_tells, lawful_from}
use Rattle.page_laws.proofs.Own.{VersionKeeps}
use Rattle.page_laws.proofs.Views.{view_at}
use Rattle.page_prune.proofs.Left.{pruned_at_lem}
use Rattle.page_prune.proofs.Whole.{prunes, named, pruned_length}
use Rattle.page_write.specs.Changing.{change_to}
use Rattle.page_write_laws.specs.Slots.{on_version, Milder, Replaces}
use Rattle.page_write_laws.proofs.Beside.{keeps_version}
use Rattle.page_write_laws.proofs.ChangeAll.{done, done_view}
use Rattle.page_write_laws.proofs.Changes.{held}
use Rattle.page_write_laws.proofs.Encoded.{head_tells}
use Rattle.xid.specs.declared.statuses.Status.{Status}
use Rattle.heap_read.specs.Links.{link_at}
use Rattle.heap_read.specs.Reading.{address_in}
use Rattle.heap_upkeep.specs.Pruning.{dead_at, pruned_at}
use Rattle.heap_upkeep.proofs.PruneLinks.{told_links}
use Rattle.history.specs.Archive.{page_at, slot_in}
use Rattle.history.proofs.Effects.{Remarks, Prunes}
use Rattle.history.proofs.Heap.{slot_same, slot_other, sound_set}
use Rattle.history.proofs.Invariant.{Sound}

-- a slot of a list whose versions are all changed
slot_map : (g : Version → Version) (ss : List Slot) (n : ℕ) → slot_at (map (on_version g) ss) n ≡ on_version g (slot_at ss n)
slot_map g [] zero = refl
slot_map g [] (suc n) = refl
slot_map g (s ∷ ss) zero = refl
slot_map g (s ∷ ss) (suc zero) = refl
slot_map g (s ∷ ss) (suc (suc n)) = slot_map g ss (suc n)

module _ (kinds : List Kind) (pages : List (List ℕ)) (h : Sound kinds pages) (b : ℕ) (in_heap_lem : b < length pages) where
  abbrev p : List ℕ
  p = page_at pages b

  keeps : Keeps kinds b p
  keeps = lawful_tells kinds b p (h.lawful b in_heap_lem)

  -- each version is changed, and none names more than before
  pub remark_effect : (g : Version → Version) → ((n : ℕ) (u : Version) → slot_in pages (address_in b n) ≡ holds u → Milder u (g u))
      → Remarks (slot_in pages) (slot_in (set pages b (change_to g (page_at pages b) (count_of (page_at pages b))))) b g
      × Sound kinds (set pages b (change_to g (page_at pages b) (count_of (page_at pages b))))
  remark_effect g mild =
      let q = change_to g p (count_of p) in
      let d = done kinds b p g (λ k u e. mild k u (sym (view_at p k) ∙ e)) (h.long b in_heap_lem) keeps (count_of p) (omega arith) in
      let slot : (n : ℕ) → slot_no q n ≡ on_version g (slot_no p n)
      = λ n. sym (view_at q n) ∙ ap (λ (ss : List Slot). slot_at ss n) (done_view kinds b p q g d) ∙ slot_map g (view_of p) n ∙ ap (on_version g) (view_at p n) in (
        record {
          on = λ a e. slot_same pages b q in_heap_lem a e ∙ slot a.pointer ∙ ap (λ (k : ℕ). on_version g (slot_no (page_at pages k) a.pointer)) (sym e);
          off = slot_other pages b q;
        },
        sound_set pages b q kinds h d.long (lawful_from kinds b q d.keeps),
      )

  -- the links of the page's slots are among its names, whatever the source says
  pub prune_effect : (told : ℕ → Status) (hz : ℕ)
      → Prunes (slot_in pages) (slot_in (set pages b (pruned_at told hz b (page_at pages b)))) b (link_at told b (page_at pages b)) (dead_at told hz (page_at pages b)) (view_of (page_at pages b))
      × Sound kinds (set pages b (pruned_at told hz b (page_at pages b)))
  prune_effect told hz =
      let q = pruned_at told hz b p in
      let nx = link_at told b p in
      let gone = dead_at told hz p in
      let len = h.long b in_heap_lem in
      let law = h.lawful b in_heap_lem in
      let links = told_links kinds b p keeps told in
      let pruned = prunes kinds b nx gone p len law links in (
        record {
          on = λ n. slot_same pages b q in_heap_lem (address_in b n) refl ∙ sym (view_at q n) ∙ ap (λ (ss : List Slot). slot_at ss n) pruned.view
              ∙ pruned_at_lem b (view_of p) nx gone (named kinds b nx gone p len law links) links n;
          off = slot_other pages b q;
        },
        sound_set pages b q kinds h (pruned_length kinds b nx gone p len law links) pruned.lawful,
      )

  -- a version whose remover and ctid have their widths can be written as it stands: what a lawful page asks of its remover is kept
  pub version_replaces : (n : ℕ) (u : Version) → slot_in pages (address_in b n) ≡ holds u
      → u.remover < 4294967296 → u.ctid.block < 4294967296 → u.ctid.pointer < 65536 → Replaces u u
  version_replaces n u e remover block pointer =
      let r = held p n u (view_at p n ∙ e) in
      let old : VersionKeeps kinds p r.offset r.len = rw r.pointer at (keeps_version kinds b p keeps n r.one r.last) in
      let head = head_tells (header_at p r.offset) old.head in
      record {
        creator = refl;
        heap_only = refl;
        row = refl;
        remover = remover;
        block = block;
        pointer = pointer;
        one_bit = subst (λ (v : Version). (v.remover_committed && v.remover_invalid) ≡ false) (sym r.is) head.one_bit;
        number = subst (λ (v : Version). (leb 3 v.remover || (eqb v.remover 0 && v.remover_invalid)) ≡ true) (sym r.is) head.remover;
      }
