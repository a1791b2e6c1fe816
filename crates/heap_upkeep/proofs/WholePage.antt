-- A whole page changed version by version: its slots, and the counts on the page as it was.
use Rattle.std.proofs.Common.{◌≡◌, ℕ, zero, suc, ◌+◌, ◌<◌, ◌≤◌, true, leb, List, map, length, sym, refl, ap, ◌∙◌, arith}
use Rattle.std.proofs.lemmas.Bool.{le-leb, cond-true}
use Rattle.page.specs.Headers.{count_of}
use Rattle.page.specs.LinePointers.{pointer_at}
use Rattle.page.specs.Slots.{Version, decoded, slot_of, slot_no, slot_at, view_of}
use Rattle.page.specs.Slots.Slot.{holds}
use Rattle.page.specs.Versions.{header_at, row_of}
use Rattle.page.specs.declared.kinds.Kind.{Kind}
use Rattle.page.specs.declared.line_pointers.Pointer.{Pointer}
use Rattle.page.specs.declared.line_pointers.Pointer.TheVariants.{Unused, Normal, Redirect, Dead}
use Rattle.page_check.specs.Lawful.{is_lawful}
use Rattle.page_check.specs.Marking.{LiesIn}
use Rattle.page_check.proofs.Slots.{slot_no_in}
use Rattle.page_laws.specs.Keeps.{Keeps}
use Rattle.page_laws.proofs.Facts.{lawful_tells, lawful_from}
use Rattle.page_laws.proofs.Views.{view_get}
use Rattle.page_laws.proofs.Own.{keeps_lie}
use Rattle.page_write.specs.Changing.{change_to}
use Rattle.page_write_laws.specs.Laws.{Becomes}
use Rattle.page_write_laws.specs.Slots.{on_version, Replaces, Milder}
use Rattle.page_write_laws.proofs.ChangeAll.{done, done_view}
use Rattle.page_write_laws.proofs.Naming.{same_replaces}
use Rattle.heap_upkeep.specs.Along.{per_version, count_along}
use Rattle.heap_upkeep.specs.Laws.{in_slot, sum_to, sum_on, Sound}

per_slot : (c : Version → ℕ) (q : List ℕ) (x : Pointer) → LiesIn x → per_version c q x ≡ in_slot c (slot_of q x)
per_slot c q Unused l = refl
per_slot c q (Redirect t) l = refl
per_slot c q Dead l = refl
per_slot c q (Normal o n) l =
    let e = l.ends in let k = l.holds_kind in
    cond-true (leb (o + 24) 8192) (c (decoded (header_at q o) (row_of q o n))) 0 (le-leb (o + 24) 8192 (omega arith))

-- a lawful page whose versions can be written as they stand
pub record Ready (kinds : List Kind) (b : ℕ) (p : List ℕ) : Type 0 where
  pub long : length p ≡ 8192
  pub lawful : is_lawful kinds b p ≡ true
  pub same : (k : ℕ) (u : Version) → slot_at (view_of p) k ≡ holds u → Replaces u u

pub ready : (kinds : List Kind) (b : ℕ) (p : List ℕ) → Sound kinds b p → Ready kinds b p
ready kinds b p s = record {
  long = s.long;
  lawful = s.lawful;
  same = λ k u e. same_replaces kinds b p k u s.bytes (lawful_tells kinds b p s.lawful) e;
}

module _ (kinds : List Kind) (b : ℕ) (p : List ℕ) (s : Ready kinds b p) (f : Version → Version) (mild : (u : Version) → Replaces u u → Milder u (f u)) where
  keeps : Keeps kinds b p
  keeps = lawful_tells kinds b p s.lawful

  milder : (k : ℕ) (u : Version) → slot_at (view_of p) k ≡ holds u → Milder u (f u)
  milder k u e = mild u (s.same k u e)

  pub becomes : Becomes kinds b (change_to f p (count_of p)) (map (on_version f) (view_of p))
  becomes =
      let d = done kinds b p f milder s.long keeps (count_of p) (omega arith) in
      record { view = done_view kinds b p (change_to f p (count_of p)) f d; lawful = lawful_from kinds b (change_to f p (count_of p)) d.keeps }

  -- what is counted at the next pointer is what stood there
  next_count : (c : Version → ℕ) (n : ℕ) → n < count_of p → per_version c (change_to f p n) (pointer_at (change_to f p n) (n + 1)) ≡ in_slot c (slot_no p (n + 1))
  next_count c n l =
      let q = change_to f p n in
      let d = done kinds b p f milder s.long keeps n (omega arith) in
      let many = d.count in
      per_slot c q (pointer_at q (n + 1)) (keeps_lie kinds b q d.keeps n (omega arith))
      ∙ ap (in_slot c) (sym (slot_no_in q (n + 1) (omega arith) (omega arith)) ∙ sym (view_get q n) ∙ d.rest n (omega arith) ∙ view_get p n)

  count_to_lem : (c : Version → ℕ) (n : ℕ) → n ≤ count_of p → count_along c f p n ≡ sum_to (λ k. in_slot c (slot_no p k)) n
  count_to_lem c zero l = refl
  count_to_lem c (suc n) l =
      ap (λ (x : ℕ). x + per_version c (change_to f p n) (pointer_at (change_to f p n) (n + 1))) (count_to_lem c n (omega arith))
      ∙ ap (λ (x : ℕ). sum_to (λ k. in_slot c (slot_no p k)) n + x) (next_count c n (omega arith))

  pub counts : (c : Version → ℕ) → count_along c f p (count_of p) ≡ sum_on c p
  counts c = count_to_lem c (count_of p) (omega arith)
