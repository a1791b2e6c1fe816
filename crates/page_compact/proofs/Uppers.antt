-- How far the versions reach down, by the slots; and compaction of a lawful page as a whole.
use Rattle.std.proofs.Common.{◌≡◌, ℕ, zero, suc, ◌+◌, ◌-◌, ◌≤◌, true, List, map, length, sum_by, sym, refl, ap, ◌∙◌, add-one, arith}
use Rattle.std.specs.List.{range_with_len}
use Rattle.std.proofs.lemmas.List.FromFn.{sum_by-map-range_with_len_more}
use Rattle.std.proofs.lemmas.List.Edits.{length-between}
use Rattle.page.specs.Headers.{header_of, count_of}
use Rattle.page.specs.LinePointers.{pointer_at}
use Rattle.page.specs.Slots.{Slot, slot_of, slot_no, slot_at, view_of}
use Rattle.page.specs.declared.kinds.Kind.{Kind}
use Rattle.page.specs.declared.line_pointers.Pointer.{Pointer}
use Rattle.page.specs.declared.line_pointers.Pointer.TheVariants.{Unused, Normal, Redirect, Dead}
use Rattle.page_check.specs.Rules.{name_of, leads_well, other_name}
use Rattle.page_check.specs.Lawful.{is_lawful}
use Rattle.page_check.specs.Marking.{LiesIn}
use Rattle.page_laws.specs.Keeps.{Keeps}
use Rattle.page_laws.proofs.Facts.{lawful_tells, lawful_from}
use Rattle.page_laws.proofs.Views.{view_fun}
use Rattle.page_room.specs.Room.{up8}
use Rattle.page_compact.specs.Compaction.{size_of, compacted}
use Rattle.page_compact.specs.Laws.{slot_size, Compacts}
use Rattle.page_compact.proofs.Packing.{sum_to}
use Rattle.page_compact.proofs.Sound.{Sound, sound_of, lies_at}
use Rattle.page_compact.proofs.Tops.{top_to_is}
use Rattle.page_compact.proofs.Compact.{compact_view, compact_sound, head_same, upper_after, count_same, room_after, padding_after}

slot_size_lem : (p : List ℕ) (x : Pointer) → length p ≡ 8192 → LiesIn x → slot_size (slot_of p x) ≡ size_of x
slot_size_lem p Unused len l = refl
slot_size_lem p (Redirect t) len l = refl
slot_size_lem p Dead len l = refl
slot_size_lem p (Normal o n) len l =
    let a = l.ends in let b = l.holds_kind in
    ap (λ (k : ℕ). up8 (24 + k)) (length-between p (o + 24) (o + n) (omega arith)) ∙ ap up8 (omega arith)

sum_slots : (kinds : List Kind) (p : List ℕ) → length p ≡ 8192 → Sound kinds p → (n : ℕ) → n ≤ count_of p
    → sum_by slot_size (map (λ m. slot_of p (pointer_at p m)) (range_with_len 1 n)) ≡ sum_to (λ k. size_of (pointer_at p (k + 1))) n
sum_slots kinds p len s zero le = refl
sum_slots kinds p len s (suc n) le =
    ap (λ (k : ℕ). sum_by slot_size (map (λ m. slot_of p (pointer_at p m)) (range_with_len 1 k))) (sym (add-one n))
    ∙ sum_by-map-range_with_len_more slot_size (λ m. slot_of p (pointer_at p m)) 1 n (n + 1) (omega arith)
    ∙ ap (λ (k : ℕ). k + slot_size (slot_of p (pointer_at p (n + 1)))) (sum_slots kinds p len s n (omega arith))
    ∙ ap (λ (k : ℕ). sum_to (λ k. size_of (pointer_at p (k + 1))) n + k) (slot_size_lem p (pointer_at p (n + 1)) len (lies_at kinds p s n (omega arith)))

compact_upper : (kinds : List Kind) (p : List ℕ) → length p ≡ 8192 → Sound kinds p → (header_of (compacted p)).upper ≡ 8192 - sum_by slot_size (view_of p)
compact_upper kinds p len s =
    upper_after kinds p len s ∙ top_to_is p (count_of p) ∙ ap (λ (k : ℕ). 8192 - k) (sym (sum_slots kinds p len s (count_of p) (omega arith)))

-- the rules between the pointers are of the slots alone
keeps_view : (kinds : List Kind) (b : ℕ) (p q : List ℕ) → Keeps kinds b p → Sound kinds q → count_of q ≡ count_of p → slot_no q ≡ slot_no p → Keeps kinds b q
keeps_view kinds b p q k s ct e = record {
  header = s.header;
  own = s.own;
  no_overlap = s.no_overlap;
  redirect_target = λ n x y. ap (λ (f : ℕ → Slot). leads_well f (f n)) e ∙ k.redirect_target n x (omega arith);
  named_once = λ n m x y z. ap (λ (f : ℕ → Slot). other_name (name_of b f (f n)) (name_of b f (f m))) e ∙ k.named_once n m x y (omega arith);
}

pub compacts : (kinds : List Kind) (b : ℕ) (p : List ℕ) → length p ≡ 8192 → is_lawful kinds b p ≡ true → Compacts kinds b p (compacted p)
compacts kinds b p len h =
    let k = lawful_tells kinds b p h in
    let s = sound_of kinds b p k in
    let v = compact_view kinds p len s in
    record {
      view = v;
      lawful = lawful_from kinds b (compacted p) (keeps_view kinds b p (compacted p) k (compact_sound kinds p len s) (count_same kinds p len s)
          (sym (view_fun (compacted p)) ∙ ap slot_at v ∙ view_fun p));
      header = head_same kinds p len s;
      upper = compact_upper kinds p len s;
      room = room_after kinds p len s;
      padding = padding_after kinds p len s;
    }
