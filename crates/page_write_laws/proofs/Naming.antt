-- When a version that replaces another names alone.
use Rattle.std.proofs.Common.{◌≡◌, ℕ, ◌+◌, ◌<◌, ◌≤◌, Bool, true, false, cond, not, ◌&&◌, eqb, leb, ◌⊎◌, List, get_or, sym, refl, ap, ◌∙◌, subst, inl, inr, ⊎_elim, arith}
use Rattle.std.proofs.lemmas.Bool.{and_parts, or_left, or_right, le-leb, not_from_false, ne_eqb, cases_Bool, cond-true, cond-false}
use Rattle.page.specs.Bytes.{get16}
use Rattle.page.specs.Headers.{count_of}
use Rattle.page.specs.Slots.{Version, Slot, slot_at, view_of, decoded}
use Rattle.page.specs.Slots.Slot.{holds}
use Rattle.page.specs.Versions.{header_at, row_of}
use Rattle.page.specs.declared.kinds.Kind.{Kind}
use Rattle.page.specs.declared.versions.Address.{Address}
use Rattle.page_check.specs.Rules.{name_of, other_name, is_made_by}
use Rattle.page_laws.specs.Keeps.{Keeps}
use Rattle.page_laws.proofs.Own.{VersionKeeps}
use Rattle.page_laws.proofs.Views.{view_fun, view_length}
use Rattle.page_write.specs.Fields.{removed_by}
use Rattle.page_write_laws.specs.Slots.{NamesAlone, NoOtherNames, Replaces, Milder}
use Rattle.page_write_laws.proofs.Names.{Names, once_two}
use Rattle.page_write_laws.proofs.Beside.{keeps_version, keeps_names}
use Rattle.page_write_laws.proofs.Encoded.{head_tells}
use Rattle.page_write_laws.proofs.Changes.{held}

-- A milder version.

milder_name : (b : ℕ) (at : ℕ → Slot) (u w : Version) → Milder u w → (name_of b at (holds w) ≡ 0) ⊎ (name_of b at (holds w) ≡ name_of b at (holds u))
milder_name b at u w h =
    ⊎_elim
    (λ (e : w.hot_updated ≡ true).
    let f = h.hot e in
    inr
    (ap (λ (x : Bool). cond (x && eqb w.ctid.block b && is_made_by w.remover (at w.ctid.pointer)) w.ctid.pointer 0) (e ∙ sym f.0)
    ∙ ap (λ (x : ℕ). cond (u.hot_updated && eqb w.ctid.block b && is_made_by x (at w.ctid.pointer)) w.ctid.pointer 0) f.1
    ∙ ap (λ (x : Address). cond (u.hot_updated && eqb x.block b && is_made_by u.remover (at x.pointer)) x.pointer 0) h.ctid))
    (λ (e : w.hot_updated ≡ false).
    inl (ap (λ (x : Bool). cond (x && eqb w.ctid.block b && is_made_by w.remover (at w.ctid.pointer)) w.ctid.pointer 0) e))
    (cases_Bool w.hot_updated)

-- it names what its slot named, or nothing
pub milder_alone : (kinds : List Kind) (b : ℕ) (p : List ℕ) (m : ℕ) (u w : Version) → Keeps kinds b p → slot_at (view_of p) m ≡ holds u → Milder u w
    → NamesAlone b (view_of p) m (holds w)
milder_alone kinds b p m u w k e mild i x y ne =
    let r = held p m u e in
    let names : Names b (count_of p) (slot_at (view_of p)) = subst (Names b (count_of p)) (sym (view_fun p)) (keeps_names kinds b p k) in
    let long = view_length p in
    ⊎_elim
    (λ (z : name_of b (slot_at (view_of p)) (holds w) ≡ 0). ap (λ (v : ℕ). other_name v (name_of b (slot_at (view_of p)) (slot_at (view_of p) i))) z)
    (λ (z : name_of b (slot_at (view_of p)) (holds w) ≡ name_of b (slot_at (view_of p)) (holds u)).
    ap (λ (v : ℕ). other_name v (name_of b (slot_at (view_of p)) (slot_at (view_of p) i))) (z ∙ ap (name_of b (slot_at (view_of p))) (sym e))
    ∙ once_two b (count_of p) (slot_at (view_of p)) names m i r.one r.last x (omega arith) (λ d. ne (sym d)))
    (milder_name b (slot_at (view_of p)) u w mild)

-- A removed version.

pub removed_replaces : (u : Version) (t : ℕ) (to : Address) (hot : Bool) → 3 ≤ t → t < 4294967296 → to.block < 4294967296 → to.pointer < 65536
    → Replaces u (removed_by t to hot u)
removed_replaces u t to hot three a c d = record {
  creator = refl;
  heap_only = refl;
  row = refl;
  remover = a;
  block = c;
  pointer = d;
  one_bit = refl;
  number = or_left (leb 3 t) (eqb t 0 && false) (le-leb 3 t three);
}

pub removed_alone : (b : ℕ) (ss : List Slot) (m : ℕ) (u : Version) (t : ℕ) (to : Address) (hot : Bool)
    → (hot ≡ true → NoOtherNames b ss m to.pointer) → NamesAlone b ss m (holds (removed_by t to hot u))
removed_alone b ss m u t to hot h i x y ne =
    ⊎_elim
    (λ (e : (hot && eqb to.block b && is_made_by t (slot_at ss to.pointer)) ≡ true).
    let on = (and_parts hot (eqb to.block b) (and_parts (hot && eqb to.block b) (is_made_by t (slot_at ss to.pointer)) e).0).0 in
    ap (λ (v : ℕ). other_name v (name_of b (slot_at ss) (slot_at ss i))) (cond-true (hot && eqb to.block b && is_made_by t (slot_at ss to.pointer)) to.pointer 0 e)
    ∙ or_right (eqb to.pointer 0) (not (eqb to.pointer (name_of b (slot_at ss) (slot_at ss i))))
    (not_from_false (eqb to.pointer (name_of b (slot_at ss) (slot_at ss i)))
    (ne_eqb to.pointer (name_of b (slot_at ss) (slot_at ss i)) (λ d. h on i x y ne (sym d)))))
    (λ (e : (hot && eqb to.block b && is_made_by t (slot_at ss to.pointer)) ≡ false).
    ap (λ (v : ℕ). other_name v (name_of b (slot_at ss) (slot_at ss i))) (cond-false (hot && eqb to.block b && is_made_by t (slot_at ss to.pointer)) to.pointer 0 e))
    (cases_Bool (hot && eqb to.block b && is_made_by t (slot_at ss to.pointer)))

-- A version as it stands.

get16_small : (p : List ℕ) (i : ℕ) → ((k : ℕ) → get_or p k 0 < 256) → get16 p i < 65536
get16_small p i h = omega (arith, h i, h (i + 1))

pub same_replaces : (kinds : List Kind) (b : ℕ) (p : List ℕ) (m : ℕ) (u : Version) → ((k : ℕ) → get_or p k 0 < 256) → Keeps kinds b p
    → slot_at (view_of p) m ≡ holds u → Replaces u u
same_replaces kinds b p m u bytes k e =
    let r = held p m u e in
    let o = r.offset in let n = r.len in
    let old : VersionKeeps kinds p o n = rw r.pointer at (keeps_version kinds b p k m r.one r.last) in
    let head = head_tells (header_at p o) old.head in
    let as_read : Replaces (decoded (header_at p o) (row_of p o n)) (decoded (header_at p o) (row_of p o n)) = record {
      creator = refl;
      heap_only = refl;
      row = refl;
      remover = omega (arith, bytes (o + 4), bytes (o + 4 + 1), bytes (o + 4 + 2), bytes (o + 4 + 3));
      block = omega (arith, get16_small p (o + 12) bytes, get16_small p (o + 14) bytes);
      pointer = get16_small p (o + 16) bytes;
      one_bit = head.one_bit;
      number = head.remover;
    } in
    subst (λ (w : Version). Replaces w w) (sym r.is) as_read
