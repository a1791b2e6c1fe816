-- All versions of a page are changed, one pointer after the other.
use Rattle.std.proofs.Common.{◌≡◌, ℕ, zero, suc, ◌+◌, ◌-◌, ◌<◌, ◌≤◌, List, map, length, get_or, set, sym, refl, ap, ◌∙◌, ⊎_elim, arith}
use Rattle.std.proofs.lemmas.List.{get_or-set_same, get_or-set_other, ext_get_or, length-map, get_or-map}
use Rattle.std.proofs.lemmas.Bool.{cases_lt}
use Rattle.page.specs.Headers.{count_of}
use Rattle.page.specs.LinePointers.{pointer_at}
use Rattle.page.specs.Slots.{Version, Slot, slot_of, slot_at, view_of}
use Rattle.page.specs.Slots.Slot.{unused, holds}
use Rattle.page.specs.declared.kinds.Kind.{Kind}
use Rattle.page.specs.declared.line_pointers.Pointer.{Pointer}
use Rattle.page.specs.declared.line_pointers.Pointer.TheVariants.{Unused, Normal, Redirect, Dead}
use Rattle.page_check.proofs.Slots.{slot_no_in}
use Rattle.page_laws.specs.Keeps.{Keeps}
use Rattle.page_laws.proofs.Views.{view_get, view_length, slot_at_one}
use Rattle.page_write.specs.Changing.{change_at, change_version, change_to}
use Rattle.page_write_laws.specs.Slots.{on_version, Milder}
use Rattle.page_write_laws.proofs.Changes.{changed}
use Rattle.page_write_laws.proofs.Naming.{milder_alone}

-- the first n versions are changed
pub record Done (kinds : List Kind) (b : ℕ) (p q : List ℕ) (f : Version → Version) (n : ℕ) : Type 0 where
  pub keeps : Keeps kinds b q
  pub long : length q ≡ 8192
  pub count : count_of q ≡ count_of p
  pub past : (k : ℕ) → k < n → get_or (view_of q) k unused ≡ on_version f (get_or (view_of p) k unused)
  pub rest : (k : ℕ) → n ≤ k → get_or (view_of q) k unused ≡ get_or (view_of p) k unused

module _ (kinds : List Kind) (b : ℕ) (p : List ℕ) (f : Version → Version) (mild : (k : ℕ) (u : Version) → slot_at (view_of p) k ≡ holds u → Milder u (f u)) where
  passed : (q : List ℕ) (n : ℕ) → Done kinds b p q f n → change_version f q (n + 1) ≡ q → on_version f (get_or (view_of p) n unused) ≡ get_or (view_of p) n unused
      → Done kinds b p (change_version f q (n + 1)) f (suc n)
  passed q n d is e =
      rw is (record {
        keeps = d.keeps;
        long = d.long;
        count = d.count;
        past = λ k l. ⊎_elim (λ (z : k < n). d.past k z) (λ (z : n ≤ k). let y : k ≡ n = omega arith in rw y (d.rest n (omega arith) ∙ sym e)) (cases_lt k n);
        rest = λ k l. d.rest k (omega arith);
      })

  replaced : (q : List ℕ) (n : ℕ) (u : Version) → n < count_of p → Done kinds b p q f n → slot_at (view_of q) (n + 1) ≡ holds u
      → Done kinds b p (change_version f q (n + 1)) f (suc n)
  replaced q n u l d e =
      let was : get_or (view_of p) n unused ≡ holds u = sym (d.rest n (omega arith)) ∙ sym (slot_at_one (view_of q) n) ∙ e in
      let m = mild (n + 1) u (slot_at_one (view_of p) n ∙ was) in
      let r = changed kinds b q f (n + 1) u d.long d.keeps e m.replaces (milder_alone kinds b q (n + 1) u (f u) d.keeps e m) in
      let one : (n + 1) - 1 ≡ n = omega arith in
      let v : view_of (change_version f q (n + 1)) ≡ set (view_of q) n (holds (f u)) = r.view ∙ ap (λ (x : ℕ). set (view_of q) x (holds (f u))) one in
      let lq = view_length q in let ct = d.count in
      record {
        keeps = r.keeps;
        long = r.long;
        count = r.count ∙ d.count;
        past = λ k h. ap (λ (x : List Slot). get_or x k unused) v ∙
            ⊎_elim
            (λ (z : k < n). get_or-set_other (view_of q) n k (holds (f u)) unused (omega arith) ∙ d.past k z)
            (λ (z : n ≤ k). let y : k ≡ n = omega arith in rw y (get_or-set_same (view_of q) n (holds (f u)) unused (omega arith) ∙ sym (ap (on_version f) was)))
            (cases_lt k n);
        rest = λ k h. ap (λ (x : List Slot). get_or x k unused) v ∙ get_or-set_other (view_of q) n k (holds (f u)) unused (omega arith) ∙ d.rest k (omega arith);
      }

  step : (q : List ℕ) (n : ℕ) → n < count_of p → Done kinds b p q f n → (x : Pointer) → pointer_at q (n + 1) ≡ x → Done kinds b p (change_version f q (n + 1)) f (suc n)
  step q n l d x e =
      let ct = d.count in
      let slot : slot_at (view_of q) (n + 1) ≡ slot_of q x = slot_at_one (view_of q) n ∙ view_get q n ∙ slot_no_in q (n + 1) (omega arith) (omega arith) ∙ ap (slot_of q) e in
      let was : get_or (view_of p) n unused ≡ slot_of q x = sym (d.rest n (omega arith)) ∙ sym (slot_at_one (view_of q) n) ∙ slot in
      let pass : (change_at f q x ≡ q) × (on_version f (slot_of q x) ≡ slot_of q x) → Done kinds b p (change_version f q (n + 1)) f (suc n)
      = λ s. passed q n d (ap (change_at f q) e ∙ s.0) (ap (on_version f) was ∙ s.1 ∙ sym was) in
      cases x slot pass
    where
      cases : (x : Pointer) → slot_at (view_of q) (n + 1) ≡ slot_of q x
          → ((change_at f q x ≡ q) × (on_version f (slot_of q x) ≡ slot_of q x) → Done kinds b p (change_version f q (n + 1)) f (suc n))
          → Done kinds b p (change_version f q (n + 1)) f (suc n)
      cases Unused slot pass = pass (refl, refl)
      cases (Redirect t) slot pass = pass (refl, refl)
      cases Dead slot pass = pass (refl, refl)
      cases (Normal o k) slot pass = replaced q n _ l d slot

  pub done : length p ≡ 8192 → Keeps kinds b p → (n : ℕ) → n ≤ count_of p → Done kinds b p (change_to f p n) f n
  done len k zero l = record { keeps = k; long = len; count = refl; past = λ i h. absurd (omega arith); rest = λ i h. refl }
  done len k (suc n) l = step (change_to f p n) n (omega arith) (done len k n (omega arith)) (pointer_at (change_to f p n) (n + 1)) refl

pub done_view : (kinds : List Kind) (b : ℕ) (p q : List ℕ) (f : Version → Version) → Done kinds b p q f (count_of p) → view_of q ≡ map (on_version f) (view_of p)
done_view kinds b p q f d =
    let lp = view_length p in let lq = view_length q in let ct = d.count in
    ext_get_or unused (view_of q) (map (on_version f) (view_of p)) (lq ∙ ct ∙ sym lp ∙ sym (length-map (view_of p) (on_version f)))
    (λ k h. d.past k (omega arith) ∙ sym (get_or-map (on_version f) (view_of p) k unused unused (omega arith)))
