-- The rules on names among the slots of a page, and how a change of one slot bears on them.
use Rattle.std.proofs.Common.{◌≡◌, ℕ, ◌<◌, ◌≤◌, Bool, true, false, cond, not, ◌&&◌, eqb, ◌≢◌, sym, refl, ap, ◌∙◌, ⊎_elim, arith}
use Rattle.std.proofs.lemmas.Bool.{and_left, and_right, and_cases, or_cases, or_left, or_right, not-true, not_from_false, both_ways, eq-eqb, ne_eqb, eqb-false, cases_eq, cases_lt, cases_Bool, cond-false}
use Rattle.page.specs.Slots.{Version, Slot}
use Rattle.page.specs.Slots.Slot.{unused, dead, redirect, holds}
use Rattle.page_check.specs.Rules.{is_heap_only, is_made_by, name_of, leads_well, other_name}
use Rattle.page_write_laws.specs.Slots.{awaits}

-- redirects lead well, and no two of the slots 1 to c name the same
pub record Names (b c : ℕ) (at : ℕ → Slot) : Type 0 where
  pub leads : (n : ℕ) → 1 ≤ n → n ≤ c → leads_well at (at n) ≡ true
  pub once : (n m : ℕ) → 1 ≤ m → m < n → n ≤ c → other_name (name_of b at (at n)) (name_of b at (at m)) ≡ true

pub other_sym : (x y : ℕ) → other_name x y ≡ true → other_name y x ≡ true
other_sym x y h =
    ⊎_elim
    (λ (e : y ≡ x).
    or_left (eqb y 0) (not (eqb y x))
    (⊎_elim
    (λ (a : eqb x 0 ≡ true). rw e a)
    (λ (a : not (eqb x y) ≡ true). absurd (both_ways (eqb x y) (not-true (eqb x y) a) (eq-eqb x y (sym e))))
    (or_cases (eqb x 0) (not (eqb x y)) h)))
    (λ (e : y ≡ x → ⊥). or_right (eqb y 0) (not (eqb y x)) (not_from_false (eqb y x) (ne_eqb y x e)))
    (cases_eq y x)

-- two slots in either order
pub once_two : (b c : ℕ) (at : ℕ → Slot) → Names b c at → (n m : ℕ) → 1 ≤ n → n ≤ c → 1 ≤ m → m ≤ c → n ≢ m
    → other_name (name_of b at (at n)) (name_of b at (at m)) ≡ true
once_two b c at h n m a1 a2 b1 b2 ne =
    ⊎_elim
    (λ (l : n < m). other_sym (name_of b at (at m)) (name_of b at (at n)) (h.once m n a1 l b2))
    (λ (l : m ≤ n). h.once n m b1 (omega arith) a2)
    (cases_lt n m)

-- what is seen of a slot from elsewhere is the same
pub record Alike (s t : Slot) : Type 0 where
  pub heap_only : is_heap_only s ≡ is_heap_only t
  pub made_by : (x : ℕ) → is_made_by x s ≡ is_made_by x t

pub alike_same : (s t : Slot) → s ≡ t → Alike s t
alike_same s t e = record { heap_only = ap is_heap_only e; made_by = λ x. ap (is_made_by x) e }

pub alike_holds : (u v : Version) → u.heap_only ≡ v.heap_only → u.creator ≡ v.creator → Alike (holds u) (holds v)
alike_holds u v h d = record {
  heap_only = h;
  made_by = λ x. ap (λ (k : Bool). k && eqb u.creator x) h ∙ ap (λ (k : ℕ). v.heap_only && eqb k x) d;
}

pub name_alike : (b : ℕ) (at bt : ℕ → Slot) (s : Slot) → ((k : ℕ) → Alike (at k) (bt k)) → name_of b at s ≡ name_of b bt s
name_alike b at bt unused h = refl
name_alike b at bt dead h = refl
name_alike b at bt (redirect t) h = ap (λ (x : Bool). cond x t 0) (h t).heap_only
name_alike b at bt (holds v) h =
    ap (λ (x : Bool). cond (v.hot_updated && eqb v.ctid.block b && x) v.ctid.pointer 0) ((h v.ctid.pointer).made_by v.remover)

pub leads_alike : (at bt : ℕ → Slot) (s : Slot) → ((k : ℕ) → Alike (at k) (bt k)) → leads_well at s ≡ leads_well bt s
leads_alike at bt unused h = refl
leads_alike at bt dead h = refl
leads_alike at bt (redirect t) h = (h t).heap_only
leads_alike at bt (holds v) h = refl

-- slot m gets a name that is alone, and the others keep theirs
pub names_change : (b c m : ℕ) (at bt : ℕ → Slot) → Names b c at
    → ((n : ℕ) → 1 ≤ n → n ≤ c → n ≢ m → name_of b bt (bt n) ≡ name_of b at (at n))
    → ((n : ℕ) → 1 ≤ n → n ≤ c → leads_well bt (bt n) ≡ true)
    → ((n : ℕ) → 1 ≤ n → n ≤ c → n ≢ m → other_name (name_of b bt (bt m)) (name_of b at (at n)) ≡ true)
    → Names b c bt
names_change b c m at bt h same leads alone =
    let alone' : (n : ℕ) → 1 ≤ n → n ≤ c → n ≢ m → other_name (name_of b bt (bt m)) (name_of b bt (bt n)) ≡ true
    = λ n x y ne. ap (other_name (name_of b bt (bt m))) (same n x y ne) ∙ alone n x y ne in
    record {
      leads = leads;
      once = λ n k x y z.
          ⊎_elim
          (λ (e : n ≡ m). rw e (alone' k x (omega arith) (omega arith)))
          (λ (e : n ≡ m → ⊥).
          ⊎_elim
          (λ (d : k ≡ m). rw d (other_sym (name_of b bt (bt m)) (name_of b bt (bt n)) (alone' n (omega arith) z e)))
          (λ (d : k ≡ m → ⊥).
          ap (λ (v : ℕ). other_name v (name_of b bt (bt k))) (same n (omega arith) z e)
          ∙ ap (other_name (name_of b at (at n))) (same k x (omega arith) d)
          ∙ h.once n k x y z)
          (cases_eq k m))
          (cases_eq n m);
    }

-- more slots, all unused
pub names_grow : (b c c' : ℕ) (at : ℕ → Slot) → Names b c at → ((n : ℕ) → c < n → at n ≡ unused) → Names b c' at
names_grow b c c' at h past = record {
  leads = λ n x y. ⊎_elim (λ (z : c < n). ap (leads_well at) (past n z)) (λ (z : n ≤ c). h.leads n x z) (cases_lt c n);
  once = λ n m x y z.
      ⊎_elim (λ (w : c < n). ap (λ (s : Slot). other_name (name_of b at s) (name_of b at (at m))) (past n w)) (λ (w : n ≤ c). h.once n m x y w) (cases_lt c n);
}

-- A new version w in the unused slot m: it leads nowhere, and nothing leads to it.
module _ (b m : ℕ) (at bt : ℕ → Slot) (w : Version) (was : at m ≡ unused) (is : bt m ≡ holds w) (rest : (t : ℕ) → t ≢ m → bt t ≡ at t)
    (cold : w.hot_updated ≡ false) where
  -- what leads to a heap-only version does not lead to slot m
  elsewhere : (t : ℕ) → is_heap_only (at t) ≡ true → t ≢ m
  elsewhere t h e = both_ways (is_heap_only (at t)) (ap (λ (x : ℕ). is_heap_only (at x)) e ∙ ap is_heap_only was) h

  -- a version that leads to slot m does not name what is put there
  not_named : (v : Version) → v.ctid.pointer ≡ m → (w.heap_only ≡ true → awaits b m w.creator (holds v) ≡ false)
      → (v.hot_updated && eqb v.ctid.block b && (w.heap_only && eqb w.creator v.remover)) ≡ false
  not_named v e a =
      ⊎_elim
      (λ (k : w.heap_only ≡ true).
      ⊎_elim
      (λ (z : (v.hot_updated && eqb v.ctid.block b && eqb v.ctid.pointer m) ≡ false).
      and_left (v.hot_updated && eqb v.ctid.block b) (w.heap_only && eqb w.creator v.remover)
      (⊎_elim
      (λ (y : (v.hot_updated && eqb v.ctid.block b) ≡ false). y)
      (λ (y : eqb v.ctid.pointer m ≡ false). absurd (eqb-false v.ctid.pointer m y e))
      (and_cases (v.hot_updated && eqb v.ctid.block b) (eqb v.ctid.pointer m) z)))
      (λ (z : eqb v.remover w.creator ≡ false).
      and_right (v.hot_updated && eqb v.ctid.block b) (w.heap_only && eqb w.creator v.remover)
      (and_right w.heap_only (eqb w.creator v.remover)
      (ne_eqb w.creator v.remover (λ q. eqb-false v.remover w.creator z (sym q)))))
      (and_cases (v.hot_updated && eqb v.ctid.block b && eqb v.ctid.pointer m) (eqb v.remover w.creator) (a k)))
      (λ (k : w.heap_only ≡ false).
      and_right (v.hot_updated && eqb v.ctid.block b) (w.heap_only && eqb w.creator v.remover)
      (and_left w.heap_only (eqb w.creator v.remover) k))
      (cases_Bool w.heap_only)

  name_put : (s : Slot) → leads_well at s ≡ true → (w.heap_only ≡ true → awaits b m w.creator s ≡ false) → name_of b bt s ≡ name_of b at s
  name_put unused h a = refl
  name_put dead h a = refl
  name_put (redirect t) h a = ap (λ (x : Slot). cond (is_heap_only x) t 0) (rest t (elsewhere t h))
  name_put (holds v) h a =
      ⊎_elim
      (λ (e : v.ctid.pointer ≡ m).
      let now : is_made_by v.remover (bt v.ctid.pointer) ≡ (w.heap_only && eqb w.creator v.remover)
      = ap (λ (x : ℕ). is_made_by v.remover (bt x)) e ∙ ap (is_made_by v.remover) is in
      let then : is_made_by v.remover (at v.ctid.pointer) ≡ false
      = ap (λ (x : ℕ). is_made_by v.remover (at x)) e ∙ ap (is_made_by v.remover) was in
      ap (λ (x : Bool). cond (v.hot_updated && eqb v.ctid.block b && x) v.ctid.pointer 0) now
      ∙ cond-false _ v.ctid.pointer 0 (not_named v e a)
      ∙ sym (cond-false (v.hot_updated && eqb v.ctid.block b && is_made_by v.remover (at v.ctid.pointer)) v.ctid.pointer 0
      (and_right (v.hot_updated && eqb v.ctid.block b) _ then)))
      (λ (e : v.ctid.pointer ≡ m → ⊥).
      ap (λ (x : Slot). cond (v.hot_updated && eqb v.ctid.block b && is_made_by v.remover x) v.ctid.pointer 0) (rest v.ctid.pointer e))
      (cases_eq v.ctid.pointer m)

  leads_put : (s : Slot) → leads_well at s ≡ true → leads_well bt s ≡ true
  leads_put unused h = refl
  leads_put dead h = refl
  leads_put (redirect t) h = ap is_heap_only (rest t (elsewhere t h)) ∙ h
  leads_put (holds v) h = refl

  name_new : name_of b bt (bt m) ≡ 0
  name_new =
      ap (name_of b bt) is
      ∙ cond-false (w.hot_updated && eqb w.ctid.block b && is_made_by w.remover (bt w.ctid.pointer)) w.ctid.pointer 0
      (and_left (w.hot_updated && eqb w.ctid.block b) _ (and_left w.hot_updated (eqb w.ctid.block b) cold))

  pub names_put : (c : ℕ) → Names b c at → (w.heap_only ≡ true → (n : ℕ) → awaits b m w.creator (at n) ≡ false) → Names b c bt
  names_put c h wait =
      names_change b c m at bt h
      (λ n x y ne. ap (name_of b bt) (rest n ne) ∙ name_put (at n) (h.leads n x y) (λ e. wait e n))
      (λ n x y. ⊎_elim
      (λ (e : n ≡ m). rw e (ap (leads_well bt) is))
      (λ (e : n ≡ m → ⊥). ap (leads_well bt) (rest n e) ∙ leads_put (at n) (h.leads n x y))
      (cases_eq n m))
      (λ n x y ne. ap (λ (v : ℕ). other_name v (name_of b at (at n))) name_new)
