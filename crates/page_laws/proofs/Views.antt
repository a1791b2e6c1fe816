-- The list of slots of a page.
use Rattle.std.proofs.Common.{◌≡◌, ℕ, zero, suc, ◌+◌, ◌<◌, ◌≤◌, ◌≢◌, List, [], ◌∷◌, ◌++◌, length, get_or, set, sym, refl, ap, ◌∙◌, ⊎_elim, add-one, arith}
use mathlib.Core.Path.{fun_ext}
use Rattle.std.proofs.lemmas.List.{ext_get_or, get_or_past, length-set, get_or-set_same, get_or-set_other, length_push, get_or_push, get_or_append_left}
use Rattle.std.proofs.lemmas.List.FromFn.{length-map-range_with_len, get_or-map-range_with_len}
use Rattle.std.proofs.lemmas.Bool.{cases_lt, cases_eq}
use Rattle.page.specs.Headers.{count_of}
use Rattle.page.specs.LinePointers.{pointer_at}
use Rattle.page.specs.Slots.{Slot, slot_of, slot_no, slot_at, view_of}
use Rattle.page.specs.Slots.Slot.{unused}
use Rattle.page_check.proofs.Slots.{slot_no_in, slot_no_past}

pub view_length : (p : List ℕ) → length (view_of p) ≡ count_of p
view_length p = length-map-range_with_len (λ n. slot_of p (pointer_at p n)) 1 (count_of p)

pub view_at : (p : List ℕ) (t : ℕ) → slot_at (view_of p) t ≡ slot_no p t
view_at p zero = refl
view_at p (suc t) =
    ⊎_elim
    (λ (l : t < count_of p).
    get_or-map-range_with_len (λ n. slot_of p (pointer_at p n)) 1 (count_of p) t (suc t) unused l (omega arith)
    ∙ sym (slot_no_in p (suc t) (omega arith) (omega arith)))
    (λ (l : count_of p ≤ t). get_or_past (view_of p) t unused (omega (arith, view_length p)) ∙ sym (slot_no_past p (suc t) (omega arith)))
    (cases_lt t (count_of p))

pub view_fun : (p : List ℕ) → slot_at (view_of p) ≡ slot_no p
view_fun p = fun_ext (view_at p)

pub slot_at_one : (ss : List Slot) (k : ℕ) → slot_at ss (k + 1) ≡ get_or ss k unused
slot_at_one ss k = rw add-one

pub view_get : (p : List ℕ) (k : ℕ) → get_or (view_of p) k unused ≡ slot_no p (k + 1)
view_get p k = sym (slot_at_one (view_of p) k) ∙ view_at p (k + 1)

-- one slot is replaced
pub view_set : (p q : List ℕ) (i : ℕ) (s : Slot) → count_of q ≡ count_of p → i < count_of p
    → slot_no q (i + 1) ≡ s → ((k : ℕ) → k ≢ i → slot_no q (k + 1) ≡ slot_no p (k + 1))
    → view_of q ≡ set (view_of p) i s
view_set p q i s c l here rest =
    let lp = view_length p in let lq = view_length q in
    ext_get_or unused (view_of q) (set (view_of p) i s) (lq ∙ c ∙ sym lp ∙ sym (length-set (view_of p) i s))
    (λ k h. view_get q k ∙
    ⊎_elim
    (λ (e : k ≡ i). rw e (here ∙ sym (get_or-set_same (view_of p) i s unused (omega arith))))
    (λ (e : k ≡ i → ⊥). rest k e ∙ sym (view_get p k) ∙ sym (get_or-set_other (view_of p) i k s unused e))
    (cases_eq k i))

-- one slot is added
pub view_push : (p q : List ℕ) (s : Slot) → count_of q ≡ count_of p + 1
    → slot_no q (count_of p + 1) ≡ s → ((k : ℕ) → k ≢ count_of p → slot_no q (k + 1) ≡ slot_no p (k + 1))
    → view_of q ≡ view_of p ++ s ∷ []
view_push p q s c here rest =
    let lp = view_length p in let lq = view_length q in
    ext_get_or unused (view_of q) (view_of p ++ s ∷ []) (lq ∙ c ∙ ap (λ (x : ℕ). x + 1) (sym lp) ∙ sym (length_push (view_of p) s))
    (λ k h. view_get q k ∙
    ⊎_elim
    (λ (e : k ≡ count_of p). rw e (here ∙ sym (get_or_push (view_of p) s unused (count_of p) lp)))
    (λ (e : k ≡ count_of p → ⊥). rest k e ∙ sym (view_get p k) ∙ sym (get_or_append_left (view_of p) (s ∷ []) unused k (omega arith)))
    (cases_eq k (count_of p)))
