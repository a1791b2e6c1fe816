-- Line pointers that lose their versions.
use Rattle.std.proofs.Common.{◌≡◌, ℕ, zero, suc, ◌+◌, ◌-◌, ◌*◌, ◌/◌, ◌%◌, ◌<◌, ◌≤◌, min, true, ◌≢◌, ◌⊎◌, List, length, sym, refl, ap, ◌∙◌, inl, inr, ⊎_elim, arith}
use Rattle.std.proofs.lemmas.Bool.{cases_lt, cases_eq}
use Rattle.page.specs.Bytes.{get16, put32}
use Rattle.page.specs.Headers.{header_of, count_of}
use Rattle.page.specs.LinePointers.{line_pointer_of, line_pointer_at, pointer_of, pointer_at, state_of, word_at, word_of}
use Rattle.page.specs.Slots.{Slot, slot_of, slot_no}
use Rattle.page.specs.declared.kinds.Kind.{Kind}
use Rattle.page.specs.declared.line_pointers.State.TheVariants as state
use Rattle.page.specs.declared.line_pointers.Pointer.{Pointer}
use Rattle.page.specs.declared.line_pointers.Pointer.TheVariants.{Unused, Normal, Redirect, Dead}
use Rattle.page_check.specs.Rules.{apart}
use Rattle.page_check.specs.Lawful.{own_holds}
use Rattle.page_check.proofs.Slots.{slot_no_in, slot_no_past}
use Rattle.page_laws.specs.Keeps.{HeaderKeeps}
use Rattle.page_laws.specs.Windows.{Same, SameOf}
use Rattle.page_laws.proofs.Windows.{same_put32, length-put32, get16_same, get32-put32, line_pointer_at_same}
use Rattle.page_laws.proofs.Own.{own_from, slot_same, apart_sym}
use Rattle.page_compact.proofs.Sound.{Sound, PointerKeeps, lower_above, keeps_at, lies_at, own_same}
use Rattle.page_prune.specs.Pruned.{repointed, repoint_to, slot_after}
use Rattle.page_prune.specs.declared.outcomes.Outcome.{Outcome}
use Rattle.page_prune.specs.declared.outcomes.Outcome.TheVariants.{Stays, Freed, MadeDead, Redirected}

-- A pointer without a version.

abbrev Plain : Pointer → Type 0
Plain Unused = Unit {0}
Plain (Normal o n) = ⊥
Plain (Redirect t) = t < 32768
Plain Dead = Unit {0}

plain_small : (x : Pointer) → Plain x → word_of x < 4294967296
plain_small Unused h = omega arith
plain_small (Normal o n) h = absurd h
plain_small (Redirect t) h = omega arith
plain_small Dead h = omega arith

redirect_reads : (t : ℕ) → t < 32768 → line_pointer_of (word_of (Redirect t)) ≡ record { offset = t; state = state.Redirect; len = 0 }
redirect_reads t h =
    let d : (t % 32768 + 65536) / 32768 ≡ 2 = omega arith in
    let e1 : (t % 32768 + 65536) % 32768 ≡ t = omega arith in
    let e2 : (t % 32768 + 65536) / 131072 ≡ 0 = omega arith in
    let e3 : state_of ((t % 32768 + 65536) / 32768) ≡ state.Redirect = rw d in cc

plain_reads : (x : Pointer) → Plain x → pointer_of (line_pointer_of (word_of x)) ≡ x
plain_reads Unused h = refl
plain_reads (Normal o n) h = absurd h
plain_reads Dead h = refl
plain_reads (Redirect t) h = ap pointer_of (redirect_reads t h)

plain_own : (kinds : List Kind) (p : List ℕ) (x : Pointer) → Plain x → own_holds kinds p (line_pointer_of (word_of x)) ≡ true
plain_own kinds p Unused h = refl
plain_own kinds p (Normal o n) h = absurd h
plain_own kinds p Dead h = refl
plain_own kinds p (Redirect t) h = ap (own_holds kinds p) (redirect_reads t h) ∙ own_from kinds p (record { offset = t; state = state.Redirect; len = 0 }) state.Redirect refl refl

plain_apart : (x y : Pointer) → Plain x → apart x y ≡ true
plain_apart Unused y h = refl
plain_apart (Normal o n) y h = absurd h
plain_apart Dead y h = refl
plain_apart (Redirect t) y h = refl

-- versions lie above upper
above_same : (kinds : List Kind) (p q : List ℕ) (x : Pointer) → PointerKeeps kinds p x → ((a e : ℕ) → (header_of p).upper ≤ a → Same a e p q) → SameOf x p q
above_same kinds p q Unused l s = tt
above_same kinds p q (Redirect t) l s = tt
above_same kinds p q Dead l s = tt
above_same kinds p q (Normal o n) l s = s o (o + n) l.above

-- q is p with the slot i + 1 made to be s
pub record Turned (kinds : List Kind) (p q : List ℕ) (i : ℕ) (s : Slot) : Type 0 where
  pub long : length q ≡ 8192
  pub head : Same 0 24 q p
  pub sound : Sound kinds q
  pub count : count_of q ≡ count_of p
  pub here : slot_no q (i + 1) ≡ s
  pub rest : (k : ℕ) → k ≢ i → slot_no q (k + 1) ≡ slot_no p (k + 1)

module _ (kinds : List Kind) (p : List ℕ) (i : ℕ) (x : Pointer) (lp : length p ≡ 8192) (s : Sound kinds p) (in' : i < count_of p) (plain : Plain x) where
  abbrev q : List ℕ
  q = put32 p (20 + 4 * (i + 1)) (word_of x)

  off : (a e : ℕ) → (e ≤ 20 + 4 * (i + 1)) ⊎ (24 + 4 * (i + 1) ≤ a) → Same a e q p
  off a e h = same_put32 p (20 + 4 * (i + 1)) (word_of x) a e (⊎_elim (λ z. inl z) (λ z. inr (omega arith)) h)

  off' : (a e : ℕ) → (e ≤ 20 + 4 * (i + 1)) ⊎ (24 + 4 * (i + 1) ≤ a) → Same a e p q
  off' a e h k l m = sym (off a e h k l m)

  lq : length q ≡ 8192
  lq = length-put32 p (20 + 4 * (i + 1)) (word_of x) ∙ lp

  head16 : (j : ℕ) → j + 2 ≤ 24 → get16 q j ≡ get16 p j
  head16 j h = get16_same q p j (off j (j + 2) (inl (omega arith)))

  count_same : count_of q ≡ count_of p
  count_same = ap (λ (y : ℕ). (min y 8192 - 24) / 4) (head16 12 (omega arith))

  word_here : word_at q (i + 1) ≡ word_of x
  word_here =
      let a = lower_above kinds p s i in' in let b = s.header.lower_by_upper in let d = s.header.upper_in_page in
      get32-put32 p (20 + 4 * (i + 1)) (word_of x) (omega arith) (plain_small x plain)

  pointer_here : pointer_at q (i + 1) ≡ x
  pointer_here = ap (λ (w : ℕ). pointer_of (line_pointer_of w)) word_here ∙ plain_reads x plain

  line_rest : (k : ℕ) → k ≢ i → line_pointer_at q (k + 1) ≡ line_pointer_at p (k + 1)
  line_rest k ne = line_pointer_at_same q p (k + 1) (off (20 + 4 * (k + 1)) (24 + 4 * (k + 1)) (⊎_elim (λ (z : k < i). inl (omega arith)) (λ (z : i ≤ k). inr (omega arith)) (cases_lt k i)))

  pointer_rest : (k : ℕ) → k ≢ i → pointer_at q (k + 1) ≡ pointer_at p (k + 1)
  pointer_rest k ne = ap pointer_of (line_rest k ne)

  body_rest : (k : ℕ) → k < count_of p → SameOf (pointer_at p (k + 1)) p q
  body_rest k l =
      let a = lower_above kinds p s i in' in let b = s.header.lower_by_upper in
      above_same kinds p q (pointer_at p (k + 1)) (keeps_at kinds p s k l) (λ a e z. off' a e (inr (omega arith)))

  upper_same : (header_of q).upper ≤ (header_of p).upper
  upper_same = let e = head16 14 (omega arith) in omega arith

  own_after : (k : ℕ) → k < count_of p → own_holds kinds q (line_pointer_at q (k + 1)) ≡ true
  own_after k l =
      ⊎_elim
      (λ (e : k ≡ i). rw e (ap (λ (w : ℕ). own_holds kinds q (line_pointer_of w)) word_here ∙ plain_own kinds q x plain))
      (λ (e : k ≡ i → ⊥). ap (own_holds kinds q) (line_rest k e) ∙ own_same kinds p q (line_pointer_at p (k + 1)) upper_same (body_rest k l) (s.own (k + 1) (omega arith) (omega arith)))
      (cases_eq k i)

  apart_after : (k j : ℕ) → j < k → k < count_of p → apart (pointer_at q (k + 1)) (pointer_at q (j + 1)) ≡ true
  apart_after k j m l =
      ⊎_elim
      (λ (e : k ≡ i). rw e (ap (λ (y : Pointer). apart y (pointer_at q (j + 1))) pointer_here ∙ plain_apart x (pointer_at q (j + 1)) plain))
      (λ (e : k ≡ i → ⊥).
      ⊎_elim
      (λ (d : j ≡ i). rw d (apart_sym (pointer_at q (i + 1)) (pointer_at q (k + 1))
      (ap (λ (y : Pointer). apart y (pointer_at q (k + 1))) pointer_here ∙ plain_apart x (pointer_at q (k + 1)) plain)))
      (λ (d : j ≡ i → ⊥).
      ap (λ (y : Pointer). apart y (pointer_at q (j + 1))) (pointer_rest k e)
      ∙ ap (apart (pointer_at p (k + 1))) (pointer_rest j d)
      ∙ s.no_overlap (k + 1) (j + 1) (omega arith) (omega arith) (omega arith))
      (cases_eq j i))
      (cases_eq k i)

  slot_rest : (k : ℕ) → k ≢ i → slot_no q (k + 1) ≡ slot_no p (k + 1)
  slot_rest k ne =
      let ct = count_same in
      ⊎_elim
      (λ (l : k < count_of p).
      slot_no_in q (k + 1) (omega arith) (omega arith)
      ∙ ap (slot_of q) (pointer_rest k ne)
      ∙ sym (slot_same p q (pointer_at p (k + 1)) lp lq (lies_at kinds p s k l) (body_rest k l))
      ∙ sym (slot_no_in p (k + 1) (omega arith) (omega arith)))
      (λ (l : count_of p ≤ k). slot_no_past q (k + 1) (omega arith) ∙ sym (slot_no_past p (k + 1) (omega arith)))
      (cases_lt k (count_of p))

  header_after : HeaderKeeps (header_of q)
  header_after =
      let h = s.header in let l = head16 12 (omega arith) in let u = head16 14 (omega arith) in
      let a = h.lower_past_header in let b = h.lower_by_upper in let d = h.upper_in_page in
      record {
        special_at_end = head16 16 (omega arith) ∙ h.special_at_end;
        layout_version = head16 18 (omega arith) ∙ h.layout_version;
        no_flags = head16 10 (omega arith) ∙ h.no_flags;
        lower_past_header = omega arith;
        lower_by_upper = omega arith;
        upper_in_page = omega arith;
        whole_pointers = ap (λ (y : ℕ). (y - 24) % 4) l ∙ h.whole_pointers;
        upper_aligned = ap (λ (y : ℕ). y % 8) u ∙ h.upper_aligned;
        pointer_limit = let e = count_same in let f = h.pointer_limit in omega arith;
      }

  turned : Turned kinds p q i (slot_of q x)
  turned = record {
    long = lq;
    head = off 0 24 (inl (omega arith));
    sound = record {
      header = header_after;
      own = λ n a b. let ct = count_same in let e : (n - 1) + 1 ≡ n = omega arith in rw e at (own_after (n - 1) (omega arith));
      no_overlap = λ n m a l b. let ct = count_same in let e : (n - 1) + 1 ≡ n = omega arith in let f : (m - 1) + 1 ≡ m = omega arith in
          rw f at (rw e at (apart_after (n - 1) (m - 1) (omega arith) (omega arith)));
    };
    count = count_same;
    here = slot_no_in q (i + 1) (omega arith) (omega (arith, count_same)) ∙ ap (slot_of q) pointer_here;
    rest = slot_rest;
  }

-- an outcome whose number has 15 bits
abbrev pub Small : Outcome → Type 0
Small Stays = Unit {0}
Small Freed = Unit {0}
Small MadeDead = Unit {0}
Small (Redirected t) = t < 32768

turned_one : (kinds : List Kind) (p : List ℕ) (i : ℕ) (o : Outcome) → length p ≡ 8192 → Sound kinds p → i < count_of p → Small o → Turned kinds p (repointed p (i + 1) o) i (slot_after o (slot_no p (i + 1)))
turned_one kinds p i Stays lp s l h = record { long = lp; head = λ k a b. refl; sound = s; count = refl; here = refl; rest = λ k ne. refl }
turned_one kinds p i Freed lp s l h = turned kinds p i Unused lp s l tt
turned_one kinds p i MadeDead lp s l h = turned kinds p i Dead lp s l tt
turned_one kinds p i (Redirected t) lp s l h = turned kinds p i (Redirect t) lp s l h

-- the first n slots are what becomes of them
pub record TurnedTo (kinds : List Kind) (p q : List ℕ) (os : ℕ → Outcome) (n : ℕ) : Type 0 where
  pub long : length q ≡ 8192
  pub head : Same 0 24 q p
  pub sound : Sound kinds q
  pub count : count_of q ≡ count_of p
  pub past : (k : ℕ) → k < n → slot_no q (k + 1) ≡ slot_after (os (k + 1)) (slot_no p (k + 1))
  pub rest : (k : ℕ) → n ≤ k → slot_no q (k + 1) ≡ slot_no p (k + 1)

pub turned_to : (kinds : List Kind) (p : List ℕ) (os : ℕ → Outcome) (n : ℕ) → n ≤ count_of p → length p ≡ 8192 → Sound kinds p
    → ((k : ℕ) → k < count_of p → Small (os (k + 1))) → TurnedTo kinds p (repoint_to p os n) os n
turned_to kinds p os zero le lp s h = record { long = lp; head = λ k a b. refl; sound = s; count = refl; past = λ k l. absurd (omega arith); rest = λ k l. refl }
turned_to kinds p os (suc n) le lp s h =
    let d = turned_to kinds p os n (omega arith) lp s h in
    let ct = d.count in
    let t = turned_one kinds (repoint_to p os n) n (os (n + 1)) d.long d.sound (omega arith) (h n (omega arith)) in
    record {
      long = t.long;
      head = λ k a b. t.head k a b ∙ d.head k a b;
      sound = t.sound;
      count = t.count ∙ d.count;
      past = λ k l. ⊎_elim
          (λ (z : k < n). t.rest k (omega arith) ∙ d.past k z)
          (λ (z : n ≤ k). let y : k ≡ n = omega arith in rw y (t.here ∙ ap (slot_after (os (n + 1))) (d.rest n (omega arith))))
          (cases_lt k n);
      rest = λ k l. t.rest k (omega arith) ∙ d.rest k (omega arith);
    }
