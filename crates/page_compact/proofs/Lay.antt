-- What is read of the page while its versions are laid.
use Rattle.std.proofs.Common.{◌≡◌, ℕ, zero, suc, ◌+◌, ◌-◌, ◌*◌, ◌<◌, ◌≤◌, ◌≢◌, ◌⊎◌, List, length, get_or, replicate, sym, refl, ap, ◌∙◌, subst, inl, inr, ⊎_elim, add-one, arith, rules}
use borrow.Rule.Slice.PartMut.{put_mid}
use Rattle.std.specs.List.{between}
use Rattle.std.proofs.lemmas.List.{places, length-replicate, get_or-replicate}
use Rattle.std.proofs.lemmas.List.Edits.{length-between, get_or-between}
use Rattle.std.proofs.lemmas.Bool.{cases_lt}
use Rattle.page.specs.Headers.{header_of, count_of}
use Rattle.page.specs.LinePointers.{pointer_at, word_at, word_of}
use Rattle.page.specs.declared.kinds.Kind.{Kind}
use Rattle.page.specs.declared.line_pointers.Pointer.{Pointer}
use Rattle.page.specs.declared.line_pointers.Pointer.TheVariants.{Unused, Normal, Redirect, Dead}
use Rattle.page_check.specs.Marking.{Lies}
use Rattle.page_laws.specs.Windows.{Same}
use Rattle.page_laws.proofs.Windows.{same_put32, same_put_mid, length-put_mid, length-put32, get32_same, get32-put32}
use Rattle.page_room.specs.Room.{up8}
use Rattle.page_compact.specs.Compaction.{size_of, top_to, laid, laid_to, cleared}
use Rattle.page_compact.proofs.Steps.{top_to_more, laid_to_more}
use Rattle.page_compact.proofs.Sound.{Sound, lower_above, lies_at}
use Rattle.page_compact.proofs.Tops.{top_high, top_low, top_step, top_order}

-- the word of a pointer whose version is laid at t
abbrev pub moved : ℕ → ℕ → Pointer → ℕ
moved w t Unused = w
moved w t (Normal o l) = word_of (Normal t l)
moved w t (Redirect r) = w
moved w t Dead = w

-- the version of a pointer of p lies in q at t, and its padding is zero
abbrev pub BodyOf : List ℕ → List ℕ → ℕ → Pointer → Type 0
BodyOf q p t Unused = Unit {0}
BodyOf q p t (Normal o l) = ((x : ℕ) → x < l → get_or q (t + x) 0 ≡ get_or p (o + x) 0) × ((k : ℕ) → t + l ≤ k → k < t + up8 l → get_or q k 0 ≡ 0)
BodyOf q p t (Redirect r) = Unit {0}
BodyOf q p t Dead = Unit {0}

-- the versions of the pointers 1 to n are laid in q; from lower to the lowest all is zero
pub record Laid (p q : List ℕ) (n : ℕ) : Type 0 where
  pub long : length q ≡ 8192
  pub head : Same 0 24 q p
  pub done : (k : ℕ) → k < n → word_at q (k + 1) ≡ moved (word_at p (k + 1)) (top_to p (k + 1)) (pointer_at p (k + 1))
  pub todo : (k : ℕ) → n ≤ k → k < count_of p → word_at q (k + 1) ≡ word_at p (k + 1)
  pub body : (k : ℕ) → k < n → BodyOf q p (top_to p (k + 1)) (pointer_at p (k + 1))
  pub free : (k : ℕ) → (header_of p).lower ≤ k → k < top_to p n → get_or q k 0 ≡ 0

pub body_over : (q r p : List ℕ) (t : ℕ) (x : Pointer) → BodyOf q p t x → ((k : ℕ) → t ≤ k → get_or r k 0 ≡ get_or q k 0) → BodyOf r p t x
body_over q r p t Unused b h = tt
body_over q r p t (Redirect m) b h = tt
body_over q r p t Dead b h = tt
body_over q r p t (Normal o l) b h = (λ x y. h (t + x) (omega arith) ∙ b.0 x y, λ k x y. h k (omega arith) ∙ b.1 k x y)

-- one version is laid at t, under the pointer n + 1
module _ (p q : List ℕ) (n t o l : ℕ) (lp : length p ≡ 8192) (lq : length q ≡ 8192) (inside : o + l ≤ 8192) (room : t + l ≤ 8192) (low : 24 + 4 * (n + 1) ≤ t) where
  ys : length (between o (o + l) p) ≡ (t + l) - t
  ys = length-between p o (o + l) (omega arith) ∙ omega arith

  len_mid : length (put_mid t ((t + l) - t) q (between o (o + l) p)) ≡ 8192
  len_mid = length-put_mid q (between o (o + l) p) t ((t + l) - t) ys (omega arith) ∙ lq

  laid_long : length (laid p q t (n + 1) (Normal o l)) ≡ 8192
  laid_long = length-put32 (put_mid t ((t + l) - t) q (between o (o + l) p)) (20 + 4 * (n + 1)) (word_of (Normal t l)) ∙ len_mid

  laid_off : (a e : ℕ) → (e ≤ t) ⊎ (t + l ≤ a) → (e ≤ 20 + 4 * (n + 1)) ⊎ (24 + 4 * (n + 1) ≤ a) → Same a e (laid p q t (n + 1) (Normal o l)) q
  laid_off a e x y k h m =
      same_put32 (put_mid t ((t + l) - t) q (between o (o + l) p)) (20 + 4 * (n + 1)) (word_of (Normal t l)) a e (⊎_elim (λ z. inl z) (λ z. inr (omega arith)) y) k h m
      ∙ same_put_mid q (between o (o + l) p) t ((t + l) - t) a e ys (omega arith) (⊎_elim (λ z. inl z) (λ z. inr (omega arith)) x) k h m

  laid_word : word_at (laid p q t (n + 1) (Normal o l)) (n + 1) ≡ word_of (Normal t l)
  laid_word = get32-put32 (put_mid t ((t + l) - t) q (between o (o + l) p)) (20 + 4 * (n + 1)) (word_of (Normal t l)) (omega (arith, len_mid)) (omega arith)

  at_mid : (x : ℕ) → x < l → get_or (put_mid t ((t + l) - t) q (between o (o + l) p)) (t + x) 0 ≡ get_or (between o (o + l) p) x 0
  at_mid x h = let e = ys in search (rules, places)

  laid_body : (x : ℕ) → x < l → get_or (laid p q t (n + 1) (Normal o l)) (t + x) 0 ≡ get_or p (o + x) 0
  laid_body x h =
      same_put32 (put_mid t ((t + l) - t) q (between o (o + l) p)) (20 + 4 * (n + 1)) (word_of (Normal t l)) (t + x) (t + x + 1) (inr (omega arith)) (t + x) (omega arith) (omega arith)
      ∙ at_mid x h ∙ get_or-between p o (o + l) x 0 (omega arith)

module _ (kinds : List Kind) (p : List ℕ) (lp : length p ≡ 8192) (s : Sound kinds p) where
  pub floor : (n : ℕ) → n ≤ count_of p → (header_of p).lower ≤ top_to p n
  floor n le = let a = top_high kinds p s n le in let b = s.header.lower_by_upper in omega arith

  laid_none : Laid p (cleared p) 0
  laid_none =
      let h1 = s.header.lower_past_header in let h2 = s.header.lower_by_upper in let h3 = s.header.upper_in_page in
      let r : length (replicate {A = ℕ} (8192 - (header_of p).lower) 0) ≡ 8192 - (header_of p).lower = length-replicate (8192 - (header_of p).lower) 0 in
      let same : (a e : ℕ) → e ≤ (header_of p).lower → Same a e (cleared p) p
      = λ a e x. same_put_mid p (replicate (8192 - (header_of p).lower) 0) (header_of p).lower (8192 - (header_of p).lower) a e r (omega arith) (inl x) in
      record {
        long = length-put_mid p (replicate (8192 - (header_of p).lower) 0) (header_of p).lower (8192 - (header_of p).lower) r (omega arith) ∙ lp;
        head = same 0 24 h1;
        done = λ k h. absurd (omega arith);
        todo = λ k h l. let a = lower_above kinds p s k l in get32_same (cleared p) p (20 + 4 * (k + 1)) (same (20 + 4 * (k + 1)) (20 + 4 * (k + 1) + 4) (omega arith));
        body = λ k h. absurd (omega arith);
        free = λ k h l. zero_at (header_of p).lower k (omega arith) h l;
      }
    where
      zero_at : (a k : ℕ) → a ≤ 8192 → a ≤ k → k < 8192 → get_or (put_mid a (8192 - a) p (replicate (8192 - a) 0)) k 0 ≡ 0
      zero_at a k le h l =
          let r : length (replicate {A = ℕ} (8192 - a) 0) ≡ 8192 - a = length-replicate (8192 - a) 0 in
          let e : get_or (replicate {A = ℕ} (8192 - a) 0) (k - a) 0 ≡ 0 = get_or-replicate (8192 - a) (k - a) 0 0 (omega arith) in
          search (rules, places)

  -- nothing is laid for a pointer without a version
  laid_skip : (q : List ℕ) (n : ℕ) → n < count_of p → Laid p q n → word_at q (n + 1) ≡ moved (word_at p (n + 1)) (top_to p (n + 1)) (pointer_at p (n + 1))
      → BodyOf q p (top_to p (n + 1)) (pointer_at p (n + 1)) → Laid p q (n + 1)
  laid_skip q n l d e b = record {
    long = d.long;
    head = d.head;
    done = λ k h. ⊎_elim (λ (z : k < n). d.done k z) (λ (z : n ≤ k). let y : k ≡ n = omega arith in rw y e) (cases_lt k n);
    todo = λ k h m. d.todo k (omega arith) m;
    body = λ k h. ⊎_elim (λ (z : k < n). d.body k z) (λ (z : n ≤ k). let y : k ≡ n = omega arith in rw y b) (cases_lt k n);
    free = λ k h m. let a = top_step kinds p s n l in d.free k h (omega arith);
  }

  laid_one : (q : List ℕ) (n : ℕ) (x : Pointer) → n < count_of p → pointer_at p (n + 1) ≡ x → Laid p q n → Laid p (laid p q (top_to p (n + 1)) (n + 1) x) (n + 1)
  laid_one q n Unused l e d = laid_skip q n l d (d.todo n (omega arith) l ∙ sym (ap (moved (word_at p (n + 1)) (top_to p (n + 1))) e)) (rw e tt)
  laid_one q n (Redirect r) l e d = laid_skip q n l d (d.todo n (omega arith) l ∙ sym (ap (moved (word_at p (n + 1)) (top_to p (n + 1))) e)) (rw e tt)
  laid_one q n Dead l e d = laid_skip q n l d (d.todo n (omega arith) l ∙ sym (ap (moved (word_at p (n + 1)) (top_to p (n + 1))) e)) (rw e tt)
  laid_one q n (Normal o m) l e d =
      let h1 = lower_above kinds p s n l in
      let lies : Lies o m = rw e at (lies_at kinds p s n l) in
      let ends = lies.ends in
      let step : top_to p (n + 1) + up8 m ≡ top_to p n = ap (λ (x : Pointer). top_to p (n + 1) + size_of x) (sym e) ∙ top_step kinds p s n l in
      let most = top_low p n in
      let least = floor (n + 1) (omega arith) in
      let t = top_to p (n + 1) in
      let room : t + m ≤ 8192 = omega arith in
      let low : 24 + 4 * (n + 1) ≤ t = omega arith in
      let lq = d.long in
      let off = laid_off p q n t o m lp lq ends room low in
      let r = laid p q t (n + 1) (Normal o m) in
      let above : (k : ℕ) → k < n → (j : ℕ) → top_to p (k + 1) ≤ j → get_or r j 0 ≡ get_or q j 0
      = λ k h j a. let o1 = top_order kinds p s (k + 1) n (omega arith) (omega arith) in off j (j + 1) (inr (omega arith)) (inr (omega arith)) j (omega arith) (omega arith) in
      let words : (k : ℕ) → k < count_of p → k ≢ n → word_at r (k + 1) ≡ word_at q (k + 1)
      = λ k h ne. let a = lower_above kinds p s k h in get32_same r q (20 + 4 * (k + 1)) (off (20 + 4 * (k + 1)) (20 + 4 * (k + 1) + 4) (inl (omega arith))
      (⊎_elim (λ (z : k < n). inl (omega arith)) (λ (z : n ≤ k). inr (omega arith)) (cases_lt k n))) in
      record {
        long = laid_long p q n t o m lp lq ends room low;
        head = λ k a h. off 0 24 (inl (omega arith)) (inl (omega arith)) k a h ∙ d.head k a h;
        done = λ k h. ⊎_elim
            (λ (z : k < n). words k (omega arith) (omega arith) ∙ d.done k z)
            (λ (z : n ≤ k). let y : k ≡ n = omega arith in rw y (laid_word p q n t o m lp lq ends room low ∙ sym (ap (moved (word_at p (n + 1)) t) e)))
            (cases_lt k n);
        todo = λ k h w. words k w (omega arith) ∙ d.todo k (omega arith) w;
        body = λ k h. ⊎_elim
            (λ (z : k < n). body_over q r p (top_to p (k + 1)) (pointer_at p (k + 1)) (d.body k z) (above k z))
            (λ (z : n ≤ k). let y : k ≡ n = omega arith in rw y (rw e (
              laid_body p q n t o m lp lq ends room low,
              λ j a b. off j (j + 1) (inr a) (inr (omega arith)) j (omega arith) (omega arith) ∙ d.free j (omega arith) (omega arith),
            )))
            (cases_lt k n);
        free = λ k h z. off k (k + 1) (inl (omega arith)) (inr (omega arith)) k (omega arith) (omega arith) ∙ d.free k h (omega arith);
      }

  pub laid_all : (n : ℕ) → n ≤ count_of p → Laid p (laid_to p n) n
  laid_all zero le = laid_none
  laid_all (suc n) le =
      let e : laid p (laid_to p n) (top_to p (n + 1)) (n + 1) (pointer_at p (n + 1)) ≡ laid_to p (n + 1)
      = ap (λ (t : ℕ). laid p (laid_to p n) t (n + 1) (pointer_at p (n + 1))) (top_to_more p n) ∙ sym (laid_to_more p n) in
      subst (λ (m : ℕ). Laid p (laid_to p m) m) (add-one n)
      (subst (λ (q : List ℕ). Laid p q (n + 1)) e (laid_one (laid_to p n) n (pointer_at p (n + 1)) (omega arith) refl (laid_all n (omega arith))))
