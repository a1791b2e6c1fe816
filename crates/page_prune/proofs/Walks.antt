-- Chains and walks, whatever they run along.
use Rattle.std.proofs.Common.{◌≡◌, ℕ, zero, suc, ◌+◌, ◌-◌, ◌<◌, ◌≤◌, Bool, true, false, cond, ◌||◌, eqb, List, [], ◌∷◌, ◌++◌, length, take, All, sym, refl, ap, ◌∙◌, subst, ⊎_elim, arith}
use Rattle.std.proofs.lemmas.Bool.{or_cases, or_parts, or_left, or_right, eqb-true, eq-eqb, both_ways, cond-true, cond-false, cases_Bool}
use Rattle.std.proofs.Math.Seq.{take-append_seam}
use Rattle.std.proofs.lemmas.List.Elements.{All-nil, All-cons}
use Rattle.page_laws.specs.Chains.{chain}
use Rattle.page_prune.specs.Chains.{walk, member, any_dead, left, lost}

pub clash : (A : Type 0) → ◌≡◌ {A = ℕ} 0 1 → A
clash A e = absurd (omega arith)

pub walk_shift : (nx : ℕ → ℕ) (i m : ℕ) → walk nx i (nx m) ≡ walk nx (suc i) m
walk_shift nx zero m = refl
walk_shift nx (suc i) m = ap nx (walk_shift nx i m)

pub walk_zero : (nx : ℕ → ℕ) → nx 0 ≡ 0 → (i : ℕ) → walk nx i 0 ≡ 0
walk_zero nx z zero = refl
walk_zero nx z (suc i) = ap nx (walk_zero nx z i) ∙ z

pub chain_none : (nx : ℕ → ℕ) (f : ℕ) → chain nx f 0 ≡ []
chain_none nx zero = refl
chain_none nx (suc f) = refl

pub chain_more : (nx : ℕ → ℕ) (f a : ℕ) → (a ≡ 0 → ⊥) → chain nx (suc f) a ≡ a ∷ chain nx f (nx a)
chain_more nx f zero n = absurd (n refl)
chain_more nx f (suc a) n = refl

-- a chain whose walk comes to 0 is no longer with more steps allowed
pub chain_full : (nx : ℕ → ℕ) → nx 0 ≡ 0 → (j d a : ℕ) → walk nx j a ≡ 0 → chain nx (j + d) a ≡ chain nx j a
chain_full nx z zero d a e = ap (chain nx (0 + d)) e ∙ chain_none nx (0 + d)
chain_full nx z (suc j) d zero e = chain_none nx (suc j + d)
chain_full nx z (suc j) d (suc a) e =
    let n : suc j + d ≡ suc (j + d) = omega arith in
    ap (λ (f : ℕ). chain nx f (suc a)) n ∙ ap (λ (ms : List ℕ). suc a ∷ ms) (chain_full nx z j d (nx (suc a)) (walk_shift nx j (suc a) ∙ e))

-- a member of a chain is reached by a walk
pub member_walk : (nx : ℕ → ℕ) (f a k : ℕ) → member k (chain nx f a) ≡ true → (i : ℕ) × (k ≡ walk nx i a) × (k ≡ 0 → ⊥)
member_walk nx zero a k h = absurd (both_ways false refl h)
member_walk nx (suc f) zero k h = absurd (both_ways false refl h)
member_walk nx (suc f) (suc a) k h =
    ⊎_elim
    (λ (z : eqb k (suc a) ≡ true). let e = eqb-true k (suc a) z in (0, e, λ y. omega arith))
    (λ (z : member k (chain nx f (nx (suc a))) ≡ true).
    let r = member_walk nx f (nx (suc a)) k z in (suc r.0, r.1 ∙ walk_shift nx r.0 (suc a), r.2))
    (or_cases (eqb k (suc a)) (member k (chain nx f (nx (suc a)))) h)

-- What is lost and what is left of a chain.

pub lost_member : (gone : ℕ → Bool) (k : ℕ) (ms : List ℕ) → member k (lost gone ms) ≡ true → member k ms ≡ true
lost_member gone k [] h = h
lost_member gone k (m ∷ ms) h =
    ⊎_elim
    (λ (e : (gone m || any_dead gone ms) ≡ true).
    let h' : (eqb k m || member k (lost gone ms)) ≡ true = ap (member k) (sym (cond-true (gone m || any_dead gone ms) (m ∷ lost gone ms) [] e)) ∙ h in
    ⊎_elim
    (λ (z : eqb k m ≡ true). or_left (eqb k m) (member k ms) z)
    (λ (z : member k (lost gone ms) ≡ true). or_right (eqb k m) (member k ms) (lost_member gone k ms z))
    (or_cases (eqb k m) (member k (lost gone ms)) h'))
    (λ (e : (gone m || any_dead gone ms) ≡ false).
    absurd (both_ways false refl (ap (member k) (sym (cond-false (gone m || any_dead gone ms) (m ∷ lost gone ms) [] e)) ∙ h)))
    (cases_Bool (gone m || any_dead gone ms))

pub none_lost : (gone : ℕ → Bool) (ms : List ℕ) → any_dead gone ms ≡ false → lost gone ms ≡ []
none_lost gone [] h = refl
none_lost gone (m ∷ ms) h = cond-false (gone m || any_dead gone ms) (m ∷ lost gone ms) [] h

-- all is left where none is dead
pub left_all : (gone : ℕ → Bool) (ms : List ℕ) → any_dead gone ms ≡ false → left gone ms ≡ ms
left_all gone [] h = refl
left_all gone (m ∷ ms) h = cond-false (gone m || any_dead gone ms) (left gone ms) (m ∷ ms) h

-- none of what is left is dead
pub left_alive : (gone : ℕ → Bool) (ms : List ℕ) → any_dead gone (left gone ms) ≡ false
left_alive gone [] = refl
left_alive gone (m ∷ ms) =
    ⊎_elim
    (λ (e : (gone m || any_dead gone ms) ≡ true). ap (any_dead gone) (cond-true (gone m || any_dead gone ms) (left gone ms) (m ∷ ms) e) ∙ left_alive gone ms)
    (λ (e : (gone m || any_dead gone ms) ≡ false). ap (any_dead gone) (cond-false (gone m || any_dead gone ms) (left gone ms) (m ∷ ms) e) ∙ e)
    (cases_Bool (gone m || any_dead gone ms))

-- a list is what it loses and what is left of it
pub lost-append-left : (gone : ℕ → Bool) (ms : List ℕ) → lost gone ms ++ left gone ms ≡ ms
lost-append-left gone [] = refl
lost-append-left gone (m ∷ ms) =
    ⊎_elim
    (λ (h : (gone m || any_dead gone ms) ≡ true).
    ap (λ (xs : List ℕ). xs ++ left gone (m ∷ ms)) (cond-true (gone m || any_dead gone ms) (m ∷ lost gone ms) [] h)
    ∙ ap (λ (xs : List ℕ). m ∷ (lost gone ms ++ xs)) (cond-true (gone m || any_dead gone ms) (left gone ms) (m ∷ ms) h)
    ∙ ap (λ (xs : List ℕ). m ∷ xs) (lost-append-left gone ms))
    (λ (h : (gone m || any_dead gone ms) ≡ false).
    ap (λ (xs : List ℕ). xs ++ left gone (m ∷ ms)) (cond-false (gone m || any_dead gone ms) (m ∷ lost gone ms) [] h)
    ∙ cond-false (gone m || any_dead gone ms) (left gone ms) (m ∷ ms) h)
    (cases_Bool (gone m || any_dead gone ms))

pub lost-take : (gone : ℕ → Bool) (ms : List ℕ) → take (length (lost gone ms)) ms ≡ lost gone ms
lost-take gone ms = ap (take (length (lost gone ms))) (sym (lost-append-left gone ms)) ∙ take-append_seam (lost gone ms) (left gone ms)

-- what is left of a chain goes from the place behind what is lost
pub record Cut (nx : ℕ → ℕ) (gone : ℕ → Bool) (f a k : ℕ) : Type 0 where
  pub short : k ≤ f
  pub back : left gone (chain nx f a) ≡ chain nx (f - k) (walk nx k a)

pub cut : (nx : ℕ → ℕ) (gone : ℕ → Bool) (f a : ℕ) → Cut nx gone f a (length (lost gone (chain nx f a)))
cut nx gone zero a = record { short = omega arith; back = refl }
cut nx gone (suc f) zero = record { short = omega arith; back = sym (chain_none nx (suc f - 0)) }
cut nx gone (suc f) (suc a) =
    ⊎_elim
    (λ (e : (gone (suc a) || any_dead gone (chain nx f (nx (suc a)))) ≡ true).
    let r = cut nx gone f (nx (suc a)) in
    let k = length (lost gone (chain nx f (nx (suc a)))) in
    let ls : lost gone (suc a ∷ chain nx f (nx (suc a))) ≡ suc a ∷ lost gone (chain nx f (nx (suc a)))
    = cond-true (gone (suc a) || any_dead gone (chain nx f (nx (suc a)))) (suc a ∷ lost gone (chain nx f (nx (suc a)))) [] e in
    let c : Cut nx gone (suc f) (suc a) (suc k) = record {
      short = let s = r.short in omega arith;
      back = cond-true (gone (suc a) || any_dead gone (chain nx f (nx (suc a)))) (left gone (chain nx f (nx (suc a)))) (suc a ∷ chain nx f (nx (suc a))) e
          ∙ r.back ∙ ap (λ (n : ℕ). chain nx n (walk nx k (nx (suc a)))) (omega arith) ∙ ap (chain nx (suc f - suc k)) (walk_shift nx k (suc a));
    } in
    subst (λ (n : ℕ). Cut nx gone (suc f) (suc a) n) (sym (ap length ls)) c)
    (λ (e : (gone (suc a) || any_dead gone (chain nx f (nx (suc a)))) ≡ false).
    let ls : lost gone (suc a ∷ chain nx f (nx (suc a))) ≡ [] = cond-false (gone (suc a) || any_dead gone (chain nx f (nx (suc a)))) (suc a ∷ lost gone (chain nx f (nx (suc a)))) [] e in
    let e0 : suc f ≡ suc f - 0 = omega arith in
    let c : Cut nx gone (suc f) (suc a) 0 = record {
      short = omega arith;
      back = cond-false (gone (suc a) || any_dead gone (chain nx f (nx (suc a)))) (left gone (chain nx f (nx (suc a)))) (suc a ∷ chain nx f (nx (suc a))) e
          ∙ ap (λ (n : ℕ). chain nx n (suc a)) e0;
    } in
    subst (λ (n : ℕ). Cut nx gone (suc f) (suc a) n) (sym (ap length ls)) c)
    (cases_Bool (gone (suc a) || any_dead gone (chain nx f (nx (suc a)))))

-- What an iterator along a chain comes to.

pub chain_short : (nx : ℕ → ℕ) (f a : ℕ) → length (chain nx f a) ≤ f
chain_short nx zero a = omega arith
chain_short nx (suc f) zero = omega arith
chain_short nx (suc f) (suc a) = omega (arith, chain_short nx f (nx (suc a)))

pub chain_within : (nx : ℕ → ℕ) (f a b : ℕ) → ((m : ℕ) → nx m ≤ b) → a ≤ b → All (λ k. k ≤ b) (chain nx f a)
chain_within nx zero a b w l = All-nil (λ k. k ≤ b)
chain_within nx (suc f) zero b w l = All-nil (λ k. k ≤ b)
chain_within nx (suc f) (suc a) b w l = All-cons (λ k. k ≤ b) (suc a) (chain nx f (nx (suc a))) l (chain_within nx f (nx (suc a)) b w (w (suc a)))

-- the limit of what is left of a chain: each member lost takes 1
abbrev pub limit_left : (ℕ → Bool) → ℕ → List ℕ → ℕ
limit_left gone f [] = f
limit_left gone f (m ∷ ms) = cond (gone m || any_dead gone ms) (limit_left gone (f - 1) ms) f

limit_and_lost : (gone : ℕ → Bool) (f : ℕ) (ms : List ℕ) → length ms ≤ f → limit_left gone f ms + length (lost gone ms) ≡ f
limit_and_lost gone f [] l = omega arith
limit_and_lost gone f (m ∷ ms) l =
    let r = limit_and_lost gone (f - 1) ms (omega arith) in
    ⊎_elim
    (λ (e : (gone m || any_dead gone ms) ≡ true).
    let a = cond-true (gone m || any_dead gone ms) (limit_left gone (f - 1) ms) f e in
    let b = ap length (cond-true (gone m || any_dead gone ms) (m ∷ lost gone ms) [] e) in omega arith)
    (λ (e : (gone m || any_dead gone ms) ≡ false).
    let a = cond-false (gone m || any_dead gone ms) (limit_left gone (f - 1) ms) f e in
    let b = ap length (cond-false (gone m || any_dead gone ms) (m ∷ lost gone ms) [] e) in omega arith)
    (cases_Bool (gone m || any_dead gone ms))

-- along a chain, which has no more members than its limit
pub limit_along : (nx : ℕ → ℕ) (gone : ℕ → Bool) (f a : ℕ) → limit_left gone f (chain nx f a) + length (lost gone (chain nx f a)) ≡ f
limit_along nx gone f a = limit_and_lost gone f (chain nx f a) (chain_short nx f a)

-- the first that is left of the chain from a
pub record First (nx : ℕ → ℕ) (gone : ℕ → Bool) (ms : List ℕ) (a t : ℕ) : Type 0 where
  pub place : ℕ
  pub is : t ≡ walk nx place a
  pub alive : gone t ≡ false
  pub before : (j : ℕ) → j < place → member (walk nx j a) (lost gone ms) ≡ true
  pub behind : (k : ℕ) → member k (lost gone ms) ≡ true → (j : ℕ) × (j < place) × (k ≡ walk nx j a)
  pub moved : any_dead gone ms ≡ true → 1 ≤ place
  pub there : member t ms ≡ true

before_step : (nx : ℕ → ℕ) (a n : ℕ) (ls : List ℕ) → ((j : ℕ) → j < n → member (walk nx j (nx a)) ls ≡ true) → (j : ℕ) → j < suc n → member (walk nx j a) (a ∷ ls) ≡ true
before_step nx a n ls h zero l = or_left (eqb a a) (member a ls) (eq-eqb a a refl)
before_step nx a n ls h (suc j) l = or_right (eqb (walk nx (suc j) a) a) (member (walk nx (suc j) a) ls) (ap (λ (x : ℕ). member x ls) (sym (walk_shift nx j a)) ∙ h j (omega arith))

pub first : (nx : ℕ → ℕ) (gone : ℕ → Bool) (f a t : ℕ) (ts : List ℕ) → left gone (chain nx f a) ≡ t ∷ ts → First nx gone (chain nx f a) a t
first nx gone zero a t ts h = clash _ (cc)
first nx gone (suc f) zero t ts h = clash _ (cc)
first nx gone (suc f) (suc a) t ts h =
    ⊎_elim
    (λ (e : (gone (suc a) || any_dead gone (chain nx f (nx (suc a)))) ≡ true).
    let r = first nx gone f (nx (suc a)) t ts (sym (cond-true (gone (suc a) || any_dead gone (chain nx f (nx (suc a)))) (left gone (chain nx f (nx (suc a)))) (suc a ∷ chain nx f (nx (suc a))) e) ∙ h) in
    let ls : lost gone (suc a ∷ chain nx f (nx (suc a))) ≡ suc a ∷ lost gone (chain nx f (nx (suc a)))
    = cond-true (gone (suc a) || any_dead gone (chain nx f (nx (suc a)))) (suc a ∷ lost gone (chain nx f (nx (suc a)))) [] e in
    record {
      place = suc r.place;
      is = r.is ∙ walk_shift nx r.place (suc a);
      alive = r.alive;
      before = λ j l. ap (member (walk nx j (suc a))) ls ∙ before_step nx (suc a) r.place (lost gone (chain nx f (nx (suc a)))) r.before j l;
      behind = λ k m.
          ⊎_elim
          (λ (z : eqb k (suc a) ≡ true). (0, omega arith, eqb-true k (suc a) z))
          (λ (z : member k (lost gone (chain nx f (nx (suc a)))) ≡ true).
          let q = r.behind k z in let q1 = q.1 in (suc q.0, omega arith, q.2 ∙ walk_shift nx q.0 (suc a)))
          (or_cases (eqb k (suc a)) (member k (lost gone (chain nx f (nx (suc a))))) (ap (member k) (sym ls) ∙ m));
      moved = λ y. omega arith;
      there = or_right (eqb t (suc a)) (member t (chain nx f (nx (suc a)))) r.there;
    })
    (λ (e : (gone (suc a) || any_dead gone (chain nx f (nx (suc a)))) ≡ false).
    let l : suc a ∷ chain nx f (nx (suc a)) ≡ t ∷ ts = sym (cond-false (gone (suc a) || any_dead gone (chain nx f (nx (suc a)))) (left gone (chain nx f (nx (suc a)))) (suc a ∷ chain nx f (nx (suc a))) e) ∙ h in
    let i : t ≡ suc a = cc in
    record {
      place = 0;
      is = i;
      alive = ap gone i ∙ (or_parts (gone (suc a)) (any_dead gone (chain nx f (nx (suc a)))) e).0;
      before = λ j y. absurd (omega arith);
      behind = λ k m. absurd (both_ways false refl (ap (member k) (sym (none_lost gone (suc a ∷ chain nx f (nx (suc a))) e)) ∙ m));
      moved = λ y. absurd (both_ways (gone (suc a) || any_dead gone (chain nx f (nx (suc a)))) e y);
      there = or_left (eqb t (suc a)) (member t (chain nx f (nx (suc a)))) (eq-eqb t (suc a) i);
    })
    (cases_Bool (gone (suc a) || any_dead gone (chain nx f (nx (suc a)))))
