-- What each call leaves of sound pages.
use Rattle.std.proofs.Common.{◌≡◌, ℕ, ◌+◌, ◌*◌, ◌/◌, ◌%◌, ◌<◌, ◌≤◌, Bool, true, false, cond, eqb, List, length, sym, refl, ap, ◌∙◌, subst, ⊎_elim, arith, lit<}
use Rattle.std.proofs.lemmas.Bool.{eq-eqb, leb-false}
use Rattle.xid.specs.declared.statuses.Status.{Status}
use Rattle.xid.specs.declared.statuses.Status.TheVariants.{Open, Committed, Aborted, Unknown}
use Rattle.xid.specs.declared.statuses.End.{End}
use Rattle.xid.specs.Numbers.{distance, successor, in_window}
use Rattle.xid.specs.Statuses.{code_of, status_of, end_status, is_open}
use Rattle.xid.specs.Meaning.{Known, windowed, meaning_by, forgettable, after_open, after_close, after_forget}
use Rattle.xid.proofs.Distances.{successor_steps}
use Rattle.xid.proofs.Stored.{opened_by, opened_known, closed_by, closed_known, open_within, forgot_by, forgot_known, forgettable_near}
use Rattle.xid.proofs.Windows.{window_shrinks}
use Rattle.clog.specs.Codes.{put_code}
use Rattle.clog.specs.Sound.{fitting_size, stored_in, full_at, Sound}
use Rattle.clog.specs.Laws.{size_least, size_most}
use Rattle.clog.proofs.CodesKept.{code_put, code_kept, length_put}
use Rattle.clog.proofs.Slots.{slots_apart, slots_apart_within}

code_small : (s : Status) → code_of s < 4
code_small Open = lit< tt
code_small Committed = lit< tt
code_small Aborted = lit< tt
code_small Unknown = lit< tt

code_back : (s : Status) → status_of (code_of s) ≡ s
code_back Open = refl
code_back Committed = refl
code_back Aborted = refl
code_back Unknown = refl

-- a status is stored where it was put, and the numbers that share no slot with x keep theirs
module _ (memory : List ℕ) (o n x : ℕ) (k : Status) (s : Sound memory o n) where
  some : 0 < length memory
  some = omega (arith, size_least (length memory) s.size)

  stored_put : stored_in (put_code memory x (code_of k)) x ≡ k
  stored_put = ap status_of (code_put memory x (code_of k) some (code_small k)) ∙ code_back k

  stored_kept : (y : ℕ) → (x / 4 % length memory ≡ y / 4 % length memory → x % 4 ≡ y % 4 → ⊥) → stored_in (put_code memory x (code_of k)) y ≡ stored_in memory y
  stored_kept y apart = ap status_of (code_kept memory x y (code_of k) some (code_small k) apart)

  size_put : fitting_size (length (put_code memory x (code_of k))) ≡ true
  size_put = ap fitting_size (length_put memory x (code_of k)) ∙ s.size

-- open: the slot of n is cleared
module _ (memory memory' : List ℕ) (o n n' : ℕ) (wrote : memory' ≡ put_code memory n (code_of Open)) (moved : n' ≡ successor n)
    (s : Sound memory o n) (room : full_at memory o n ≡ false) where
  near : distance o n < 4 * length memory
  near = leb-false (4 * length memory) (distance o n) room

  short : distance o n < 2147483648
  short = omega (arith, near, size_most (length memory) s.size)

  kept : (x : ℕ) → in_window o n x ≡ true → (x ≡ n → ⊥) → stored_in (put_code memory n (code_of Open)) x ≡ stored_in memory x
  kept x t e = stored_kept memory o n n Open s x (slots_apart memory o n n x s s.next_high near t e)

  sound_then : Sound (put_code memory n (code_of Open)) o (successor n)
  sound_then =
      let known = opened_known o n false false (stored_in memory) (stored_in (put_code memory n (code_of Open))) s.oldest_low s.oldest_high s.next_low s.next_high short
      (stored_put memory o n n Open s) kept s.known in
      let size = size_put memory o n n Open s in
      let len = length_put memory n (code_of Open) in
      ⊎_elim
      (λ h. let e = h.0 in let high = h.1 in let d = h.2 in let low = s.next_low in record {
        size = size;
        oldest_low = s.oldest_low;
        oldest_high = s.oldest_high;
        next_low = omega arith;
        next_high = omega arith;
        known = known;
        held = omega (arith, len, d, near);
      })
      (λ h. let e = h.0 in let d = h.2 in record {
        size = size;
        oldest_low = s.oldest_low;
        oldest_high = s.oldest_high;
        next_low = omega arith;
        next_high = omega arith;
        known = known;
        held = rw (eq-eqb (successor n) 3 e) (omega (arith, len, d, near));
      })
      (successor_steps o n s.oldest_low s.oldest_high s.next_high short)

  pub opened_sound : Sound memory' o n'
  opened_sound = rw (wrote, moved) sound_then

  pub opened_meaning : (f : Bool) → meaning_by o n' f (stored_in memory') ≡ after_open (meaning_by o n (full_at memory o n) (stored_in memory)) f
  opened_meaning f = rw (wrote, moved) (opened_by o n (full_at memory o n) f (stored_in memory) (stored_in (put_code memory n (code_of Open)))
      s.oldest_low s.oldest_high s.next_low s.next_high short room (stored_put memory o n n Open s) kept)

-- close: the slot of x has the code of its end
module _ (memory memory' : List ℕ) (o n x : ℕ) (e : End) (wrote : memory' ≡ put_code memory x (code_of (end_status e)))
    (s : Sound memory o n) (t : is_open (windowed o n (stored_in memory) x) ≡ true) where
  within : in_window o n x ≡ true
  within = open_within o n false false (stored_in memory) (stored_in memory) x t

  others : (y : ℕ) → in_window o n y ≡ true → (y ≡ x → ⊥) → stored_in (put_code memory x (code_of (end_status e))) y ≡ stored_in memory y
  others y u ne = stored_kept memory o n x (end_status e) s y (slots_apart_within memory o n x y s within u ne)

  pub closed_sound : Sound memory' o n
  closed_sound =
      let known : Known o n (stored_in memory') = rw wrote (closed_known o n false false (stored_in memory) (stored_in (put_code memory x (code_of (end_status e)))) x e
      (stored_put memory o n x (end_status e) s) others s.known) in
      let len : length memory' ≡ length memory = ap length wrote ∙ length_put memory x (code_of (end_status e)) in
      record {
        size = ap fitting_size len ∙ s.size;
        oldest_low = s.oldest_low;
        oldest_high = s.oldest_high;
        next_low = s.next_low;
        next_high = s.next_high;
        known = known;
        held = subst (λ k. distance o n ≤ 4 * k + cond (eqb n 3) 3 0) (sym len) s.held;
      }

  pub closed_meaning : (f : Bool) → meaning_by o n f (stored_in memory') ≡ after_close (meaning_by o n (full_at memory o n) (stored_in memory)) x e f
  closed_meaning f = rw wrote (closed_by o n (full_at memory o n) f (stored_in memory) (stored_in (put_code memory x (code_of (end_status e)))) x e t
      (stored_put memory o n x (end_status e) s) others)

-- forget: the memory stays
module _ (memory : List ℕ) (o n c : ℕ) (s : Sound memory o n) (ch : c < 4294967296) (t : forgettable (meaning_by o n (full_at memory o n) (stored_in memory)) c ≡ true) where
  pub forgot_meaning : (f : Bool) → meaning_by c n f (stored_in memory) ≡ after_forget (meaning_by o n (full_at memory o n) (stored_in memory)) c f
  forgot_meaning f = forgot_by o n (full_at memory o n) f (stored_in memory) (stored_in memory) c s.oldest_high s.next_low s.next_high ch t (λ x i. refl)

  pub forgot_sound : Sound memory c n
  forgot_sound =
      let reached = forgettable_near o n (full_at memory o n) false (stored_in memory) (stored_in memory) c s.next_low t in
      let less = window_shrinks o n c s.oldest_high s.next_high ch reached.1 in
      record {
        size = s.size;
        oldest_low = reached.0;
        oldest_high = ch;
        next_low = s.next_low;
        next_high = s.next_high;
        known = forgot_known o n (full_at memory o n) false (stored_in memory) (stored_in memory) c s.oldest_high s.next_low s.next_high ch t (λ x i. refl) s.known;
        held = omega (arith, s.held, less);
      }
