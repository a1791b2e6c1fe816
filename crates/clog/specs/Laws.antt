-- Two-bit pages keep the laws of a source.
use Rattle.std.specs.Prelude.{◌≡◌, ℕ, ◌+◌, ◌*◌, ◌<◌, ◌≤◌, true, ◌&&◌, List, length, ◌==◌, ◌≢◌, count_ones, nat_le}
use Rattle.std.proofs.Common.{subst, ⊎_elim, arith}
use Rattle.std.proofs.lemmas.Bool.{and_parts, leb-true, cases_eq, eq-eqb, ne_eqb, lt-leb, cond-true, cond-false}
use Rattle.xid.specs.declared.statuses.Status.TheVariants.{Unknown}
use Rattle.xid.specs.Numbers.{distance, in_window}
use Rattle.xid.specs.Meaning.{Lawful}
use Rattle.xid.proofs.Stored.{known_within}
use Rattle.clog.specs.declared.pages.TwoBitPages.{TwoBitPages}
use Rattle.clog.specs.Sound.{fitting_size, stored_in, Sound}
use Rattle.clog.specs.Pages.{bytes_of, meaning_of}

pub size_least : (n : ℕ) → fitting_size n ≡ true → 16 ≤ n
size_least n e = leb-true 16 n (and_parts (nat_le 16 n) (nat_le n 16384) (and_parts (nat_le 16 n && nat_le n 16384) (count_ones n == 1) e).0).0

pub size_most : (n : ℕ) → fitting_size n ≡ true → n ≤ 16384
size_most n e = leb-true n 16384 (and_parts (nat_le 16 n) (nat_le n 16384) (and_parts (nat_le 16 n && nat_le n 16384) (count_ones n == 1) e).0).1

-- how far the next number lies: three further at most where it is 3, no further elsewhere
pub held_at_wrap : (memory : List ℕ) (o n : ℕ) → Sound memory o n → n ≡ 3 → distance o n ≤ 4 * length memory + 3
held_at_wrap memory o n s e = subst (λ k. distance o n ≤ 4 * length memory + k) (cond-true (n == 3) 3 0 (eq-eqb n 3 e)) s.held

pub held_elsewhere : (memory : List ℕ) (o n : ℕ) → Sound memory o n → (n ≢ 3) → distance o n ≤ 4 * length memory
held_elsewhere memory o n s e =
    let h : distance o n ≤ 4 * length memory + 0 = subst (λ k. distance o n ≤ 4 * length memory + k) (cond-false (n == 3) 3 0 (ne_eqb n 3 e)) s.held in
    omega (arith, h)

pub held_most : (memory : List ℕ) (o n : ℕ) → Sound memory o n → distance o n ≤ 4 * length memory + 3
held_most memory o n s = ⊎_elim (held_at_wrap memory o n s) (λ e. omega (arith, held_elsewhere memory o n s e)) (cases_eq n 3)

pub pages_lawful : (p : TwoBitPages) → Lawful (meaning_of p)
pages_lawful p =
    let s = p.sound in
    let memory = bytes_of p in
    let o = p.window.oldest in
    let n = p.window.next in
    let least = size_least (length memory) s.size in
    let most = size_most (length memory) s.size in
    let held = held_most memory o n s in
    record {
      oldest_low = s.oldest_low;
      oldest_high = s.oldest_high;
      next_low = s.next_low;
      next_high = s.next_high;
      inside = known_within o n (stored_in memory) s.known;
      outside = λ x f. cond-false (in_window o n x) (stored_in memory x) Unknown f;
      short = omega (arith, most, held);
      empty = λ e. lt-leb (4 * length memory) (distance o n) (subst (λ k. distance o k < 4 * length memory) e (omega (arith, least, s.oldest_high)));
      long = λ f. absurd (omega (arith, most, held));
    }
