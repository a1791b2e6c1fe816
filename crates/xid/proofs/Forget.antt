-- What forget accepts, in words.
use Rattle.std.proofs.Common.{◌≡◌, ℕ, ◌<◌, true, false, not, ◌||◌, eqb, Decides, sym, refl, ap, ◌∙◌, arith}
use Rattle.std.proofs.lemmas.Bool.{not-true, not_from_false, both_ways}
use Rattle.std.proofs.lemmas.Bool.Decides.{Decides-below_and, Decides-and, Decides-or, Decides-eqb, Decides-like}
use Rattle.xid.specs.declared.statuses.Status.{Status}
use Rattle.xid.specs.declared.statuses.Status.TheVariants.{Open, Committed, Aborted, Unknown}
use Rattle.xid.specs.Numbers.{distance, number_at, in_window}
use Rattle.xid.specs.Statuses.{is_open}
use Rattle.xid.specs.Meaning.{none_open}
use Rattle.xid.specs.Laws.{ForgetRule}
use Rattle.xid.proofs.Distances.{distance_below, number_at-distance, distance-number_at, number_at_high}

pub not_open : (s : Status) → (s ≡ Open → ⊥) → is_open s ≡ false
not_open Open n = absurd (n refl)
not_open Committed n = refl
not_open Aborted n = refl
not_open Unknown n = refl

pub is_open_lem : (s : Status) → is_open s ≡ true → s ≡ Open
is_open_lem Open e = refl
is_open_lem Committed e = absurd (both_ways false refl e)
is_open_lem Aborted e = absurd (both_ways false refl e)
is_open_lem Unknown e = absurd (both_ways false refl e)

shut : (s : Status) → Decides (not (is_open s)) (is_open s ≡ false)
shut s = (λ e. not-true (is_open s) e, λ e. not_from_false (is_open s) e)

-- by distance
pub decides_none_open : (f : ℕ → Status) (o d : ℕ) → Decides (none_open f o d) ((k : ℕ) → k < d → is_open (f (number_at o k)) ≡ false)
decides_none_open f o = Decides-below_and (λ k. not (is_open (f (number_at o k)))) (λ k. is_open (f (number_at o k)) ≡ false) (none_open f o)
    (λ k. shut (f (number_at o k))) refl (λ _. refl)

module _ (f : ℕ → Status) (o c : ℕ) (oh : o < 4294967296) where
  by_number : ((k : ℕ) → k < distance o c → is_open (f (number_at o k)) ≡ false) → (x : ℕ) → x < 4294967296 → distance o x < distance o c → f x ≡ Open → ⊥
  by_number none x xh near e = both_ways (is_open (f x)) (ap (λ y. is_open (f y)) (sym (number_at-distance o x oh xh)) ∙ none (distance o x) near) (ap is_open e)

  by_distance : ((x : ℕ) → x < 4294967296 → distance o x < distance o c → f x ≡ Open → ⊥) → (k : ℕ) → k < distance o c → is_open (f (number_at o k)) ≡ false
  by_distance none k near =
      let kh : k < 4294967296 = omega (arith, distance_below o c, near) in
      let e : distance o (number_at o k) ≡ k = distance-number_at o k oh kh in
      let lt : distance o (number_at o k) < distance o c = rw e near in
      not_open (f (number_at o k)) (none (number_at o k) (number_at_high o k) lt)

pub forget_rule : ForgetRule
forget_rule m c oh =
    Decides-and (in_window m.oldest m.next c || eqb c m.next) (none_open m.status m.oldest (distance m.oldest c))
    (Decides-or (in_window m.oldest m.next c) (eqb c m.next) (λ e. e, λ e. e) (Decides-eqb c m.next))
    (Decides-like (none_open m.status m.oldest (distance m.oldest c)) (by_number m.status m.oldest c oh) (by_distance m.status m.oldest c oh)
    (decides_none_open m.status m.oldest (distance m.oldest c)))
