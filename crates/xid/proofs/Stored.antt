-- A source that stores a status for each number: what its calls have to leave stored, for it to mean what they promise.
use Rattle.std.proofs.Common.{◌≡◌, ℕ, ◌<◌, ◌≤◌, Bool, true, false, cond, ◌||◌, eqb, sym, refl, ap, ◌∙◌, inl, inr, ⊎_elim, arith}
use mathlib.Core.Path.{fun_ext}
use Rattle.std.proofs.lemmas.Bool.{cases_eq, cases_Bool, ne_eqb, eq-eqb, eqb-true, cond-true, cond-false, both_ways, and_parts, or_cases}
use Rattle.xid.specs.declared.statuses.Status.{Status}
use Rattle.xid.specs.declared.statuses.Status.TheVariants.{Open, Unknown}
use Rattle.xid.specs.declared.statuses.End.{End}
use Rattle.xid.specs.declared.statuses.End.TheVariants.{Commit, Abort}
use Rattle.xid.specs.Numbers.{distance, successor, in_window}
use Rattle.xid.specs.Statuses.{end_status, is_open, is_known}
use Rattle.xid.specs.Meaning.{Known, windowed, meaning_by, with_status, none_open, forgettable, after_open, after_close, after_forget}
use Rattle.xid.proofs.Windows.{window_within, window_takes, window_more, window_from, reach}

-- where the window ends the same, two stores that agree in it say the same
same_windowed : (o n : ℕ) (stored stored' : ℕ → Status) (x : ℕ) → (in_window o n x ≡ true → stored' x ≡ stored x) → windowed o n stored' x ≡ windowed o n stored x
same_windowed o n stored stored' x h = ⊎_elim
    (λ t. ap (λ s. cond (in_window o n x) s Unknown) (h t))
    (λ f. cond-false (in_window o n x) (stored' x) Unknown f ∙ sym (cond-false (in_window o n x) (stored x) Unknown f))
    (cases_Bool (in_window o n x))

-- what is stored in the window is a status
pub known_within : (o n : ℕ) (stored : ℕ → Status) → Known o n stored → (x : ℕ) → in_window o n x ≡ true → is_known (windowed o n stored x) ≡ true
known_within o n stored known x t = ap is_known (cond-true (in_window o n x) (stored x) Unknown t) ∙ known x t

pub known_empty : (o : ℕ) (stored : ℕ → Status) → Known o o stored
known_empty o stored x t = absurd (omega (arith, (window_within o o x t).near))

end_known : (e : End) → is_known (end_status e) ≡ true
end_known Commit = refl
end_known Abort = refl

module _ (o n : ℕ) (f f' : Bool) (stored stored' : ℕ → Status) where
  -- open: the next number is stored as open, and the window's numbers as they were
  pub opened_by : 3 ≤ o → o < 4294967296 → 3 ≤ n → n < 4294967296 → distance o n < 2147483648 → f ≡ false
      → stored' n ≡ Open → ((x : ℕ) → in_window o n x ≡ true → (x ≡ n → ⊥) → stored' x ≡ stored x)
      → meaning_by o (successor n) f' stored' ≡ after_open (meaning_by o n f stored) f'
  opened_by ol oh nl nh short room here kept =
      ap (λ g. record { oldest = o; next = successor n; full = f'; status = g }) (fun_ext each) ∙ sym (cond-false f (meaning_by o n f stored) _ room)
    where
      each : (x : ℕ) → windowed o (successor n) stored' x ≡ with_status (windowed o n stored) n Open x
      each x = ⊎_elim
          (λ (e : x ≡ n).
          cond-true (in_window o (successor n) x) (stored' x) Unknown (ap (in_window o (successor n)) e ∙ window_takes o n ol oh nl nh short) ∙ ap stored' e ∙ here
          ∙ sym (cond-true (eqb x n) Open (windowed o n stored x) (eq-eqb x n e)))
          (λ (e : x ≡ n → ⊥).
          ap (λ b. cond b (stored' x) Unknown) (window_more o n ol oh nl nh short x e) ∙ same_windowed o n stored stored' x (λ t. kept x t e)
          ∙ sym (cond-false (eqb x n) Open (windowed o n stored x) (ne_eqb x n e)))
          (cases_eq x n)

  pub opened_known : 3 ≤ o → o < 4294967296 → 3 ≤ n → n < 4294967296 → distance o n < 2147483648
      → stored' n ≡ Open → ((x : ℕ) → in_window o n x ≡ true → (x ≡ n → ⊥) → stored' x ≡ stored x) → Known o n stored → Known o (successor n) stored'
  opened_known ol oh nl nh short here kept known x t = ⊎_elim
      (λ (e : x ≡ n). ap is_known (ap stored' e ∙ here))
      (λ (e : x ≡ n → ⊥). let within = sym (window_more o n ol oh nl nh short x e) ∙ t in ap is_known (kept x within e) ∙ known x within)
      (cases_eq x n)

  -- only a number of the window is open
  pub open_within : (x : ℕ) → is_open (windowed o n stored x) ≡ true → in_window o n x ≡ true
  open_within x h = ⊎_elim (λ t. t)
      (λ g. absurd (both_ways (is_open (windowed o n stored x)) (ap is_open (cond-false (in_window o n x) (stored x) Unknown g)) h))
      (cases_Bool (in_window o n x))

  -- close: x is stored with its end, and the window's other numbers as they were
  pub closed_by : (x : ℕ) (e : End) → is_open (windowed o n stored x) ≡ true → stored' x ≡ end_status e
      → ((y : ℕ) → in_window o n y ≡ true → (y ≡ x → ⊥) → stored' y ≡ stored y)
      → meaning_by o n f' stored' ≡ after_close (meaning_by o n f stored) x e f'
  closed_by x e open' here kept =
      ap (λ g. record { oldest = o; next = n; full = f'; status = g }) (fun_ext each) ∙ sym (cond-true (is_open (windowed o n stored x)) _ (meaning_by o n f stored) open')
    where
      each : (y : ℕ) → windowed o n stored' y ≡ with_status (windowed o n stored) x (end_status e) y
      each y = ⊎_elim
          (λ (q : y ≡ x).
          cond-true (in_window o n y) (stored' y) Unknown (ap (in_window o n) q ∙ open_within x open') ∙ ap stored' q ∙ here
          ∙ sym (cond-true (eqb y x) (end_status e) (windowed o n stored y) (eq-eqb y x q)))
          (λ (q : y ≡ x → ⊥). same_windowed o n stored stored' y (λ t. kept y t q) ∙ sym (cond-false (eqb y x) (end_status e) (windowed o n stored y) (ne_eqb y x q)))
          (cases_eq y x)

  pub closed_known : (x : ℕ) (e : End) → stored' x ≡ end_status e → ((y : ℕ) → in_window o n y ≡ true → (y ≡ x → ⊥) → stored' y ≡ stored y) → Known o n stored → Known o n stored'
  closed_known x e here kept known y t = ⊎_elim
      (λ (q : y ≡ x). ap is_known (ap stored' q ∙ here) ∙ end_known e)
      (λ (q : y ≡ x → ⊥). ap is_known (kept y t q) ∙ known y t)
      (cases_eq y x)

  -- what forget accepts is a number within reach
  pub forgettable_near : (c : ℕ) → 3 ≤ n → forgettable (meaning_by o n f stored) c ≡ true → (3 ≤ c) × (distance o c ≤ distance o n)
  forgettable_near c nl t =
      let parts = and_parts (in_window o n c || eqb c n) (none_open (windowed o n stored) o (distance o c)) t in
      reach o n c nl (⊎_elim inl (λ e. inr (eqb-true c n e)) (or_cases (in_window o n c) (eqb c n) parts.0))

  -- forget: the numbers of the window from c on are stored as they were
  pub forgot_by : (c : ℕ) → o < 4294967296 → 3 ≤ n → n < 4294967296 → c < 4294967296 → forgettable (meaning_by o n f stored) c ≡ true
      → ((x : ℕ) → in_window c n x ≡ true → stored' x ≡ stored x)
      → meaning_by c n f' stored' ≡ after_forget (meaning_by o n f stored) c f'
  forgot_by c oh nl nh ch t kept =
      ap (λ g. record { oldest = c; next = n; full = f'; status = g }) (fun_ext each) ∙ sym (cond-true (forgettable (meaning_by o n f stored) c) _ (meaning_by o n f stored) t)
    where
      each : (x : ℕ) → windowed c n stored' x ≡ windowed c n (windowed o n stored) x
      each x = same_windowed c n (windowed o n stored) stored' x (λ i.
          kept x i ∙ sym (cond-true (in_window o n x) (stored x) Unknown (window_from o n c oh nh ch (forgettable_near c nl t).1 x i).0))

  pub forgot_known : (c : ℕ) → o < 4294967296 → 3 ≤ n → n < 4294967296 → c < 4294967296 → forgettable (meaning_by o n f stored) c ≡ true
      → ((x : ℕ) → in_window c n x ≡ true → stored' x ≡ stored x) → Known o n stored → Known c n stored'
  forgot_known c oh nl nh ch t kept known x i = ap is_known (kept x i) ∙ known x (window_from o n c oh nh ch (forgettable_near c nl t).1 x i).0
