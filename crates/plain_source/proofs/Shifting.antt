-- Statuses that move down, with unknown in the places that come free.
use Rattle.std.proofs.Common.{◌≡◌, ℕ, ◌+◌, ◌-◌, ◌<◌, ◌≤◌, List, ◌++◌, length, get_or, take, drop, replicate, sym, ap, ◌∙◌, ⊎_elim, arith, length-drop}
use Rattle.std.proofs.lemmas.List.{get_or-drop, get_or-replicate, get_or_past, length-replicate}
use Rattle.std.proofs.Math.ListN.{get_or-append}
use Rattle.std.proofs.Math.Seq.{get_or-append_right, take-length}
use Rattle.std.specs.List.{slice_range}
use Rattle.std.proofs.lemmas.Bool.{cases_lt}
use Rattle.xid.specs.declared.statuses.Status.{Status}
use Rattle.xid.specs.declared.statuses.Status.TheVariants.{Unknown}

free : (n j : ℕ) → get_or (replicate n Unknown) j Unknown ≡ Unknown
free n j = ⊎_elim
    (λ (l : j < n). get_or-replicate n j Unknown Unknown l)
    (λ (l : n ≤ j). get_or_past (replicate n Unknown) j Unknown (omega (arith, length-replicate n Unknown)))
    (cases_lt j n)

-- what is left from a place on
pub left_from : (statuses : List Status) (by : ℕ) → slice_range statuses by (length statuses) ≡ drop by statuses
left_from statuses by = ap (λ n. take n (drop by statuses)) (sym (length-drop by statuses)) ∙ take-length (drop by statuses)

pub moved_down : (statuses left : List Status) (by n k : ℕ) → left ≡ drop by statuses
    → get_or (left ++ drop (length left) (replicate n Unknown)) k Unknown ≡ get_or statuses (by + k) Unknown
moved_down statuses left by n k e = ⊎_elim
    (λ (l : k < length left). get_or-append left (drop (length left) (replicate n Unknown)) Unknown k l ∙ ap (λ (xs : List Status). get_or xs k Unknown) e ∙ get_or-drop by statuses k Unknown)
    (λ (l : length left ≤ k).
    let long : length left ≡ length statuses - by = ap length e ∙ length-drop by statuses in
    get_or-append_right left (drop (length left) (replicate n Unknown)) k Unknown l
    ∙ get_or-drop (length left) (replicate n Unknown) (k - length left) Unknown
    ∙ free n (length left + (k - length left))
    ∙ sym (get_or_past statuses (by + k) Unknown (omega (arith, long))))
    (cases_lt k (length left))
