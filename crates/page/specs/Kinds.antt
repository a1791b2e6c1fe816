-- The kinds of rows, over any table of kinds, and the table that is used.
use Rattle.std.specs.Prelude.{ℕ, Bool, false, cond, List, [], ◌∷◌, length, Some, None, Option, Ok, Err, Result, ◌==◌}
use Rattle.std.specs.Option.{option_map}
use Rattle.std.specs.List.{find}
use Rattle.page.specs.declared.kinds.Kind.{Kind}
use Rattle.page.specs.declared.kinds.RowKind.{RowKind}
use Rattle.page.specs.declared.kinds.RowKind.TheVariants.{Temperature, Voltage, Counter, Contact, Remark, Frame}
use Rattle.page.specs.declared.kinds.UnknownKind.{UnknownKind}

-- the kind of the archive with a code
abbrev pub row_kind_of : ℕ → Result RowKind UnknownKind
row_kind_of c =
    cond (c == 1) (Ok Temperature)
    (cond (c == 2) (Ok Voltage)
    (cond (c == 3) (Ok Counter)
    (cond (c == 4) (Ok Contact)
    (cond (c == 5) (Ok Remark)
    (cond (c == 6) (Ok Frame)
    (Err (record { 0 = c })))))))

abbrev pub kind_of : ℕ → ℕ → Kind
kind_of code body = record { code = code; body = body }

-- temperature, voltage, counter, contact, remark, frame
abbrev pub the_kinds : List Kind
the_kinds = kind_of 1 8 ∷ kind_of 2 12 ∷ kind_of 3 8 ∷ kind_of 4 20 ∷ kind_of 5 120 ∷ kind_of 6 1000 ∷ []

-- the first entry of a kind
abbrev pub entry_of : List Kind → ℕ → Option Kind
entry_of kinds k = find (λ x. x.code == k) kinds

-- the length of a kind's body
abbrev pub body_len : List Kind → ℕ → Option ℕ
body_len kinds k = option_map (λ x. x.body) (entry_of kinds k)

-- a body of n bytes fits
abbrev pub fits : Option ℕ → ℕ → Bool
fits None n = false
fits (Some m) n = n == m

abbrev pub row_fits : List Kind → List ℕ → Bool
row_fits kinds [] = false
row_fits kinds (k ∷ body) = fits (body_len kinds k) (length body)
