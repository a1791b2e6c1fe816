-- An empty page is lawful, and how many rows it takes.
use Rattle.std.specs.Prelude.{◌≡◌, ℕ, ◌+◌, ◌-◌, ◌/◌, ◌≤◌, min, List, [], ◌∷◌, map, length, nat_lt}
use Rattle.page.specs.Kinds.{the_kinds}
use Rattle.page.specs.Slots.{Version}
use Rattle.page.specs.declared.kinds.Kind.{Kind}
use Rattle.page_room.specs.Room.{up8, takes}
use Rattle.page_write.specs.Placing.{put_version}
use Rattle.page_write.specs.Empty.{empty_page}
use Rattle.page_write_laws.specs.Laws.{Becomes}

-- an empty page is lawful, and has no slots
abbrev pub EmptyLaw : Type 0
EmptyLaw = (kinds : List Kind) (b : ℕ) → Becomes kinds b empty_page []

-- the page with these versions put on it, the last first
abbrev pub put_all : List ℕ → List Version → List ℕ
put_all p [] = p
put_all p (v ∷ vs) = put_version (put_all p vs) v

-- each of them has n bytes
abbrev pub EachHas : ℕ → List Version → Type 0
EachHas n [] = Unit {0}
EachHas n (v ∷ vs) = (24 + length v.row ≡ n) × EachHas n vs

-- how many versions of n bytes an empty page takes: each needs its padding and a pointer, and there are at most 291 pointers
abbrev pub rows_taken : ℕ → ℕ → ℕ
rows_taken reserve n = min 291 ((8168 - reserve) / (up8 n + 4))

-- an empty page takes so many and no more
abbrev pub EdgeLaw : Type 0
EdgeLaw = (reserve n : ℕ) (vs : List Version) → EachHas n vs → length vs ≤ rows_taken 0 n
    → takes reserve (put_all empty_page vs) n ≡ nat_lt (length vs) (rows_taken reserve n)

-- rows of each kind: 185 of kind 1 and not 186
abbrev pub Edges : Type 0
Edges = map (λ k. rows_taken 0 (25 + k.body)) the_kinds ≡ 185 ∷ 185 ∷ 185 ∷ 157 ∷ 52 ∷ 7 ∷ []
