-- An empty page.
use Rattle.std.specs.Prelude.{List, ℕ, replicate}
use Rattle.page.specs.Bytes.{put16}

-- the header of an empty page over the bytes p: lower, upper, special and layout version
abbrev pub formatted : List ℕ → List ℕ
formatted p = put16 (put16 (put16 (put16 p 12 24) 14 8192) 16 8192) 18 0x2004

abbrev pub empty_page : List ℕ
empty_page = formatted (replicate 8192 0)
