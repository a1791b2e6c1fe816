-- The search from block to block.
use Rattle.std.proofs.Common.{◌≡◌, ℕ, ◌<◌, ◌≤◌, cond, ltb, List, [], get_or, None, Option, sym, ap, ◌∙◌}
use Rattle.std.specs.Option.{option_map}
use Rattle.page.specs.declared.versions.Address.{Address}
use Rattle.xid.specs.Meaning.{Meaning}
use Rattle.snapshot.specs.Snapshots.{SnapshotData}
use Rattle.heap_read.specs.Reading.{next_on, address_in, start_in}
use Rattle.heap_read.proofs.Firsts.{skip_before, skip_at}

module _ (m : Meaning) (s : SnapshotData) (pages : List (List ℕ)) (a : Address) where
  -- what block k shows
  abbrev pub in_block : ℕ → Option Address
  in_block k = cond (ltb k a.block) None (option_map (address_in k) (next_on m.status s (get_or pages k []) (start_in a k)))

  -- the blocks before that of the address show nothing
  pub block_before : (k : ℕ) → k < a.block → in_block k ≡ None
  block_before k l = skip_before (λ i. option_map (address_in i) (next_on m.status s (get_or pages i []) (start_in a i))) a.block k l

  -- what the code finds in a block, with a source that means the same
  pub block_told : (n : Meaning) (k : ℕ) (p : List ℕ) (r : Option ℕ) → n ≡ m → a.block ≤ k → p ≡ get_or pages k [] → r ≡ next_on n.status s p (start_in a k)
      → option_map (address_in k) r ≡ in_block k
  block_told n k p r e l q h =
      ap (option_map (address_in k))
      (h ∙ ap (λ (x : Meaning). next_on x.status s p (start_in a k)) e ∙ ap (λ (x : List ℕ). next_on m.status s x (start_in a k)) q)
      ∙ sym (skip_at (λ i. option_map (address_in i) (next_on m.status s (get_or pages i []) (start_in a i))) a.block k l)
