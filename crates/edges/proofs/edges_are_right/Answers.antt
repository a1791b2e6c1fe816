use Rattle.std.proofs.Common.{ℕ, ◌≤◌, ltb, length, ap, ◌∙◌, arith, rules}
use Rattle.page_write.specs.Empty.{empty_page}
use Rattle.page_write_laws.specs.Edges.{put_all}
use Rattle.page_write_laws.proofs.Filling.{all_filled, filled_takes}
use Rattle.edges.proofs.edges_are_right.Goals as goal

pub returns : goal.returns
returns c = record {
  order = search rules;
  row185 = λ vs each k.
      let few : length vs ≤ 185 = omega (arith, k) in
      filled_takes (put_all empty_page vs) 33 (length vs) (all_filled 33 vs each few) 0 ∙ ap (λ (n : ℕ). ltb n 185) k;
  row186 = λ vs each k.
      let few : length vs ≤ 185 = omega (arith, k) in
      filled_takes (put_all empty_page vs) 33 (length vs) (all_filled 33 vs each few) 0 ∙ ap (λ (n : ℕ). ltb n 185) k;
}
