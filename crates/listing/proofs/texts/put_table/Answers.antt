-- `listing::texts::put_table` meets its contract: with ten digits at most for a number, the longest table fits.
use Prim.Native.Nat.{ℕ, ◌+◌, ◌≤◌}
use mathlib.Core.List.{List}
use mathlib.Core.Path.{◌≡◌}
use native.Mathlib.Omega.{arith}
use lib.ListN.{length}
use Rattle.listing.specs.code.Lines.{table_lines}
use Rattle.prelude.specs.Limits.{room}
use Rattle.prelude.specs.Pairs.{paired}
use Rattle.lines.specs.Lines.{pair_lines}
use Rattle.decimal.proofs.Added.{both, begins, kept}
use Rattle.lines.proofs.LineLaws.{lines_few, paired_length}
use Rattle.listing.proofs.HeadLaws.{head_fits, head_end}
use Rattle.listing.proofs.texts.put_table.Goals as goal

end_fits :
    (codes schedules : List ℕ) {head lines : ℕ} → length codes ≤ room → head ≤ 56 → lines ≡ length (pair_lines 32 (paired codes schedules))
    → head + lines ≤ 65536
end_fits codes schedules l h e = omega (arith, lines_few 32 (paired codes schedules), paired_length codes schedules)

pub put_head-head_end-requires : goal.put_head-head_end-requires
put_head-head_end-requires c = head_fits _ _ _ (omega arith)

pub overflow_add-end : goal.overflow_add-end
overflow_add-end c =
    record {
      fits = omega (arith, end_fits _ _ c.requires.1.0 (head_end _ _ _ c.put_head-head_end.ensures) (c.pairs_length.ensures 32));
    }

pub put_pairs_before-requires : goal.put_pairs_before-requires
put_pairs_before-requires c = record {
  schedules_len = c.requires.1.1;
  schedules_len_bound = omega (
    arith,
    c.pairs_length.ensures 32,
    kept c.put_head-head_end.ensures,
    end_fits _ _ c.requires.1.0 (head_end _ _ _ c.put_head-head_end.ensures) (c.pairs_length.ensures 32),
  );
}

pub returns : goal.returns
unfolding table_lines
returns c =
    both c.put_head-head_end.ensures (begins (omega (arith, c.pairs_length.ensures 32)) c.put_pairs_before.ensures)
