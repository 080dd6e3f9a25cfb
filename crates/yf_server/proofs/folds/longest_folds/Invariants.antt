-- For each line, the longest of the fold in the table and the rest of the parts is the longest of all.
use Rattle.std.proofs.Common.{◌≡◌, ◌<◌, ℕ, drop, get_or, length, map}
use Rattle.yf_positions.specs.Lines.{line_count}
use Rattle.yf_server.specs.Folds.{lines_of, longest_on, one_line}
use Rattle.yf_server.proofs.folds.longest_folds.Given as goal

abbrev pub invariant-loop-part : goal.invariant-loop-part
invariant-loop-part l = record {
  count : length l.table.items ≡ line_count l.document;
  longest : (n : ℕ) → n < line_count l.document
      → longest_on n (get_or l.table.items n (one_line n)) (map (lines_of l.document) (drop l.part-index l.parts))
      ≡ longest_on n (one_line n) (map (lines_of l.document) l.parts);
}
