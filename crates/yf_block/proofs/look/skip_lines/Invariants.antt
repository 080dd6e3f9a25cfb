use Rattle.std.proofs.Common.{ℕ, ◌-◌, length}
use Rattle.std.specs.Str.{IsCharBoundary}
use Rattle.yf_grammar.specs.Productions.BlockScalar.{LinesBetween}
use Rattle.yf_block.specs.ScalarTied.{LinesLeft}
use Rattle.yf_block.proofs.look.skip_lines.Given as goal

abbrev pub decreases-characters : goal.decreases-characters
decreases-characters l = length l.text - l.place

abbrev pub invariant-characters : goal.invariant-characters
invariant-characters l = record {
  place : IsCharBoundary l.text l.place;
  lines : (e : ℕ) → LinesBetween l.text l.count l.at e → LinesLeft l.text l.left l.place e;
}
