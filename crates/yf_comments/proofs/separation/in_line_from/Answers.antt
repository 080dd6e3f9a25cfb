use Rattle.std.proofs.Common.{ap, ◌∙◌, arith}
use Rattle.yf_chars.specs.Class.{is_white}
use Rattle.yf_chars.specs.Text.{code}
use Rattle.yf_chars.proofs.ChainLemmas.{chain_forward, one_functional}
use Rattle.yf_lines.specs.Basic.SeparateInLine.{by_whites}
use Rattle.yf_comments.proofs.RowLemmas.{separate_from}
use Rattle.yf_comments.proofs.SeparateLemmas.{in_line_farthest, in_line_nowhere}
use Rattle.yf_comments.proofs.separation.in_line_from.Goals as goal

pub returns-then-place-at-clause-reads : goal.returns-then-place-at-clause-reads
returns-then-place-at-clause-reads c = in_line_farthest (by_whites c.requires.whites.1 c.if-place-at.true) c.requires.all

pub returns-then-is_line_start-clause-reads : goal.returns-then-is_line_start-clause-reads
returns-then-is_line_start-clause-reads c = in_line_farthest (separate_from c.requires.whites.1 c.if-is_line_start.ensures) c.requires.all

pub returns-clause-place : goal.returns-clause-place
returns-clause-place c =
    let forward = chain_forward (one_functional c.args.s.now is_white) c.requires.whites.1 in
    omega arith

pub returns-clause-all : goal.returns-clause-all
returns-clause-all c = ap (λ v. is_white (code c.args.s.now v)) (returns-clause-place c) ∙ c.requires.all

pub returns-clause-reads : goal.returns-clause-reads
returns-clause-reads c = in_line_nowhere (returns-clause-all c) c.if-is_line_start.ensures
