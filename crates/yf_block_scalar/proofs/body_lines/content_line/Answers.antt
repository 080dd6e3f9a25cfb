use Rattle.std.proofs.Common.{sym, ◌∙◌}
use Rattle.yf_block_scalar.specs.Body.Ends.{by_break, by_text}
use Rattle.yf_block_scalar.proofs.BodyLemmas.{few_spaces, no_marker_line, spaces_boundary, spaces_fewer, no_text, no_end, content_there}
use Rattle.yf_block_scalar.proofs.body_lines.content_line.Goals as goal

pub returns-then-first-at-clause-reads : goal.returns-then-first-at-clause-reads
returns-then-first-at-clause-reads c = λ j x o d. few_spaces c.skip_spaces-first.result c.skip_spaces-first.ensures.order c.skip_spaces-first.ensures.all c.if-first-at.true d

pub returns-then-is_marker_at-clause-reads : goal.returns-then-is_marker_at-clause-reads
returns-then-is_marker_at-clause-reads c = λ j x o d. no_marker_line (sym c.is_marker_at.ensures ∙ c.if-is_marker_at.true) d

pub skip_nb_chars-end-requires : goal.skip_nb_chars-end-requires
skip_nb_chars-end-requires c = spaces_boundary c.args.s.now c.args.at c.args.indent c.utf8.s c.requires (spaces_fewer c.args.indent c.if-first-at.false c.skip_spaces-first.ensures.spaces)

pub returns-then-end-from-clause-reads : goal.returns-then-end-from-clause-reads
returns-then-end-from-clause-reads c = λ j x o d. no_text c.skip_nb_chars-end.result c.skip_nb_chars-end.ensures.chars.1 c.skip_nb_chars-end.ensures.all c.if-end-from.true d

pub returns-then-end-s-clause-reads : goal.returns-then-end-s-clause-reads
returns-then-end-s-clause-reads c =
    content_there c.skip_nb_chars-end.result c.if-first-at.false c.skip_spaces-first.ensures.spaces c.skip_nb_chars-end.ensures.chars.1 c.skip_nb_chars-end.ensures.order c.if-end-from.false
    (by_text c.if-end-s.true) (sym c.is_marker_at.ensures ∙ c.if-is_marker_at.false)

pub returns-then-end-s-clause-boundary : goal.returns-then-end-s-clause-boundary
returns-then-end-s-clause-boundary c = (
  spaces_boundary c.args.s.now c.args.at c.args.indent c.utf8.s c.requires (spaces_fewer c.args.indent c.if-first-at.false c.skip_spaces-first.ensures.spaces),
  c.skip_nb_chars-end.ensures.boundary,
  c.skip_nb_chars-end.ensures.boundary,
)

pub returns-in-Some-clause-reads : goal.returns-in-Some-clause-reads
returns-in-Some-clause-reads c =
    content_there c.skip_nb_chars-end.result c.if-first-at.false c.skip_spaces-first.ensures.spaces c.skip_nb_chars-end.ensures.chars.1 c.skip_nb_chars-end.ensures.order c.if-end-from.false
    (by_break c.in-Some.ensures.reads) (sym c.is_marker_at.ensures ∙ c.if-is_marker_at.false)

pub returns-in-Some-clause-boundary : goal.returns-in-Some-clause-boundary
returns-in-Some-clause-boundary c = (
  spaces_boundary c.args.s.now c.args.at c.args.indent c.utf8.s c.requires (spaces_fewer c.args.indent c.if-first-at.false c.skip_spaces-first.ensures.spaces),
  c.skip_nb_chars-end.ensures.boundary,
  c.in-Some.ensures.boundary,
)

pub returns-in-None-clause-reads : goal.returns-in-None-clause-reads
returns-in-None-clause-reads c = λ j x o d. no_end c.skip_nb_chars-end.result c.skip_nb_chars-end.ensures.chars.1 c.skip_nb_chars-end.ensures.all c.if-end-s.false c.in-None.ensures.reads d
