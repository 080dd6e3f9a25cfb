use Rattle.std.proofs.Common.{sym, subst, arith}
use Rattle.yf_chars.specs.Chain.{Chosen}
use Rattle.yf_comments.specs.Comments.{LineEnd}
use Rattle.yf_comments.specs.Comments.BreakOrEnd.{by_break}
use Rattle.yf_comments.proofs.LineOrder.{line_end_forward}
use Rattle.yf_comments.proofs.SolidLemmas.{rest_bare, ended_chosen}
use Rattle.yf_comments.proofs.lines.line_end.Goals as goal
use Rattle.yf_comments.proofs.lines.line_end.Goals.{in-Some+else-is_solid_at, in-None}

pub line_end_far-requires-clause-rest : goal.line_end_far-requires-clause-rest
line_end_far-requires-clause-rest c = λ l.
    elim c.match-line_break.branch [
      | in-Some+else-is_solid_at w ↦ rw w.from-is (rest_bare c.past_white-place.ensures.whites.1 (by_break w.in-Some.ensures.reads))
      | in-None w ↦ absurd (omega (arith, w.from-is))
    ]

pub returns-then-is_solid_at-clause-reads : goal.returns-then-is_solid_at-clause-reads
returns-then-is_solid_at-clause-reads c =
    let solid = c.is_solid_at.ensures in
    let is = c.if-is_solid_at.true in
    let rest = rest_bare c.past_white-place.ensures.whites.1 (by_break c.in-Some.ensures.reads) in
    subst (λ v. Chosen (LineEnd c.args.s.now c.args.at) c.in-Some.next v) (sym c.new.ensures)
    (ended_chosen rest c.skip_whites-first.ensures.whites.1 (solid.white is) (solid.sign is) (solid.rest is))

pub returns-then-is_solid_at-clause-order : goal.returns-then-is_solid_at-clause-order
returns-then-is_solid_at-clause-order c = line_end_forward (returns-then-is_solid_at-clause-reads c).derived
