use Rattle.std.proofs.Common.{◌∙◌, refl, sym}
use Rattle.yf_line_ranges.specs.Written.{are_ranges, ranges_in}
use Rattle.yf_line_ranges.proofs.PartLemmas.{one_fails, one_passes}
use Rattle.yf_command_line.proofs.RequestLemmas.{refused_for}
use Rattle.yf_command_line.proofs.WordLemmas.{one_more_word}
use Rattle.yf_command_line.proofs.lines.lines_met.Goals as goal

pub returns-then-not-branch : goal.returns-then-not-branch
returns-then-not-branch c =
    let wrong = sym c.in_ok-add_ranges.ensures.written ∙ c.if-not-branch.true in
    refused_for _ c.refusal_of_value.ensures (sym (one_fails are_ranges c.args.words.now c.loop-word.word-index _ _
    c.loop-word-test.true c.loop-word.invariant.decided wrong))

pub loop-word-preserved : goal.loop-word-preserved
loop-word-preserved c =
    let right = sym c.in_ok-add_ranges.ensures.written ∙ c.if-not-branch.false in
    record {
      decided = one_passes are_ranges c.args.words.now c.loop-word.word-index _ _ c.loop-word-test.true
          c.loop-word.invariant.decided right;
      given = one_more_word ranges_in c.args.words.now c.loop-word.word-index _ _ _ _ _ c.loop-word-test.true
          (c.in_ok-add_ranges.ensures.added c.if-not-branch.false) refl c.loop-word.invariant.given;
    }
