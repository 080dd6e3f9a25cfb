use Rattle.std.proofs.Common.{◌∷◌, ◌∙◌, arith}
use Rattle.yf_chars.specs.Text.{code}
use Rattle.yf_lines.proofs.ClearLemmas.{spelled_slice}
use Rattle.yf_plain.proofs.PlainLemmas.{line_forward, plain_is_ns}
use Rattle.yf_plain.proofs.LineLemmas.{front_steps, front_spelled, char_spelled, line_steps, more_steps, more_bytes, plain_chosen, steps_stuck}
use Rattle.yf_plain.proofs.plain.plain_lines.Goals as goal

pub range-requires-clause-start_le_end : goal.range-requires-clause-start_le_end
range-requires-clause-start_le_end c = let l = line_forward c.requires.first.1.text in omega arith

pub lines-init : goal.lines-init
lines-init c = record {
  read = (c.requires.first.0, c.in_ok-text.ensures.ok ∙ c.range.ensures.value ∙ spelled_slice c.requires.boundary.0 (front_spelled c.utf8.s c.requires.first.1), front_steps c.requires.first.1);
  all = c.requires.all;
  boundary = c.requires.boundary;
}

pub returns-in-None-clause-reads : goal.returns-in-None-clause-reads
returns-in-None-clause-reads c =
    let read = c.lines.invariant.read in
    (read.0, read.1, plain_chosen c.requires.flow read.2 (steps_stuck c.lines.invariant.all c.in-None.ensures.reads))

pub lines-preserved : goal.lines-preserved
lines-preserved c =
    let read = c.lines.invariant.read in
    let line = c.in-Some.ensures.reads in
    record {
      read = (
        _,
        c.in_ok-push_str-in-Some.ensures.bytes ∙ more_bytes read.0 (code c.args.s.now c.in-Some.line.start ∷ line.text) c.in-Some.line.feeds read.1
            (c.range-in-Some.ensures.value ∙ spelled_slice c.in-Some.ensures.boundary.1.0 (char_spelled c.utf8.s (plain_is_ns c.args.s.now c.args.ctx c.in-Some.line.start line.first) line.items))
            c.in_ok-push_fold-in-Some.ensures,
        more_steps read.2 (line_steps c.utf8.s line),
      );
      all = line.all;
      boundary = c.in-Some.ensures.boundary.1;
    }
