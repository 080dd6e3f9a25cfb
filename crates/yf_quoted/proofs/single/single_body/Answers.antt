use Rattle.std.proofs.Common.{sym, append-nil, [], ◌+◌, ap, length, encode_utf8, arith}
use Rattle.std.proofs.lemmas.Str.{IsUtf8-string_bytes}
use Rattle.std.specs.String.{string_bytes}
use Rattle.yf_quoted.specs.Body.{gap_bytes}
use Rattle.yf_quoted.proofs.MarkLemmas.{marked_more, marked_split, mark_here}
use Rattle.yf_quoted.proofs.SingleReadLemmas.{single_nothing, single_more, single_closed, cut_read, no_gap_on, no_char_on}
use Rattle.yf_quoted.proofs.SingleLemmas.{single_of_plain, no_single_of_plain}
use Rattle.yf_quoted.proofs.single.single_body.Goals as goal

pub cut-requires : goal.cut-requires
cut-requires c = marked_split c.args.at c.args.s.now (string_bytes c.chars.text) c.chars.mark (IsUtf8-string_bytes c.chars.text) c.chars.invariant.mark

pub cut-requires-in-None-single_char : goal.cut-requires-in-None-single_char
cut-requires-in-None-single_char c =
    let g = c.in-Some.gap in
    marked_split c.args.at c.args.s.now (string_bytes c.push_gap.new.text) c.chars.mark (IsUtf8-string_bytes c.push_gap.new.text)
    (marked_more c.args.at c.args.s.now (string_bytes c.chars.text) c.chars.mark (gap_bytes c.args.s.now c.chars.end g.blank_end g.space g.feeds) c.chars.invariant.mark c.in_ok-push_gap.ensures)

pub chars-init : goal.chars-init
chars-init c = record { read = single_nothing c.args.at c.new-text.ensures.bytes; boundary = c.requires; order = omega arith; mark = tt }

pub returns-in-None-clause-reads : goal.returns-in-None-clause-reads
returns-in-None-clause-reads c =
    cut_read c.cut.result [] c.chars.invariant.read (no_gap_on (no_single_of_plain c.in-None.ensures.reads)) (sym (append-nil (string_bytes c.chars.text))) c.cut.ensures

pub returns-then-is_char_at-clause-reads : goal.returns-then-is_char_at-clause-reads
returns-then-is_char_at-clause-reads c =
    let gap = single_of_plain c.utf8.s c.in-Some.ensures.boundary.0.0 c.in-Some.ensures.reads in
    rw c.new.ensures
    (single_closed c.utf8.s c.chars.invariant.read gap c.if-is_char_at.ensures.cases.char c.in-None-single_char.ensures.reads c.in_ok-push_gap.ensures)

pub returns-in-None-single_char-clause-reads : goal.returns-in-None-single_char-clause-reads
returns-in-None-single_char-clause-reads c =
    let g = c.in-Some.gap in
    let gap = single_of_plain c.utf8.s c.in-Some.ensures.boundary.0.0 c.in-Some.ensures.reads in
    cut_read c.cut-in-None-single_char.result (gap_bytes c.args.s.now c.chars.end g.blank_end g.space g.feeds) c.chars.invariant.read
    (no_char_on gap c.if-is_char_at.ensures.cases c.in-None-single_char.ensures.reads) c.in_ok-push_gap.ensures c.cut-in-None-single_char.ensures

pub chars-preserved : goal.chars-preserved
chars-preserved c =
    let g = c.in-Some.gap in
    let s = c.args.s.now in
    let old = marked_more c.args.at s (string_bytes c.chars.text) c.chars.mark (gap_bytes s c.chars.end g.blank_end g.space g.feeds) c.chars.invariant.mark c.in_ok-push_gap.ensures in
    let here = mark_here c.args.at s c.push_gap.new.text c.chars.mark c.in-Some-single_char.c.doubled (length c.as_str.result.now) (g.end + 1) (ap length c.as_str.ensures.value) old c.in-Some-single_char.ensures.quote (omega (arith, c.chars.invariant.order, c.in-Some.ensures.order)) in
    let gap = single_of_plain c.utf8.s c.in-Some.ensures.boundary.0.0 c.in-Some.ensures.reads in
    record {
      read = rw c.next_mark-mark.ensures
          (single_more c.in-Some-single_char.c.doubled c.chars.invariant.read gap c.in-Some-single_char.ensures.reads c.in-Some-single_char.ensures.doubled
          c.in_ok-push_gap.ensures c.in_ok-push-in-Some-single_char.ensures.bytes (ap length c.as_str.ensures.value));
      boundary = c.in-Some-single_char.ensures.boundary;
      order = omega (arith, c.chars.invariant.order, c.in-Some.ensures.order, c.in-Some-single_char.ensures.order);
      mark = rw c.next_mark-mark.ensures (marked_more c.args.at s (string_bytes c.push_gap.new.text) _ (encode_utf8 c.in-Some-single_char.c.value) here c.in_ok-push-in-Some-single_char.ensures.bytes);
    }
