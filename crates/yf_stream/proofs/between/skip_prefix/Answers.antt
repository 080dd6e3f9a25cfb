use Rattle.std.proofs.Common.{refl, sym, ◌∙◌, subst, arith}
use Rattle.std.specs.Str.{IsCharBoundary}
use Rattle.yf_chars.proofs.TextLemmas.{next-mark, reads_real, within_from_code}
use Rattle.yf_stream.proofs.Uniqueness.Forward.{line_end_forward}
use Rattle.yf_stream.proofs.Reader.PrefixLemmas.{no_row, prefix_begins, prefix_lines, prefix_mark, prefix_settled}
use Rattle.yf_stream.proofs.between.skip_prefix.Goals as goal

pub lines-init : goal.lines-init
lines-init c = record { read = prefix_begins _ _ _; place = record { boundary = c.requires; order = omega arith }; escapes = refl; documents = refl; events = refl }

pub lines-smaller-then-is_mark_at : goal.lines-smaller-then-is_mark_at
lines-smaller-then-is_mark_at c =
    let mark = c.if-is_mark_at.ensures in
    let within = within_from_code c.args.text.now c.lines.at (omega arith) in
    omega (arith, within)

pub lines-preserved-then-is_mark_at : goal.lines-preserved-then-is_mark_at
lines-preserved-then-is_mark_at c =
    let t = c.args.text.now in
    let mark = c.if-is_mark_at.ensures in
    let end = next-mark t c.lines.at mark in
    let reads = reads_real t c.lines.at c.utf8.text (omega arith) in
    record {
      read = prefix_mark c.lines.invariant.read mark (sym end);
      place = record { boundary = subst (IsCharBoundary t) end reads.boundary; order = omega (arith, c.lines.invariant.place.order) };
      escapes = c.lines.invariant.escapes;
      documents = c.lines.invariant.documents;
      events = c.lines.invariant.events;
    }

pub returns-then-end-at : goal.returns-then-end-at
returns-then-end-at c =
    let line = rw c.in-Some.is at c.in_ok-comments.ensures.reads in
    record {
      reads = prefix_settled c.lines.invariant.read c.if-is_mark_at.ensures line c.in_ok-keep_comments-in-Some.ensures.kept c.if-end-at.true;
      cursor = refl;
      place = c.lines.invariant.place;
      events = c.in_ok-keep_comments-in-Some.ensures.events ∙ c.lines.invariant.events;
      escapes = c.in_ok-keep_comments-in-Some.ensures.escapes ∙ c.lines.invariant.escapes;
      documents = c.in_ok-keep_comments-in-Some.ensures.documents ∙ c.lines.invariant.documents;
    }

pub lines-preserved : goal.lines-preserved
lines-preserved c =
    let line = rw c.in-Some.is at c.in_ok-comments.ensures.reads in
    let forward = line_end_forward line.derived in
    record {
      read = prefix_lines c.lines.invariant.read line c.in_ok-keep_comments-in-Some.ensures.kept;
      place = record { boundary = rw c.in-Some.is at c.in_ok-comments.ensures.boundary; order = omega (arith, c.lines.invariant.place.order, forward) };
      escapes = c.in_ok-keep_comments-in-Some.ensures.escapes ∙ c.lines.invariant.escapes;
      documents = c.in_ok-keep_comments-in-Some.ensures.documents ∙ c.lines.invariant.documents;
      events = c.in_ok-keep_comments-in-Some.ensures.events ∙ c.lines.invariant.events;
    }

pub returns-in-None : goal.returns-in-None
returns-in-None c =
    let line = rw c.in-None.is at c.in_ok-comments.ensures.reads in
    record {
      reads = record { upto = c.lines.invariant.read; no_mark = c.if-is_mark_at.ensures; no_row = no_row line };
      cursor = refl;
      place = c.lines.invariant.place;
      events = c.lines.invariant.events;
      escapes = c.lines.invariant.escapes;
      documents = c.lines.invariant.documents;
    }
