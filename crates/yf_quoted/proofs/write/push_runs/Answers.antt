use Rattle.std.proofs.Common.{[], refl, sym, append-nil}
use Rattle.std.proofs.lemmas.Str.{IsCharBoundary-start}
use Rattle.std.specs.String.{string_bytes}
use Rattle.yf_quoted.proofs.OwnLemmas.{run_written, char_written, end_written}
use Rattle.yf_quoted.proofs.WriteLemmas.{grown_by, grown_more}
use Rattle.yf_quoted.proofs.write.push_runs.Goals as goal

pub runs-init : goal.runs-init
runs-init c = record { written = refl; grown = grown_by [] (sym (append-nil (string_bytes c.args.out.now))); boundary = IsCharBoundary-start c.args.text.now c.utf8.text }

pub returns-in-None-clause-written : goal.returns-in-None-clause-written
returns-in-None-clause-written c = end_written c.args.text.now (string_bytes c.runs.out) c.in-None.ensures.1 c.runs.invariant.written

pub runs-preserved-then-is_escape_at : goal.runs-preserved-then-is_escape_at
runs-preserved-then-is_escape_at c =
    let one = c.in_ok-push_escaped-in-Some.ensures.spelled in
    record {
      written = char_written c.args.text.now (string_bytes c.runs.out) c.utf8.text c.runs.invariant.boundary c.in-Some.ensures c.runs.invariant.written one;
      grown = grown_more c.runs.invariant.grown (grown_by _ one);
      boundary = c.in-Some.ensures.boundary;
    }

pub runs-preserved : goal.runs-preserved
runs-preserved c =
    let t = c.args.text.now in
    let one = c.in_ok-push_escaped-in-Some.ensures.spelled in
    let char = char_written t (string_bytes c.runs.out) c.utf8.text c.runs.invariant.boundary c.in-Some.ensures c.runs.invariant.written one in
    let run = c.own_run-end.ensures in
    let slice = c.in_ok-push_if_filled-in-Some.ensures.written in
    record {
      written = run_written t (string_bytes c.push_escaped.new.out) run.reads char slice c.range.ensures.value;
      grown = grown_more c.runs.invariant.grown (grown_more (grown_by _ one) (grown_by _ slice));
      boundary = run.boundary;
    }
