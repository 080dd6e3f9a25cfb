use Rattle.std.proofs.Common.{◌≡◌, ◌<◌, ◌+◌, sym, ap, ◌∙◌, subst, arith}
use Rattle.yf_chars.specs.Class.{is_ns_char}
use Rattle.yf_chars.specs.Text.{code}
use Rattle.yf_props.proofs.NameLemmas.{run_of}
use Rattle.yf_grammar.proofs.Ends.BlankRuns.{no_start_past}
use Rattle.yf_chars.specs.Chain.{Stuck}
use Rattle.yf_stream.specs.Stream.{Parameters}
use Rattle.yf_stream.proofs.Reader.DirectiveLineLemmas.{directive_read, no_line_end, no_name, no_parameters, no_percent}
use Rattle.yf_stream.proofs.Uniqueness.OneDirective.{run_after}
use Rattle.yf_stream.proofs.directives.read_directive.Goals as goal

pub returns-then-not-is_char_at-clause-reads : goal.returns-then-not-is_char_at-clause-reads
returns-then-not-is_char_at-clause-reads c = no_percent c.if-not-is_char_at.ensures.cases

pub returns-then-name_end-at-clause-reads : goal.returns-then-name_end-at-clause-reads
returns-then-name_end-at-clause-reads c =
    let same : c.skip_while-name_end.result ≡ c.args.at + 1 = c.if-name_end-at.true in
    no_name c.utf8.text (ap (λ k. is_ns_char (code c.args.text.now k)) (sym same) ∙ c.skip_while-name_end.ensures.all)

pub read_parameters-requires : goal.read_parameters-requires
read_parameters-requires c =
    let more : c.args.at + 1 < c.skip_while-name_end.result = omega (arith, c.skip_while-name_end.ensures.order, c.if-name_end-at.false) in
    record {
      boundary = c.skip_while-name_end.ensures.boundary;
      within = λ s. no_start_past c.utf8.text (run_after c.utf8.text (λ d q. q) c.skip_while-name_end.ensures.chars.1 more) s;
    }

pub returns-in-Some-2-clause-reads : goal.returns-in-Some-2-clause-reads
returns-in-Some-2-clause-reads c =
    let t = c.args.text.now in
    let more : c.args.at + 1 < c.skip_while-name_end.result = omega (arith, c.skip_while-name_end.ensures.order, c.if-name_end-at.false) in
    let run = run_of t is_ns_char c.skip_while-name_end.ensures.chars.1 more c.skip_while-name_end.ensures.all in
    let read = rw c.in-Some.is at c.in_ok-end.ensures.reads in
    directive_read c.utf8.text c.if-not-is_char_at.ensures.cases.char run c.range-name.ensures.value c.new-words.ensures c.in_ok-push.ensures read
    (rw c.in-Some-2.is at c.in_ok-comments-in-Some.ensures.reads)

pub returns-in-Some-clause-reads : goal.returns-in-Some-clause-reads
returns-in-Some-clause-reads c =
    let t = c.args.text.now in
    let more : c.args.at + 1 < c.skip_while-name_end.result = omega (arith, c.skip_while-name_end.ensures.order, c.if-name_end-at.false) in
    let run = run_of t is_ns_char c.skip_while-name_end.ensures.chars.1 more c.skip_while-name_end.ensures.all in
    let read = rw c.in-Some.is at c.in_ok-end.ensures.reads in
    no_line_end c.utf8.text c.if-not-is_char_at.ensures.cases.char run c.range-name.ensures.value read
    (rw c.in-None-2.is at c.in_ok-comments-in-Some.ensures.reads)

pub returns-clause-reads : goal.returns-clause-reads
returns-clause-reads c =
    let t = c.args.text.now in
    let more : c.args.at + 1 < c.skip_while-name_end.result = omega (arith, c.skip_while-name_end.ensures.order, c.if-name_end-at.false) in
    let run = run_of t is_ns_char c.skip_while-name_end.ensures.chars.1 more c.skip_while-name_end.ensures.all in
    let none = rw c.in-None.is at c.in_ok-end.ensures.reads in
    no_parameters c.utf8.text c.if-not-is_char_at.ensures.cases.char run (subst (λ z. Stuck (Parameters t z c.skip_while-name_end.result)) c.range-name.ensures.value none)
