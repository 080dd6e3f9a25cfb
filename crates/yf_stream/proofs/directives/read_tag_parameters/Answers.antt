use Rattle.std.proofs.Common.{◌≡◌, sym, ap, ◌∙◌, arith}
use Rattle.yf_chars.specs.Class.{is_white}
use Rattle.yf_chars.specs.Text.{code}
use Rattle.yf_lines.specs.Basic.SeparateInLine.{by_whites}
use Rattle.yf_stream.proofs.Reader.DirectiveWords.{two_words}
use Rattle.yf_stream.proofs.Uniqueness.OneTag.{no_gap_there, no_handle_there, no_prefix_there, tag_chosen, unseparated_tag}
use Rattle.yf_stream.proofs.directives.read_tag_parameters.Goals as goal

pub returns-then-start-at-clause-reads : goal.returns-then-start-at-clause-reads
returns-then-start-at-clause-reads c =
    let same : c.skip_whites-start.result ≡ c.args.at = c.if-start-at.true in
    unseparated_tag c.utf8.text (ap (λ k. is_white (code c.args.text.now k)) (sym same) ∙ c.skip_whites-start.ensures.all) c.requires.within

pub returns-in_default-clause-reads : goal.returns-in_default-clause-reads
returns-in_default-clause-reads c = no_handle_there c.utf8.text c.skip_whites-start.ensures.whites.1 c.skip_whites-start.ensures.all c.in_default.ensures.reads

pub returns-then-prefix-handle_end-clause-reads : goal.returns-then-prefix-handle_end-clause-reads
returns-then-prefix-handle_end-clause-reads c =
    let same : c.skip_whites-prefix.result ≡ c.in-Some.handle_end = c.if-prefix-handle_end.true in
    no_gap_there c.utf8.text c.skip_whites-start.ensures.whites.1 c.skip_whites-start.ensures.all c.in-Some.ensures.reads c.in-Some.ensures.longest
    (ap (λ k. is_white (code c.args.text.now k)) (sym same) ∙ c.skip_whites-prefix.ensures.all)

pub returns-in_default-tag_prefix-clause-reads : goal.returns-in_default-tag_prefix-clause-reads
returns-in_default-tag_prefix-clause-reads c =
    no_prefix_there c.utf8.text c.skip_whites-start.ensures.whites.1 c.skip_whites-start.ensures.all c.in-Some.ensures.reads c.in-Some.ensures.longest
    c.skip_whites-prefix.ensures.whites.1 c.skip_whites-prefix.ensures.all c.in_default-tag_prefix.ensures.reads

pub returns-clause-reads : goal.returns-clause-reads
returns-clause-reads c =
    let separate = by_whites c.skip_whites-start.ensures.whites.1 (omega (arith, c.skip_whites-start.ensures.order, c.if-start-at.false)) in
    let gap = by_whites c.skip_whites-prefix.ensures.whites.1 (omega (arith, c.skip_whites-prefix.ensures.order, c.if-prefix-handle_end.false)) in
    record {
      words = _;
      read = tag_chosen c.utf8.text c.skip_whites-start.ensures.whites.1 c.skip_whites-start.ensures.all c.in-Some.ensures.reads c.in-Some.ensures.longest
          c.skip_whites-prefix.ensures.whites.1 c.skip_whites-prefix.ensures.all separate gap c.in-Some-tag_prefix.ensures.reads.1;
      list = two_words _ c.in_ok-push.ensures c.range.ensures.value c.in_ok-push-2.ensures c.range-2.ensures.value;
    }
