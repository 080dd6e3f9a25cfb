use Rattle.std.proofs.Common.{◌≡◌, [], sym, ap, ◌∙◌, arith, append-nil}
use Rattle.yf_chars.specs.Chain.Chain.{done}
use Rattle.yf_chars.specs.Class.{is_ns_char, is_white}
use Rattle.yf_chars.specs.Text.{code}
use Rattle.yf_chars.proofs.ChainLemmas.{chain_chosen, chain_more}
use Rattle.yf_lines.specs.Basic.SeparateInLine.{by_whites}
use Rattle.yf_props.proofs.NameLemmas.{run_of}
use Rattle.yf_grammar.proofs.Ends.BlankRuns.{no_start_past}
use Rattle.yf_stream.specs.Stream.ReservedParameter.{reserved_parameter}
use Rattle.yf_stream.proofs.Reader.DirectiveWords.{no_word, no_word_at_hash, unseparated_word, word_after}
use Rattle.yf_stream.proofs.Uniqueness.OneDirective.{reserved_functional, run_after}
use Rattle.yf_stream.proofs.directives.read_reserved.Goals as goal

pub words-init : goal.words-init
words-init c = record {
  read = ([], done, sym (append-nil c.args.words.now));
  within = c.requires.within;
  place = record { boundary = c.requires.boundary; order = omega arith };
}

pub returns-then-start-end-clause-reads : goal.returns-then-start-end-clause-reads
returns-then-start-end-clause-reads c =
    let same : c.skip_whites-start.result ≡ c.words.end = c.if-start-end.true in
    let stuck = unseparated_word c.utf8.text (ap (λ k. is_white (code c.args.text.now k)) (sym same) ∙ c.skip_whites-start.ensures.all) c.words.invariant.within in
    let read = c.words.invariant.read in
    record { words = read.0; read = chain_chosen (reserved_functional c.utf8.text) read.1 stuck; list = read.2 }

pub returns-then-is_char_at-clause-reads : goal.returns-then-is_char_at-clause-reads
returns-then-is_char_at-clause-reads c =
    let stuck = no_word_at_hash c.utf8.text c.skip_whites-start.ensures.whites.1 c.skip_whites-start.ensures.all c.if-is_char_at.ensures.cases.char in
    let read = c.words.invariant.read in
    record { words = read.0; read = chain_chosen (reserved_functional c.utf8.text) read.1 stuck; list = read.2 }

pub returns-then-next-start-clause-reads : goal.returns-then-next-start-clause-reads
returns-then-next-start-clause-reads c =
    let same : c.skip_while-next.result ≡ c.skip_whites-start.result = c.if-next-start.true in
    let stuck = no_word c.utf8.text c.skip_whites-start.ensures.whites.1 c.skip_whites-start.ensures.all
    (ap (λ k. is_ns_char (code c.args.text.now k)) (sym same) ∙ c.skip_while-next.ensures.all) in
    let read = c.words.invariant.read in
    record { words = read.0; read = chain_chosen (reserved_functional c.utf8.text) read.1 stuck; list = read.2 }

pub words-preserved : goal.words-preserved
words-preserved c =
    let t = c.args.text.now in
    let read = c.words.invariant.read in
    let word = c.skip_while-next.ensures.chars.1 in
    let run = run_of t is_ns_char word (omega (arith, c.skip_while-next.ensures.order, c.if-next-start.false)) c.skip_while-next.ensures.all in
    let separate = by_whites c.skip_whites-start.ensures.whites.1 (omega (arith, c.skip_whites-start.ensures.order, c.if-start-end.false)) in
    record {
      read = (_, chain_more read.1 (reserved_parameter separate c.if-is_char_at.ensures.cases run), word_after _ _ read.2 c.in_ok-push.ensures c.range.ensures.value);
      within = λ s. no_start_past c.utf8.text (run_after c.utf8.text (λ d q. q) word run.some) s;
      place = record {
        boundary = c.skip_while-next.ensures.boundary;
        order = omega (arith, c.words.invariant.place.order, c.skip_whites-start.ensures.order, c.skip_while-next.ensures.order);
      };
    }
