use Rattle.std.proofs.Common.{◌≡◌, ◌+◌, sym, ap, ◌∙◌, arith}
use Rattle.yf_chars.specs.Class.{is_digit, is_white}
use Rattle.yf_chars.specs.Text.{code}
use Rattle.yf_lines.specs.Basic.SeparateInLine.{by_whites}
use Rattle.yf_props.proofs.NameLemmas.{run_of}
use Rattle.yf_stream.proofs.Reader.DirectiveWords.{no_major, no_minor, no_point, one_word, unseparated_version, version_chosen}
use Rattle.yf_stream.proofs.directives.read_version.Goals as goal

pub returns-then-start-at-clause-reads : goal.returns-then-start-at-clause-reads
returns-then-start-at-clause-reads c =
    let same : c.skip_whites-start.result ≡ c.args.at = c.if-start-at.true in
    unseparated_version c.utf8.text (ap (λ k. is_white (code c.args.text.now k)) (sym same) ∙ c.skip_whites-start.ensures.all) c.requires.within

pub returns-then-dot-start-clause-reads : goal.returns-then-dot-start-clause-reads
returns-then-dot-start-clause-reads c =
    let same : c.skip_while-dot.result ≡ c.skip_whites-start.result = c.if-dot-start.true in
    no_major c.utf8.text c.skip_whites-start.ensures.whites.1 c.skip_whites-start.ensures.all
    (ap (λ k. is_digit (code c.args.text.now k)) (sym same) ∙ c.skip_while-dot.ensures.all)

pub returns-then-not-is_char_at-clause-reads : goal.returns-then-not-is_char_at-clause-reads
returns-then-not-is_char_at-clause-reads c =
    let major = run_of c.args.text.now is_digit c.skip_while-dot.ensures.chars.1 (omega (arith, c.skip_while-dot.ensures.order, c.if-dot-start.false)) c.skip_while-dot.ensures.all in
    no_point c.utf8.text c.skip_whites-start.ensures.whites.1 c.skip_whites-start.ensures.all major c.if-not-is_char_at.ensures.cases

pub returns-then-end-dot-clause-reads : goal.returns-then-end-dot-clause-reads
returns-then-end-dot-clause-reads c =
    let major = run_of c.args.text.now is_digit c.skip_while-dot.ensures.chars.1 (omega (arith, c.skip_while-dot.ensures.order, c.if-dot-start.false)) c.skip_while-dot.ensures.all in
    let same : c.skip_while-end.result ≡ c.skip_while-dot.result + 1 = c.if-end-dot.true in
    no_minor c.utf8.text c.skip_whites-start.ensures.whites.1 c.skip_whites-start.ensures.all major
    (ap (λ k. is_digit (code c.args.text.now k)) (sym same) ∙ c.skip_while-end.ensures.all)

pub returns-clause-reads : goal.returns-clause-reads
returns-clause-reads c =
    let t = c.args.text.now in
    let whites = c.skip_whites-start.ensures.whites.1 in
    let major = run_of t is_digit c.skip_while-dot.ensures.chars.1 (omega (arith, c.skip_while-dot.ensures.order, c.if-dot-start.false)) c.skip_while-dot.ensures.all in
    let minor = run_of t is_digit c.skip_while-end.ensures.chars.1 (omega (arith, c.skip_while-end.ensures.order, c.if-end-dot.false)) c.skip_while-end.ensures.all in
    let separate = by_whites whites (omega (arith, c.skip_whites-start.ensures.order, c.if-start-at.false)) in
    let chosen = version_chosen c.utf8.text whites c.skip_whites-start.ensures.all major separate c.if-not-is_char_at.ensures.cases.char minor in
    record { words = _; read = chosen; list = one_word _ c.in_ok-push.ensures c.range.ensures.value }
