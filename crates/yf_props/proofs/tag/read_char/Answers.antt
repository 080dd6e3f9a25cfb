use Rattle.std.proofs.Common.{◌≡◌, ap, sym, ◌∙◌, subst, true, ◌∷◌, []}
use Rattle.yf_chars.specs.Text.{code, CharAt}
use Rattle.yf_props.specs.Chars.{class_of}
use Rattle.yf_props.specs.Names.{SpelledChar}
use Rattle.yf_props.specs.Names.SpelledChar.{as_itself, as_escape}
use Rattle.yf_props.proofs.TagLemmas.{no_first_digit, no_second_digit, spelled_stuck, percent_of, none_of}
use Rattle.yf_props.proofs.tag.read_char.Goals as goal

pub returns-then-is_hex_at-2-clause-reads : goal.returns-then-is_hex_at-2-clause-reads
returns-then-is_hex_at-2-clause-reads c =
    (_, as_escape c.if-is_char_at.ensures.cases.char (sym c.if-is_hex_at.ensures.value) (sym c.if-is_hex_at-2.ensures.value))

pub returns-then-is_hex_at-clause-reads : goal.returns-then-is_hex_at-clause-reads
returns-then-is_hex_at-clause-reads c =
    no_second_digit c.args.s.now (class_of c.args.class) (percent_of c.args.class) c.args.at c.if-is_char_at.ensures.cases.char (sym c.if-is_hex_at-2.ensures.value)

pub returns-then-is_char_at-clause-reads : goal.returns-then-is_char_at-clause-reads
returns-then-is_char_at-clause-reads c =
    no_first_digit c.args.s.now (class_of c.args.class) (percent_of c.args.class) c.args.at c.if-is_char_at.ensures.cases.char (sym c.if-is_hex_at.ensures.value)

pub returns-then-is_of-clause-reads : goal.returns-then-is_of-clause-reads
returns-then-is_of-clause-reads c =
    let t = c.args.s.now in
    let r : CharAt t c.args.at c.in-Some.c c.in-Some.next = c.in-Some.ensures in
    let p = class_of c.args.class in
    let e : p (code t c.args.at) ≡ true = ap p r.char ∙ sym c.if-is_of.ensures in
    (_, subst (λ j. SpelledChar t p c.args.at j (code t c.args.at ∷ [])) r.end (as_itself e))

pub returns-in-None-clause-reads : goal.returns-in-None-clause-reads
returns-in-None-clause-reads c =
    let t = c.args.s.now in
    spelled_stuck t (class_of c.args.class) (percent_of c.args.class) c.args.at (none_of c.args.class (code t c.args.at) c.in-None.ensures.0) c.if-is_char_at.ensures.cases
