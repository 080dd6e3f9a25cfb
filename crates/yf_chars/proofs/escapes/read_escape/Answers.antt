use Rattle.std.proofs.Common.{◌≡◌, ◌+◌, ◌<◌, sym, ap, ◌∙◌, subst, arith, Some}
use Rattle.yf_chars.specs.Chain.{Chosen}
use Rattle.yf_chars.specs.Escape as Escapes
use Rattle.yf_chars.specs.Text.{code, CharAt}
use Rattle.yf_chars.proofs.TextLemmas.{next_ascii}
use Rattle.yf_chars.proofs.EscapeLemmas.{chosen_two, chosen_eight, chosen_letter, no_escape, no_name, unnamed_end, named_below}
use Rattle.yf_chars.proofs.escapes.read_escape.Goals as goal

pub returns-in-Some-numbered-clause-reads : goal.returns-in-Some-numbered-clause-reads
returns-in-Some-numbered-clause-reads c = chosen_two c.in-Some-numbered.ensures.reads

pub returns-in-Some-numbered-2-clause-reads : goal.returns-in-Some-numbered-2-clause-reads
returns-in-Some-numbered-2-clause-reads c = chosen_eight c.in-Some-numbered-2.ensures.reads

pub returns-in-None-peek-clause-reads : goal.returns-in-None-peek-clause-reads
returns-in-None-peek-clause-reads c =
    no_escape c.in-None.ensures.reads c.in-None-numbered.ensures.reads c.in-None-numbered-2.ensures.reads
    (λ v b n. no_name 0x110000 unnamed_end c.in-None-peek.ensures.0 n)

pub returns-in-Some-named-clause-reads : goal.returns-in-Some-named-clause-reads
returns-in-Some-named-clause-reads c =
    let t = c.args.s.now in
    let at = c.args.at + 1 in
    let read : CharAt t at c.in-Some-peek.letter c.in-Some-peek.end = c.in-Some-peek.ensures in
    let name : Escapes.named c.in-Some-peek.letter ≡ Some c.in-Some-named.value = sym c.in-Some-named.ensures in
    let low : code t at < 128 = rw read.char (named_below c.in-Some-peek.letter c.in-Some-named.value name) in
    let end : c.in-Some-peek.end ≡ c.args.at + 2 = omega (arith, read.end, next_ascii t at low) in
    subst (λ j. Chosen (Escapes.Escape t c.args.at) j c.in-Some-named.value) (sym end)
    (chosen_letter (c.if-not-is_char_at.ensures.cases.char) (ap Escapes.named read.char ∙ name))
