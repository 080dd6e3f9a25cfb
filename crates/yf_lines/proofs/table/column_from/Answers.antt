use Rattle.std.proofs.Common.{◌≡◌, ◌≤◌, ◌<◌, [], ◌∷◌, ◌++◌, subst, ⊎_elim, arith}
use Rattle.std.proofs.lemmas.Bool.{cases_lt}
use Rattle.std.proofs.lemmas.List.{length_push}
use Rattle.yf_chars.specs.Chain.{Many}
use Rattle.yf_chars.specs.Chain.Chain.{done}
use Rattle.yf_chars.specs.Text.{code, CharAt}
use Rattle.yf_lines.specs.Lines.{is_char}
use Rattle.yf_lines.proofs.PlaceLemmas.{characters_more, not_inside}
use Rattle.yf_lines.proofs.table.column_from.Goals as goal

pub loop-at-init : goal.loop-at-init
loop-at-init c = record {
  characters = ([], done, omega arith);
  boundary = c.requires.from;
  within = omega arith;
  room = omega arith;
}

pub loop-at-preserved : goal.loop-at-preserved
loop-at-preserved c =
    let t = c.args.text.now in
    let r : CharAt t c.loop-at.at c.in-Some.field-0-0 c.in-Some.next = c.in-Some.ensures in
    let x = c.loop-at.invariant.characters in
    let within : c.in-Some.next ≤ c.args.offset =
    ⊎_elim (λ (h : c.args.offset < c.in-Some.next). absurd (not_inside t c.loop-at.at c.in-Some.field-0-0 c.in-Some.next c.args.offset c.utf8.text c.loop-at.invariant.boundary r c.requires.offset c.loop-at-test.true h))
    (λ (h : c.in-Some.next ≤ c.args.offset). h)
    (cases_lt c.args.offset c.in-Some.next) in
    record {
      characters = (x.0 ++ code t c.loop-at.at ∷ [], characters_more t c.args.from c.loop-at.at c.in-Some.field-0-0 c.in-Some.next x.0 x.1 r, omega (arith, x.2, length_push x.0 (code t c.loop-at.at)));
      boundary = r.boundary;
      within = within;
      room = omega (arith, r.later);
    }

pub returns-clause-characters : goal.returns-clause-characters
returns-clause-characters c =
    let t = c.args.text.now in
    let x = c.loop-at.invariant.characters in
    let e : c.loop-at.at ≡ c.args.offset = omega (arith, c.loop-at.invariant.within) in
    (x.0, subst (λ k. Many t is_char c.args.from k x.0) e x.1, x.2)
