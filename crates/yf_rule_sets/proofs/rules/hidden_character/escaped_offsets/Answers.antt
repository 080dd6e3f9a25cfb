use Rattle.std.proofs.Common.{◌+◌, ap, subst, length, arith}
use Rattle.yf_rule_sets.specs.Passes.FarthestEnds.{Covers, AllBegin, NoneBegins, IsBeyond, IsHiddenSign}
use Rattle.yf_rule_sets.specs.RuleSets.Exact.{IsTheOne, Exactly}
use Rattle.yf_rule_sets.specs.RuleSets.HiddenCharacters.{HiddenCharacter, QuotedPart}
use Rattle.yf_rule_sets.proofs.Texts.ExactLemmas.{none_yet, answer_found, all_found_upto}
use Rattle.yf_rule_sets.proofs.RuleSets.HiddenLemmas.{hidden_answered, hidden_within}
use Rattle.yf_rule_sets.proofs.RuleSets.MarkPassLemmas.{begin_later, begin_none, covers_none}
use Rattle.yf_rule_sets.proofs.rules.hidden_character.escaped_offsets.Goals as goal

pub loop-i-init : goal.loop-i-init
loop-i-init c = record {
  signs = none_yet _ c.new-offsets.result.items c.new-offsets.ensures.items;
  cover = covers_none c.in_ok-parts.parts.items;
  begun = begin_none c.in_ok-parts.parts.items 0;
}

pub loop-i-preserved : goal.loop-i-preserved
loop-i-preserved c =
    let t = c.args.src.now.text in
    let r = c.args.reading.now in
    let house = c.args.style.now in
    let i = c.loop-i.i in
    let xs = c.in_ok-parts.parts.items in
    let count = c.cover_to-cover.result.count in
    let reach = c.cover_to-cover.result.reach in
    let all : Exactly (QuotedPart t r) xs = c.in_ok-parts.ensures.0 in
    let cover : Covers xs count reach = subst (λ v. Covers v count reach) c.as_slice.ensures.value c.cover_to-cover.ensures.cover in
    let begun : AllBegin xs count i = subst (λ v. AllBegin v count i) c.as_slice.ensures.value c.cover_to-cover.ensures.begun in
    let others : NoneBegins xs count i = subst (λ v. NoneBegins v count i) c.as_slice.ensures.value c.cover_to-cover.ensures.others in
    let answer = c.hidden_at.result in
    record {
      signs = answer_found (HiddenCharacter t r house) i _ _ answer c.loop-i.invariant.signs
          (hidden_answered t r house c.requires xs count reach i all cover begun others answer (subst (λ v. IsTheOne (IsBeyond IsHiddenSign v reach i) answer) c.text-text.ensures c.hidden_at.ensures))
          c.in_ok-push_found.ensures;
      cover = cover;
      begun = begin_later xs count i (i + 1) (omega arith) begun;
    }

pub returns : goal.returns
returns c =
    all_found_upto _ _ c.loop-i.i c.loop-i.offsets.items c.loop-i.invariant.signs (λ k x l p. p)
    (λ k x p. (let h = hidden_within p in omega (arith, h, ap length c.text-text.ensures, c.loop-i-test.false), p))
