use Rattle.std.proofs.Common.{ℕ, ◌+◌, ◌≢◌, ap, subst, length, arith}
use Rattle.yf_chars.specs.Text.{code}
use Rattle.yf_rule_sets.specs.Passes.FarthestEnds.{Covers, AllBegin, NoneBegins, IsBeyond, IsMark}
use Rattle.yf_rule_sets.specs.RuleSets.Exact.{IsTheOne, Exactly}
use Rattle.yf_rule_sets.specs.RuleSets.Scalars.{LooseMark, ScalarSpan}
use Rattle.yf_rule_sets.proofs.Texts.ExactLemmas.{none_yet, answer_found, all_found_upto}
use Rattle.yf_rule_sets.proofs.RuleSets.MarkPassLemmas.{begin_later, begin_none, covers_none, mark_answered, mark_text, no_loose_mark}
use Rattle.yf_rule_sets.proofs.rules.byte_order_mark.offsets.Goals as goal

pub loop-i-init : goal.loop-i-init
loop-i-init c = record {
  marks = none_yet _ c.new-offsets.result.items c.new-offsets.ensures.items;
  cover = covers_none c.in_ok-spans.spans.items;
  begun = begin_none c.in_ok-spans.spans.items 0;
}

pub loop-i-preserved : goal.loop-i-preserved
loop-i-preserved c =
    let t = c.args.src.now.text in
    let r = c.args.reading.now in
    let i = c.loop-i.i in
    let xs = c.in_ok-spans.spans.items in
    let count = c.cover_to-cover.result.count in
    let reach = c.cover_to-cover.result.reach in
    let all : Exactly (ScalarSpan r) xs = c.in_ok-spans.ensures.0 in
    let cover : Covers xs count reach = subst (λ v. Covers v count reach) c.as_slice.ensures.value c.cover_to-cover.ensures.cover in
    let begun : AllBegin xs count i = subst (λ v. AllBegin v count i) c.as_slice.ensures.value c.cover_to-cover.ensures.begun in
    let others : NoneBegins xs count i = subst (λ v. NoneBegins v count i) c.as_slice.ensures.value c.cover_to-cover.ensures.others in
    let answer = c.loose_mark.result in
    record {
      marks = answer_found (LooseMark t r) i _ _ answer c.loop-i.invariant.marks
          (mark_answered t r xs count reach i all cover begun others answer (subst (λ v. IsTheOne (IsBeyond IsMark v reach i) answer) c.text-text.ensures c.loose_mark.ensures))
          c.in_ok-push_found.ensures;
      cover = cover;
      begun = begin_later xs count i (i + 1) (omega arith) begun;
    }

pub returns : goal.returns
returns c =
    all_found_upto _ _ c.loop-i.i c.loop-i.offsets.items c.loop-i.invariant.marks (λ k x l p. p)
    (λ k x p. (let h = mark_text p in omega (arith, h, ap length c.text-text.ensures, c.loop-i-test.false), p))

pub returns-then-not-has_mark : goal.returns-then-not-has_mark
returns-then-not-has_mark c =
    no_loose_mark _ _ _ c.new-offsets.ensures.items (subst (λ v. (k : ℕ) → code v k ≢ 0xFEFF) c.text-text.ensures (rw c.if-not-has_mark.true at c.has_mark.ensures))
