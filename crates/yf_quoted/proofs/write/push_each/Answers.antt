use Rattle.std.proofs.Common.{chars, sym, ap, ◌++◌, ◌∙◌, map-id, is_ok, flat_map, encode_utf8_all}
use Rattle.std.specs.String.{string_bytes}
use Rattle.std.proofs.lemmas.Iterator.{YieldsList-from_chars}
use Rattle.std.proofs.lemmas.Iterator.Consumers.{YieldsList-end}
use Rattle.yf_chars.specs.Hidden.{spelled_out}
use Rattle.yf_chars.proofs.CommonLemmas.{common_out, common_text_by}
use Rattle.yf_quoted.proofs.WriteLemmas.{one_written, grown_by, grown_if, grown_more}
use Rattle.yf_quoted.proofs.write.push_each.Goals as goal

pub returns-then-are_common-clause-written : goal.returns-then-are_common-clause-written
returns-then-are_common-clause-written c =
    c.in_ok-push_str.ensures.bytes
    ∙ ap (λ w. string_bytes c.args.out.now ++ w) (sym (common_text_by spelled_out common_out c.args.text.now (c.are_common.ensures.common c.if-are_common.true)))

pub loop-c-preserved : goal.loop-c-preserved
loop-c-preserved c = one_written spelled_out (string_bytes c.args.out.now) c.loop-c.yielded c.in-Some.c c.loop-c.invariant c.in_ok-push_spelled_out.ensures.spelled

pub returns-in_err-push_spelled_out-clause-grown : goal.returns-in_err-push_spelled_out-clause-grown
returns-in_err-push_spelled_out-clause-grown c =
    grown_more (grown_by _ c.loop-c.invariant) (grown_if (is_ok c.push_spelled_out.result) _ c.push_spelled_out.ensures.spelled)

pub returns-clause-written : goal.returns-clause-written
returns-clause-written c =
    let done = YieldsList-end (YieldsList-from_chars c.args.text.now c.utf8.text cc) c.loop-c.yielded _ c.loop-c.yielded_by _ _ c.in-None.is c.next.ensures.steps in
    c.loop-c.invariant ∙ ap (λ w. string_bytes c.args.out.now ++ encode_utf8_all (flat_map spelled_out w)) (sym (map-id c.loop-c.yielded) ∙ done.0)

pub returns-clause-grown : goal.returns-clause-grown
returns-clause-grown c = grown_by _ c.loop-c.invariant
