use Rattle.yf_chars.specs.CommonParts.{CommonBetween}
use Rattle.yf_chars.proofs.common.few_are_common.Given as goal

abbrev pub invariant-loop-i : goal.invariant-loop-i
invariant-loop-i l = CommonBetween l.text 0 l.i
