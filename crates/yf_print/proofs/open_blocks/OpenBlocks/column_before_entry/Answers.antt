use Rattle.std.proofs.Common.{sym, ◌∙◌, subst}
use Rattle.std.specs.List.Sorted.{IsNonDecreasingBy}
use Rattle.yf_print.specs.Passes.HeldBlocks.{rank}
use Rattle.yf_print.proofs.Pass.HeldBlocks.{held_rises}
use Rattle.yf_print.proofs.Pass.HeldColumns.{at_first, at_known, at_other, goes_as}
use Rattle.yf_print.proofs.open_blocks.OpenBlocks.column_before_entry.Goals as goal

pub left_open-count-requires : goal.left_open-count-requires
left_open-count-requires c = subst (λ z. IsNonDecreasingBy rank z) (sym c.as_slice.ensures.value) (held_rises c.self.inside.all.items c.self.inside.sourced.items c.self.invariant)

pub column_inward-requires : goal.column_inward-requires
column_inward-requires c =
    goes_as c.args.entry c.left_open-count.result c.self.view_is c.as_slice.ensures.value c.as_slice-2.ensures.value c.left_open-count.ensures.within c.left_open-count.ensures.parts c.goes_on.ensures
    ∙ c.if-goes_on.true

pub returns-then-goes_on : goal.returns-then-goes_on
returns-then-goes_on c =
    at_known c.args.indent c.args.may_be_further c.args.next c.args.column c.args.entry c.args.self.now c.column_inward.result
    (goes_as c.args.entry c.left_open-count.result c.self.view_is c.as_slice.ensures.value c.as_slice-2.ensures.value c.left_open-count.ensures.within c.left_open-count.ensures.parts c.goes_on.ensures
    ∙ c.if-goes_on.true) c.column_inward.ensures

pub returns-then-is_source : goal.returns-then-is_source
returns-then-is_source c =
    at_first c.args.indent c.args.may_be_further c.args.next c.args.column c.args.entry c.args.self.now
    (goes_as c.args.entry c.left_open-count.result c.self.view_is c.as_slice.ensures.value c.as_slice-2.ensures.value c.left_open-count.ensures.within c.left_open-count.ensures.parts c.goes_on.ensures
    ∙ c.if-goes_on.false) (sym c.is_source.ensures ∙ c.if-is_source.true)

pub returns : goal.returns
returns c =
    at_other c.args.indent c.args.may_be_further c.args.next c.args.column c.args.entry c.args.self.now
    (goes_as c.args.entry c.left_open-count.result c.self.view_is c.as_slice.ensures.value c.as_slice-2.ensures.value c.left_open-count.ensures.within c.left_open-count.ensures.parts c.goes_on.ensures
    ∙ c.if-goes_on.false) (sym c.is_source.ensures ∙ c.if-is_source.false) c.column_or.ensures
