use Rattle.std.proofs.Common.{drop, sym, ap, ◌∙◌, subst}
use Rattle.std.specs.List.Sorted.{IsNonDecreasingBy}
use Rattle.std.proofs.lemmas.List.{take_rest}
use Rattle.yf_print.specs.Layouts.CommentColumns.{inward_from}
use Rattle.yf_print.specs.Passes.HeldBlocks.{IsSourced, rank}
use Rattle.yf_print.proofs.Pass.HeldBlocks.{held_sources, sourced_rises}
use Rattle.yf_print.proofs.Pass.HeldColumns.{among_is, left_inward, sourced_drop}
use Rattle.yf_print.proofs.open_blocks.OpenBlocks.column_inward.Goals as goal

pub left_outside-outer-requires : goal.left_outside-outer-requires
left_outside-outer-requires c =
    subst (λ z. IsNonDecreasingBy rank z) (sym c.as_slice.ensures.value) (sourced_rises c.self.inside.all.items c.self.inside.sourced.items c.self.invariant)

pub column_left-requires : goal.column_left-requires
column_left-requires c =
    subst IsSourced (ap (drop c.left_outside-outer.result) (sym c.as_slice-2.ensures.value) ∙ sym (take_rest c.as_slice-2.result.now c.left_outside-outer.result))
    (sourced_drop c.left_outside-outer.result c.self.inside.sourced.items (held_sources c.self.inside.all.items c.self.inside.sourced.items c.self.invariant))

pub returns : goal.returns
returns c =
    among_is c.args.indent c.args.may_be_further c.args.next c.args.column (inward_from c.args.entry c.args.self.now) c.args.self.now c.in_ok-left.left
    (left_inward c.args.indent c.args.may_be_further c.args.column c.args.entry c.left_outside-outer.result c.self.view_is c.self.invariant c.as_slice.ensures.value c.as_slice-2.ensures.value
    c.left_outside-outer.ensures.within c.left_outside-outer.ensures.parts c.requires c.in_ok-left.ensures) c.unwrap_or.ensures c.column_or.ensures
