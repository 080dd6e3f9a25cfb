use Rattle.std.proofs.Common.{sym, subst}
use Rattle.std.specs.List.Sorted.{IsNonDecreasingBy}
use Rattle.yf_print.specs.Passes.HeldBlocks.{rank}
use Rattle.yf_print.proofs.Pass.HeldBlocks.{cut_left, cut_to, held_rises, sourced_rises}
use Rattle.yf_print.proofs.open_blocks.end_blocks.Goals as goal

pub left_open-count-requires : goal.left_open-count-requires
left_open-count-requires c = subst (λ z. IsNonDecreasingBy rank z) (sym c.as_slice.ensures.value) (held_rises c.args.all.now.items c.args.sourced.now.items c.requires)

pub left_open-sources-requires : goal.left_open-sources-requires
left_open-sources-requires c = subst (λ z. IsNonDecreasingBy rank z) (sym c.as_slice-2.ensures.value) (sourced_rises c.args.all.now.items c.args.sourced.now.items c.requires)

pub returns-clause-held : goal.returns-clause-held
returns-clause-held c =
    cut_to c.args.entry c.left_open-count.result c.left_open-sources.result c.requires c.as_slice.ensures.value c.as_slice-2.ensures.value c.left_open-count.ensures.within c.left_open-sources.ensures.within
    c.left_open-count.ensures.parts c.left_open-sources.ensures.parts c.truncate.ensures.items c.truncate-2.ensures.items

pub returns-clause-left : goal.returns-clause-left
returns-clause-left c = cut_left c.args.entry c.left_open-count.result c.as_slice.ensures.value c.left_open-count.ensures.within c.left_open-count.ensures.parts c.truncate.ensures.items
