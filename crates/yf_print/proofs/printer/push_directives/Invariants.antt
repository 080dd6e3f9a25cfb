use Rattle.std.proofs.Common.{◌≡◌, drop}
use Rattle.yf_print.specs.Passes.Drafts.{draft}
use Rattle.yf_print.specs.Passes.Pages.{work_on}
use Rattle.yf_print.specs.Passes.PrintPass.{directive_lines}
use Rattle.yf_print.proofs.printer.push_directives.Given as goal

abbrev pub invariant-loop-directive : goal.invariant-loop-directive
invariant-loop-directive l =
    directive_lines (work_on l.page) (drop l.directive-index l.directives) (draft l.output)
    ≡ directive_lines (work_on l.page) l.directives (draft l.initial.output)
