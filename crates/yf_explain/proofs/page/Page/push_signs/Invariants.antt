-- The remaining signs are still to be added, and all of them are shown as they are.
use Rattle.std.proofs.Common.{◌≡◌, ◌++◌, true, drop}
use Rattle.std.specs.List.{list_all}
use Rattle.yf_explain.specs.Shown.{is_written}
use Rattle.yf_explain.proofs.page.Page.push_signs.Given as goal

abbrev pub invariant-loop-sign : goal.invariant-loop-sign
invariant-loop-sign l = record {
  left : l.self ++ drop l.sign-index l.sign-items ≡ l.initial.self ++ l.sign-items;
  written : list_all is_written (drop l.sign-index l.sign-items) ≡ true;
}
