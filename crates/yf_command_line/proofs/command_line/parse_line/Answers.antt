use Rattle.std.proofs.Common.{◌≡◌, ◌∙◌, ap, List, [], map, subst, string_bytes}
use Rattle.clap.specs.Words.{App, HasKind, Text, app_of, fault_of, found_of, is_simple, is_simple_and_free}
use Rattle.clap.specs.Words.{kind_of, matches_of, rows_of, subcommand_of, subcommand_rows_of}
use Rattle.yf_command_line.specs.Options.{yamlfmt}
use Rattle.yf_command_line.proofs.RequestLemmas.{yamlfmt_is_simple, yamlfmt_is_free, accepted, refused}
use Rattle.yf_command_line.proofs.command_line.parse_line.Goals as goal

pub returns-in-Ok : goal.returns-in-Ok
returns-in-Ok c =
    let words : List Text = map string_bytes c.args.words.now in
    let is : app_of c.in_ok-command.command ≡ yamlfmt = c.in_ok-command.ensures in
    let before : rows_of (found_of c.in-Ok.matches) ≡ matches_of yamlfmt words =
    (c.in-Ok.ensures.matches (ap is_simple is ∙ yamlfmt_is_simple)).0 ∙ ap (λ (a : App). matches_of a words) is in
    let met : subcommand_rows_of c.in-Ok.matches ≡ subcommand_of yamlfmt words =
    (c.in-Ok.ensures.matches (ap is_simple is ∙ yamlfmt_is_simple)).1 ∙ ap (λ (a : App). subcommand_of a words) is in
    let none : fault_of yamlfmt words ≡ [] =
    subst (λ (a : App). fault_of a words ≡ []) is
    (c.in-Ok.ensures.kinds (ap is_simple_and_free is ∙ yamlfmt_is_free)) in
    accepted _ _ _ _ words c.request_met.result before met none c.request_met.ensures

pub returns-in-Err : goal.returns-in-Err
returns-in-Err c =
    let words : List Text = map string_bytes c.args.words.now in
    let is : app_of c.in_ok-command.command ≡ yamlfmt = c.in_ok-command.ensures in
    let kinds : HasKind (fault_of yamlfmt words) c.in-Err.error =
    subst (λ (a : App). HasKind (fault_of a words) c.in-Err.error) is
    (c.in-Err.ensures.kinds (ap is_simple_and_free is ∙ yamlfmt_is_free)) in
    refused _ _ (kind_of c.in-Err.error) words c.usage_of.result kinds c.usage_of.ensures
