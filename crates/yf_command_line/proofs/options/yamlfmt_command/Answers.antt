use Rattle.yf_command_line.specs.Options.{yamlfmt}
use Rattle.yf_command_line.proofs.options.yamlfmt_command.Goals as goal

pub returns : goal.returns
unfolding yamlfmt
returns c =
    let with_events = c.with_part-with_events.ensures _ _ c.bare_command.ensures c.reading_command-events.ensures in
    let with_check = c.with_part-with_check.ensures _ _ with_events c.check_command.ensures in
    let with_fmt = c.with_part-with_fmt.ensures _ _ with_check c.fmt_command.ensures in
    let with_server = c.with_part-with_server.ensures _ _ with_fmt c.server_command.ensures in
    c.with_part.ensures _ _ with_server c.explain_command.ensures
