use Rattle.std.proofs.Common.{◌++◌, ℕ, List, inl, subst}
use Rattle.std.specs.Prelude.{string_bytes}
use Rattle.yf_command_line.specs.declared.usage.Usage.TheVariants as usage
use Rattle.yf_program.specs.Answer.{UsageWritten}
use Rattle.yf_program.specs.Run.{heading}
use Rattle.yf_program.proofs.settings_shown.show_settings.Goals as goal

pub returns-in-Ok : goal.returns-in-Ok
returns-in-Ok g c has =
    inl (
      string_bytes c.in-Ok.page,
      c.in-Ok.ensures has,
      subst (λ (page : List ℕ). UsageWritten (usage.Help (heading c.args.config.now ++ page)) c.show_page.result c.args.streams.now c.show_page.new.streams) c.as_str.ensures.value c.show_page.ensures,
    )
