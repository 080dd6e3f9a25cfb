-- Settings that require another version.
use Rattle.std.proofs.Common.{◌≡◌, ℕ, List, false, refl, subst, sym}
use Rattle.yf_command_line.specs.declared.build.TheConstants.{VERSION}
use Rattle.yf_program.specs.Settings.{RefusesVersion, version_line}
use Rattle.yf_rules.specs.Runs.ByteStream.{ByteStream, WrittenOrFailed}
use Rattle.yf_settings.specs.Texts.{allows}
use Rattle.yf_settings.specs.declared.texts.Required.{Required}
use Rattle.yf_settings.specs.declared.texts.Required.TheVariants.{Versions}
use Rattle.yf_settings.specs.declared.texts.Requirement.{Requirement}

pub version_refused : (required : Required) (r : Requirement) (text : List ℕ) (before after : ByteStream) → required ≡ Versions r
    → allows required VERSION.now ≡ false → text ≡ r.text → WrittenOrFailed before after (version_line text) → RefusesVersion required 3 before after
version_refused required r text before after is other same written =
    subst (λ (q : Required). RefusesVersion q 3 before after) (sym is)
    (subst (λ (q : Required). allows q VERSION.now ≡ false) is other, refl, subst (λ (t : List ℕ). WrittenOrFailed before after (version_line t)) same written)
