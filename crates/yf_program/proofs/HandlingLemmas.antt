-- The settings of a document.
use Rattle.std.proofs.Common.{◌≡◌, ◌∙◌, ◌++◌, ℕ, List, Bool, true, false, inr, ap, refl, subst, sym}
use Rattle.std.specs.Borrow.{Bor}
use Rattle.std.specs.Prelude.{Option, Some, None, Result, Ok, Err, IfOk, MatchOption, MatchResult, codes}
use Rattle.std.specs.Str.Pattern.{FindsTextPrefix, StripsPrefix}
use Rattle.yf_command_line.specs.declared.command.Input.TheVariants.{File}
use Rattle.yf_discovery.specs.Nearest.{IsNearestTo}
use Rattle.yf_discovery.specs.declared.nearest.Discovery.{Discovery}
use Rattle.yf_host.specs.World.{InputClaim}
use Rattle.yf_lines.specs.declared.fault.Fault.{Fault}
use Rattle.yf_lines.specs.declared.fault.Fault.TheVariants as fault
use Rattle.yf_forms.specs.declared.style.Style.{Style}
use Rattle.yf_program.specs.Handling.{HandlesNear, HandlesWith, IsHandled, IsNoFile, IsPath}
use Rattle.yf_program.specs.Settings.{found}
use Rattle.yf_program.specs.SettingsFile.{FileRefused, FileSets, SettingsOfFile, Unset}
use Rattle.yf_program.specs.declared.handling.Handling.{Handling}
use Rattle.yf_program.specs.declared.scope.Scope.{Scope}
use Rattle.yf_rules.specs.Runs.ByteStream.{ByteStream}
use Rattle.yf_settings.specs.declared.file_settings.FileSettings.{FileSettings}

-- the path in a URI, by its prefix
pub file_or_none : (uri : List ℕ) (r : Option (Bor (List ℕ)))
    → MatchOption r (FindsTextPrefix (codes "file://") uri None)
    (λ x. StripsPrefix (FindsTextPrefix (codes "file://")) uri x.now)
    → MatchOption r (IsNoFile uri) (λ encoded. uri ≡ codes "file://" ++ encoded.now)
file_or_none uri None lacks = λ encoded is. lacks encoded is
file_or_none uri (Some x) cut = cut.1.1 ∙ ap (λ encoded. codes "file://" ++ encoded) (sym cut.2)

-- the settings file was read again
module _ (claim : InputClaim) (name bytes : List ℕ) (reader left : ByteStream)
    (holds : claim.tells → claim.holds (File name) ≡ Some bytes) (is : reader.contents ≡ Some bytes)
    (fresh : reader.failed ≡ false) (works : left.failed ≡ false) where
  pub again_set : (r : Result FileSettings Fault) → MatchResult r (FileSets reader.contents) (FileRefused reader left)
      → MatchResult r (SettingsOfFile claim (Some name)) (Unset claim (Some name))
  again_set (Ok settings) d = (reader, left, (λ t. is ∙ sym (holds t), fresh, λ t failed. cc), d)
  again_set (Err f) d = inr (reader, left, (λ t. is ∙ sym (holds t), fresh, λ t failed. cc), d)

-- memory was refused
pub no_memory_set : (claim : InputClaim) (name : List ℕ) → Unset claim (Some name) fault.Memory
no_memory_set claim name =
    let reader : ByteStream = record { contents = claim.holds (File name); failed = false } in
    inr (reader, reader, (λ t. refl, refl, λ t failed. cc), refl)

-- the search found this settings file, or none
pub near_with : (claim : InputClaim) (config : Option (List ℕ)) (asks : Bool) (path : List ℕ) (d : Discovery)
    → d ≡ found config → IsNearestTo claim.shows path d → {E : Type 0} (r : Result Handling E)
    → IfOk r (HandlesWith claim config asks path) → IfOk r (HandlesNear claim asks path)
near_with claim config asks path d is nearest (Ok h) with_it =
    inr (config, subst (IsNearestTo claim.shows path) is nearest, with_it)
near_with claim config asks path d is nearest (Err e) with_it = tt

-- the search decided at the start
pub near_handled : (claim : InputClaim) (scope : Scope) (style : Style) (uri path said : List ℕ) → said ≡ path
    → IsPath uri path → scope.is_nearest ≡ true → (h : Handling) → HandlesNear claim scope.asks_any_text said h
    → IsHandled claim scope style uri h
near_handled claim scope style uri path said same is nearest h near =
    inr (path, is, rw nearest (subst (λ p. HandlesNear claim scope.asks_any_text p h) same near))
