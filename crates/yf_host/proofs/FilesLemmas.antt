-- The bytes that the formatter of `rewrite` returns, and why it refuses bytes. Both follow from the contracts of
-- `format`, `format_data` and `with_lines_formatted` for the text of the bytes.
use Rattle.std.proofs.Common.{◌≡◌, ℕ, List, Option, Some, None, false, true, subst}
use Rattle.std.proofs.lemmas.Result.{IfErr-weaker}
use Rattle.std.specs.Prelude.{Result, IfErr, IfOk}
use Rattle.std.specs.Str.{IsUtf8}
use Rattle.yf_lines.specs.declared.fault.Fault.{Fault}
use Rattle.yf_lines.specs.declared.fault.Fault.TheVariants.{NotUtf8, Syntax, TooDeep, UnknownHandle, UnknownAlias, RepeatedDirective, BadVersion, EscapeValue, Memory, ReadFailed, WriteFailed, Config}
use Rattle.yf_forms.specs.declared.style.Style.{Style}
use Rattle.yf_guard.specs.declared.guarded.Guarded.{Guarded}
use Rattle.yf_guarded.specs.Judged.{Guards}
use Rattle.yf_rules.specs.Headline.{Headline}
use Rattle.yf_stream.proofs.Offsets.FaultsPlaced.{faults_are_placed}
use Rattle.yf_stream.specs.StreamReader.{StreamFault}
use Rattle.yf_host.specs.LeftAlone.{LeavesBytes}
use Rattle.yf_host.specs.Rewriting.{FormatsBytes, RefusesBytes}

pub refuses : (t : List ℕ) → IsUtf8 t → (f : Fault) → StreamFault t f → RefusesBytes t f
refuses t u (NotUtf8 offset) w = absurd (faults_are_placed t (NotUtf8 offset) w)
refuses t u (Syntax place what) w = (u, faults_are_placed t (Syntax place what) w, w)
refuses t u (TooDeep place) w = (u, faults_are_placed t (TooDeep place) w, w)
refuses t u (UnknownHandle place) w = (u, faults_are_placed t (UnknownHandle place) w, w)
refuses t u (UnknownAlias place) w = (u, faults_are_placed t (UnknownAlias place) w, w)
refuses t u (RepeatedDirective place) w = (u, faults_are_placed t (RepeatedDirective place) w, w)
refuses t u (BadVersion place) w = (u, faults_are_placed t (BadVersion place) w, w)
refuses t u (EscapeValue place) w = (u, faults_are_placed t (EscapeValue place) w, w)
refuses t u Memory w = (u, faults_are_placed t Memory w, w)
refuses t u ReadFailed w = (u, faults_are_placed t ReadFailed w, w)
refuses t u WriteFailed w = (u, faults_are_placed t WriteFailed w, w)
refuses t u (Config key) w = (u, faults_are_placed t (Config key) w, w)

module _ (text t : List ℕ) (same : text ≡ t) (u : IsUtf8 t) {B : Type 0} (given : Result B Fault) where
  pub refuses_bytes : IfErr given (StreamFault text) → IfErr given (RefusesBytes t)
  refuses_bytes w = IfErr-weaker given (StreamFault text) (RefusesBytes t) (λ f v. refuses t u f (subst (λ (x : List ℕ). StreamFault x f) same v)) w

  pub given_bytes : (P : List ℕ → B → Type 0) → IfOk given (P text) → IfOk given (P t)
  given_bytes P w = subst (λ (x : List ℕ). IfOk given (P x)) same w

-- the formatting of the text of the bytes, or why the text is no data
module _ (style : Style) (text t : List ℕ) (same : text ≡ t) (u : IsUtf8 t) where
  judged_bytes : (found : Option Guarded) → Guards true text found → LeavesBytes false t found
  judged_bytes found guards = (u, subst (λ (x : List ℕ). Guards true x found) same guards)

  pub formatted_bytes : (v : List ℕ) → Guards true text None × Headline text style v → LeavesBytes false t None × FormatsBytes style t v
  formatted_bytes v d = (judged_bytes None d.0, subst (λ (x : List ℕ). Headline x style v) same d.1)

  pub left_bytes : (g : Guarded) → Guards true text (Some g) → LeavesBytes false t (Some g)
  left_bytes g guards = judged_bytes (Some g) guards
