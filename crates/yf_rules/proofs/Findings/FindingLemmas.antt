-- The lines of the remaining findings are those of the next one and of the ones after it.
use Rattle.std.proofs.Common.{◌≡◌, ℕ, ◌+◌, ◌<◌, ◌≤◌, List, ◌∷◌, ◌++◌, Bool, Option, Result, Ok, Err, length, drop, get_or, ap, sym, subst, add-one, drop-cons}
use Rattle.std.specs.Prelude.{IfErr, IfOk}
use Rattle.std.specs.Str.{IsUtf8}
use Rattle.yf_lines.specs.Lines.{AreLines, Table}
use Rattle.yf_lines.specs.declared.fault.Fault.{Fault}
use Rattle.yf_lines.specs.declared.fault.Fault.TheVariants.{WriteFailed}
use Rattle.yf_events.specs.declared.lists.Lists.{Lists}
use Rattle.yf_events.specs.declared.reading.TheConstants.{DEPTH}
use Rattle.yf_events.specs.Nested.{IsStream}
use Rattle.yf_events.specs.Reading.{events_of}
use Rattle.yf_lines.proofs.OutputLemmas.{Progress}
use Rattle.yf_laws.specs.Format.{IsFormatting}
use Rattle.yf_forms.specs.declared.style.Style.{Style}
use Rattle.yf_rules.specs.declared.finding.Finding.{Finding}
use Rattle.yf_rules.specs.declared.run.TheConstants.{INPUT_LIMIT}
use Rattle.yf_laws.specs.Mended.{IsFormatted}
use Rattle.yf_rules.specs.NothingToFix.{NoneFixable}
use Rattle.yf_rules.specs.Runs.ByteStream.{ByteStream, BreaksOff, Writes}
use Rattle.yf_rules.specs.Runs.Run.{CheckClaim, CheckResult, FindingsWritten, Gave, RefusedCheck, finding_line, findings_text, has_any}
use Rattle.yf_rules.proofs.Runs.GivenTexts.{GivenText, left_of}
use Rattle.yf_stream.specs.ReadingOf.{ReadingOf}
use Rattle.yf_stream.specs.StreamReader.{TheReading}
use Rattle.yf_rules.specs.Findings.{FoundIn}

pub next_finding : (old new : Option (List ℕ)) (before after : Bool) (text : List ℕ) (findings : List Finding) (i : ℕ) (d : Finding)
    → i < length findings → Progress old new before after text (findings_text (drop i findings))
    → Progress old new before after text (finding_line (get_or findings i d) ++ findings_text (drop (i + 1) findings))
next_finding old new before after text findings i d within p =
    let cut : drop i findings ≡ get_or findings i d ∷ drop (i + 1) findings = rw add-one (drop-cons findings i d within) in
    subst (Progress old new before after text) (ap findings_text cut) p

-- the findings of the rules in a text, from the clauses of the check
pub found_text : {V E : Type 0} {text : List ℕ} (C : Table → Lists → List Finding → Type 0) (style : Style) (src : Table) (reading : Lists)
    (items : V → List Finding) (outcome : Result V E) → src.text ≡ text → AreLines text src.lines → IsStream DEPTH (events_of reading) → TheReading text reading
    → IfOk outcome (λ v. C src reading (items v)) → IfOk outcome (λ v. IsFormatted src reading style → NoneFixable (items v))
    → IfOk outcome (λ v. FoundIn C style text (items v))
found_text C style src reading items (Ok v) same lines nested reads checked mended =
    let of_text = subst (λ t. AreLines t src.lines) (sym same) lines in record {
      src = src;
      reading = reading;
      of_text = same;
      lines = of_text;
      nested = nested;
      reads = reads;
      checked = checked;
      mends = λ source utf8 formats. mended (record {
        source = source;
        utf8 = utf8;
        formats = subst (λ t. IsFormatting source style t) (sym same) formats;
        lines = of_text;
        reads = subst (λ t. ReadingOf t reading) (sym same) reads.reads;
      });
    }
found_text C style src reading items (Err e) same lines nested reads checked mended = tt

-- the findings of the rules in the text that was read
pub found_in : {C : CheckClaim} {style : Style} {known : Option (List ℕ)} {text : List ℕ} {findings : List Finding}
    → FoundIn C style text findings → GivenText known text → CheckResult C style known findings
found_in {style = style} {known = known} found given = record {
  src = found.src;
  reading = found.reading;
  gave = subst (λ t. Gave known t) (sym found.of_text) given.gave;
  within = subst (λ t. length t ≤ INPUT_LIMIT) (sym found.of_text) given.within;
  utf8 = subst (λ t. IsUtf8 t) (sym found.of_text) given.utf8;
  lines = found.lines;
  nested = found.nested;
  reads = subst (λ t. TheReading t found.reading) (sym found.of_text) found.reads;
  checked = found.checked;
  mends = λ source u formats. found.mends source u (subst (λ t. IsFormatting source style t) found.of_text formats);
}

-- the lines of the findings were written, or the writer failed
pub lines_written : {C : CheckClaim} {style : Style} (input before after : ByteStream) {findings : List Finding}
    (outcome : Result Bool Fault) → CheckResult C style input.contents findings
    → IfOk outcome (λ any. Writes before after (findings_text findings)) → IfOk outcome (λ any. any ≡ has_any findings)
    → IfOk outcome (λ any. FindingsWritten C style input before after any)
lines_written input before after {findings} (Ok any) found wrote answer =
    record { findings = findings; found = found; wrote = wrote; answer = answer }
lines_written input before after (Err fault) found wrote answer = tt

pub lines_broke : (C : CheckClaim) (style : Style) (input before after : ByteStream) {failed : Bool}
    {findings : List Finding} (outcome : Result Bool Fault) → CheckResult C style input.contents findings
    → failed ≡ input.failed
    → IfErr outcome (λ fault. (fault ≡ WriteFailed) × BreaksOff before after (findings_text findings))
    → IfErr outcome (RefusedCheck C style input (left_of input failed) before after)
lines_broke C style input before after (Ok any) found works broke = tt
lines_broke C style input before after {failed} {findings} (Err fault) found works broke =
    subst (RefusedCheck C style input (left_of input failed) before after) (sym broke.0)
    (record { findings = findings; found = found; broke = broke.1 }, works)

-- equal findings have equal lines
pub wrote_same : (before after : ByteStream) {x y : List Finding} → x ≡ y → Writes before after (findings_text x)
    → Writes before after (findings_text y)
wrote_same before after same wrote = subst (λ z. Writes before after (findings_text z)) same wrote

pub any_same : {x y : List Finding} → x ≡ y → has_any x ≡ has_any y
any_same e = ap has_any e

-- an equal reading is well nested too
pub nested_same : {x y : Lists} → x ≡ y → IsStream DEPTH (events_of x) → IsStream DEPTH (events_of y)
nested_same e s = subst (λ r. IsStream DEPTH (events_of r)) e s
