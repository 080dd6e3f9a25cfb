-- The problems of a text, from the problems of its findings.
use Rattle.std.proofs.Common.{◌≡◌, ◌≤◌, Bool, List, Option, ℕ, length, subst, sym}
use Rattle.std.specs.Prelude.{Err, IfOk, Ok, Result}
use Rattle.std.specs.Str.{IsUtf8}
use Rattle.yf_findings.specs.Changes.{ListedChanges}
use Rattle.yf_findings.specs.Reading.{ReadProblems}
use Rattle.yf_findings.specs.Texts.{ReadingProblems, TextProblems}
use Rattle.yf_findings.specs.declared.owned.OwnedProblem.{OwnedProblem}
use Rattle.yf_findings.specs.declared.texts.CheckedText.{CheckedText}
use Rattle.yf_events.specs.declared.lists.Lists.{Lists}
use Rattle.yf_forms.specs.declared.style.Style.{Style}
use Rattle.yf_laws.specs.Format.{IsFormatting}
use Rattle.yf_lines.specs.Lines.{AreLines, Table}
use Rattle.yf_rules.specs.declared.run.TheConstants.{INPUT_LIMIT}
use Rattle.yf_rules.specs.Runs.Run.{Gave}
use Rattle.yf_stream.specs.ReadingOf.{ReadingOf}
use Rattle.yf_stream.specs.StreamReader.{TheReading}

pub text_problems : {t : List ℕ} (without : List (List ℕ)) (style : Style) (src : Table) (reading : Lists)
    (ps : List OwnedProblem) → src.text ≡ t → AreLines t src.lines → TheReading t reading
    → ReadingProblems without style src reading ps → TextProblems without style t ps
text_problems without style src reading ps same lines reads d =
    let of_text = subst (λ u. AreLines u src.lines) (sym same) lines in record {
      findings = d.findings;
      found = record {
        src = src;
        reading = reading;
        of_text = same;
        lines = of_text;
        nested = d.nested;
        reads = reads;
        checked = d.found;
        mends = λ source utf8 formats. d.mends (record {
          source = source;
          utf8 = utf8;
          formats = subst (λ u. IsFormatting source style u) (sym same) formats;
          lines = of_text;
          reads = subst (λ u. ReadingOf u reading) (sym same) reads.reads;
        });
      };
      problems = d.problems;
    }

-- the changes beside the problems
pub both_changes : {E : Type 0} (r : Result CheckedText E) (asked : Bool) (style : Style) (t : List ℕ)
    (ps : List OwnedProblem)
    → IfOk r (λ c. c.problems.items ≡ ps) → IfOk r (λ c. ListedChanges asked style t ps c.changes.items)
    → IfOk r (λ c. ListedChanges asked style t c.problems.items c.changes.items)
both_changes (Ok c) asked style t ps same listed =
    subst (λ z. ListedChanges asked style t z c.changes.items) (sym same) listed
both_changes (Err e) asked style t ps same listed = tt

-- the problems and the changes of a text that was read
pub read_checked : {E : Type 0} (known : Option (List ℕ)) (r : Result CheckedText E) (asked : Bool)
    (without : List (List ℕ)) (style : Style) (t : List ℕ) → Gave known t → length t ≤ INPUT_LIMIT → IsUtf8 t
    → IfOk r (λ c. TextProblems without style t c.problems.items)
    → IfOk r (λ c. ListedChanges asked style t c.problems.items c.changes.items)
    → IfOk r (ReadProblems asked without style known)
read_checked known (Ok c) asked without style t gave within utf8 found changes = record {
  text = t;
  gave = gave;
  within = within;
  utf8 = utf8;
  problems = found;
  changes = changes;
}
read_checked known (Err e) asked without style t gave within utf8 found changes = tt
