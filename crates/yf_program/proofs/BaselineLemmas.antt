-- The baseline that is read before the inputs.
use Rattle.std.proofs.Common.{◌≡◌, ◌≢◌, ◌≤◌, ◌∙◌, ℕ, List, Bool, Option, Some, None, inl, inr, length, refl, subst, sym}
use Rattle.std.specs.Prelude.{Result, Ok, Err, MatchResult, String}
use Rattle.std.specs.BTreeSet.{BTreeSet}
use Rattle.std.specs.Str.{IsUtf8}
use Rattle.std.specs.declared.alloc.Global.{Global}
use Rattle.yf_baseline.specs.Baselines.{baseline_in}
use Rattle.yf_baseline.specs.declared.refusal.Refusal.{Refusal}
use Rattle.yf_baseline.specs.declared.refusal.Refusal.TheVariants as refusal
use Rattle.yf_command_line.specs.Requests.{all_inputs}
use Rattle.yf_command_line.specs.declared.command.Check.{Check}
use Rattle.yf_command_line.specs.declared.command.Input.TheVariants.{File}
use Rattle.yf_findings.specs.declared.printed.Form.{Form}
use Rattle.yf_forms.specs.declared.style.Style.{Style}
use Rattle.yf_host.specs.Ends.{Opens}
use Rattle.yf_host.specs.World.{Host, InputClaim, StillKnown, World}
use Rattle.yf_lines.specs.declared.fault.Fault.{Fault}
use Rattle.yf_lines.specs.declared.fault.Fault.TheVariants as fault
use Rattle.yf_program.specs.BaselineFile.{BaselineRead, BaselineRefused, BaselineTaken, BaselineUntaken, HasEntries, HasNone, Listed, untaken_of}
use Rattle.yf_program.specs.Forms.{explains_in, limit_in}
use Rattle.yf_program.specs.Reports.{DoesReport, ReportsNew, report_task}
use Rattle.yf_program.specs.declared.baseline_file.NoBaseline.{NoBaseline}
use Rattle.yf_program.specs.declared.baseline_file.NoBaseline.TheVariants.{Unread, Refused}
use Rattle.yf_program.specs.declared.scope.Scope.{Scope}
use Rattle.yf_program.proofs.ReportLemmas.{report_before}
use Rattle.yf_rules.specs.Runs.ByteStream.{ByteStream, NoFailure}
use Rattle.yf_rules.specs.Runs.Input.{ReadRefusal}
use Rattle.yf_rules.specs.Runs.Run.{Gave}
use Rattle.yf_rules.specs.declared.run.TheConstants.{INPUT_LIMIT}

-- the reason for a text that is refused
pub none_in : (text : List ℕ) (why : Refusal) → IsUtf8 text → (why ≢ refusal.Memory → baseline_in text ≡ Err why)
    → HasNone text (untaken_of why)
none_in text refusal.Memory utf8 refused = refl
none_in text refusal.NotJson utf8 refused = inr (utf8, refused (λ e. cc))
none_in text refusal.Version utf8 refused = inr (utf8, refused (λ e. cc))
none_in text refusal.Shape utf8 refused = inr (utf8, refused (λ e. cc))

-- the entries of a file that was read
pub read_entries : (reader left : ByteStream) (text : List ℕ) (outcome : Result (BTreeSet (String Global)) NoBaseline) → NoFailure reader left
    → Gave reader.contents text → length text ≤ INPUT_LIMIT → MatchResult outcome (HasEntries text) (HasNone text)
    → MatchResult outcome (BaselineRead reader.contents) (BaselineRefused reader left)
read_entries reader left text (Ok set) works gave within has = (text, gave, within, has)
read_entries reader left text (Err (Unread f)) works gave within none =
    subst (λ (g : Fault). ReadRefusal INPUT_LIMIT reader left g) (sym none) works
read_entries reader left text (Err (Refused why)) works gave within none = (works, (text, gave, within, none))

-- a file of a baseline that was opened, or that can't be
module _ (claim : InputClaim) (baseline : Option (List ℕ)) (name : List ℕ) (is : baseline ≡ Some name) where
  pub taken_by : (reader left : ByteStream) (set : BTreeSet (String Global)) → Opens claim (File name) reader left
      → BaselineRead reader.contents set → BaselineTaken claim baseline (Some set)
  taken_by reader left set opens read =
      subst (λ (b : Option (List ℕ)). BaselineTaken claim b (Some set)) (sym is) (set, reader, left, refl, opens, read)

  pub untaken_by : (reader left : ByteStream) (why : NoBaseline) → Opens claim (File name) reader left
      → BaselineRefused reader left why → BaselineUntaken claim baseline why
  untaken_by reader left why opens refused =
      subst (λ (b : Option (List ℕ)). BaselineUntaken claim b why) (sym is) (inr (reader, left, opens, refused))

  pub unopened_baseline : (f : Fault) → f ≡ fault.ReadFailed → (claim.tells → claim.fails (File name)) → BaselineUntaken claim baseline (Unread f)
  unopened_baseline f failed fails =
      subst (λ (g : Fault). BaselineUntaken claim baseline (Unread g)) (sym failed)
      (subst (λ (b : Option (List ℕ)). BaselineUntaken claim b (Unread fault.ReadFailed)) (sym is) (inl (refl, fails)))

-- what was taken of the inputs as they are now was taken of the inputs as they were
module _ (before after : InputClaim) (known : StillKnown before after) where
  opens_before : (name : List ℕ) (reader left : ByteStream) → Opens after (File name) reader left → Opens before (File name) reader left
  opens_before name reader left d =
      ((λ told. d.0 (known.tells told) ∙ known.holds (File name)), d.1, λ told failed. known.fails (File name) (d.2 (known.tells told) failed))

  pub taken_before : (baseline : Option (List ℕ)) (listed : Listed) → BaselineTaken after baseline listed → BaselineTaken before baseline listed
  taken_before None listed d = d
  taken_before (Some name) listed (set, reader, left, is, opens, read) = (set, reader, left, is, opens_before name reader left opens, read)

  pub untaken_before : (baseline : Option (List ℕ)) (why : NoBaseline) → BaselineUntaken after baseline why → BaselineUntaken before baseline why
  untaken_before None why d = d
  untaken_before (Some name) why (inl unopened) = inl (unopened.0, λ told. known.fails (File name) (unopened.1 (known.tells told)))
  untaken_before (Some name) why (inr (reader, left, opens, refused)) = inr (reader, left, opens_before name reader left opens, refused)

module _ {F : Type 0} (earlier later : Host F) (known : StillKnown earlier.inputs later.inputs) (check : Check) (scope : Scope) (explain : Bool) (style : Style) (form : Form) where
  pub new_before : (status : ℕ) (before after : World F) → ReportsNew later check scope explain style form status before after
      → ReportsNew earlier check scope explain style form status before after
  new_before status before after (inl d) =
      inl (d.0, untaken_before earlier.inputs later.inputs known check.baseline d.0 d.1, d.2, (λ noted. d.3 (known.notes noted)), d.4, d.5)
  new_before status before after (inr d) =
      let reported = report_before earlier later known scope (report_task check d.0 explain style form) (all_inputs check.inputs) status (record before { opened = d.1 }) after d.4 in
      inr (d.0, d.1, taken_before earlier.inputs later.inputs known check.baseline d.0 d.2, (λ noted. d.3 (known.notes noted)), reported)

-- the report with the limit and the explanations of its form
pub reported_as : {F : Type 0} (host : Host F) (check : Check) (listed : Listed) (scope : Scope) (explain : Bool) (style : Style) (form : Form) (status : ℕ)
    (before after : World F) (told : Bool) → told ≡ explains_in form explain → (cut : Option ℕ) → cut ≡ limit_in form check.printing.limit
    → DoesReport host scope (record (report_task check listed explain style form) { explain = told; limit = cut }) (all_inputs check.inputs) status before after
    → DoesReport host scope (report_task check listed explain style form) (all_inputs check.inputs) status before after
reported_as host check listed scope explain style form status before after told explains cut limits d =
    let limited = subst (λ (l : Option ℕ). DoesReport host scope (record (report_task check listed explain style form) { explain = told; limit = l }) (all_inputs check.inputs) status before after) limits d in
    subst (λ (b : Bool). DoesReport host scope (record (report_task check listed explain style form) { explain = b }) (all_inputs check.inputs) status before after) explains limited
