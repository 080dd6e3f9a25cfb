-- Problems of inputs as they are now are problems of inputs as they were before. Also one more input, and all of them.
use Rattle.std.proofs.Common.{◌≡◌, ◌≢◌, ◌↔◌, ◌⊎◌, ◌∙◌, Bool, true, false, IsTrue, ◌∷◌, ◌++◌, ◌+◌, ◌<◌, ◌≤◌, [], ℕ, List, Option, ap, sym, subst, take, drop, get_or, length, refl, suc, add-one, inl, inr, arith}
use Rattle.std.specs.Prelude.{MatchBool, Some, max}
use Rattle.std.proofs.Math.Seq.{drop-cons}
use Rattle.std.proofs.lemmas.Bool.{false≢true}
use Rattle.std.proofs.lemmas.List.{take_all, take_more, take-append-drop}
use Rattle.yf_command_line.specs.declared.command.Input.{Input}
use Rattle.yf_explain.specs.Explained.{Explains}
use Rattle.yf_findings.specs.Guards.{WithGuard}
use Rattle.yf_findings.specs.Refusals.{RefusalProblem}
use Rattle.yf_findings.specs.declared.changes.Change.{Change}
use Rattle.yf_findings.specs.declared.files.FileProblems.{FileProblems}
use Rattle.yf_findings.specs.declared.owned.OwnedProblem.{OwnedProblem}
use Rattle.yf_findings.specs.declared.texts.CheckedText.{CheckedText}
use Rattle.yf_guard.specs.declared.guarded.Guarded.TheVariants.{Vault}
use Rattle.yf_guarded.specs.Judged.{GivesJudged}
use Rattle.yf_guarded.specs.declared.read.Verdict.{Verdict}
use Rattle.yf_guarded.specs.declared.read.Verdict.TheVariants as verdict
use Rattle.yf_lines.specs.declared.fault.Fault.{Fault}
use Rattle.yf_lines.specs.declared.fault.Fault.TheVariants as fault
use Rattle.yf_rules.specs.Runs.ByteStream.{ByteStream, NoFailure, NothingWritten, WrittenOrFailed}
use Rattle.yf_rules.specs.Runs.Run as Runs
use Rattle.yf_rules.specs.declared.finding.Finding.{Finding}
use Rattle.yf_host.specs.Ends.{AnyLines, EndsTold, InputsOpened, IsFile, Opens, name_of}
use Rattle.yf_program.specs.Guarded.{held, is_judged}
use Rattle.yf_host.specs.LeftAlone.{left_line, left_status}
use Rattle.yf_program.specs.Reports.{AddsFile, AreAsked, DoesReport, GaveUp, GivesAll, GivesAsJudged, GivesEach, GivesInput, GivesJudgedText, GivesNamed, GivesOver, GivesRead, GivesScoped, GivesUnopened}
use Rattle.yf_program.specs.Reports.{Finds, FindsBeside, IsOnly, OpensReader, ReadClaim, ReportState, StopsAt, empty_report, file_name}
use Rattle.yf_host.specs.Memory.{ToldErrors, empty_stream}
use Rattle.yf_program.specs.Reports.GivesScoped.{left_out, included}
use Rattle.yf_program.specs.Reports.GivesEach.{none_given, one_more}
use Rattle.yf_host.specs.World.{Host, InputClaim, StillKnown, World}
use Rattle.yf_program.specs.declared.report_inputs.ReportTask.{ReportTask}
use Rattle.yf_program.specs.declared.scope.Scope.{Scope}

-- what was given by the inputs as they are now was given by the inputs as they were
module _ (before after : InputClaim) (known : StillKnown before after) (scope : Scope) (task : ReportTask) where
  either_before : (input : Input) (file : FileProblems) (status : ℕ) (old new : ByteStream) (P : ReadClaim)
      → GivesUnopened after task input file status old new ⊎ OpensReader after input P
      → GivesUnopened before task input file status old new ⊎ OpensReader before input P
  either_before input file status old new P (inl d) =
      inl (d.0, (λ told. known.fails input (d.1 (known.tells told))), d.2, d.3)
  either_before input file status old new P (inr d) =
      inr (d.0, d.1, ((λ told. d.2.0 (known.tells told) ∙ known.holds input), d.2.1, λ told failed. known.fails input (d.2.2 (known.tells told) failed)), d.3)

  given_before : (input : Input) (status : ℕ) (old new : ReportState)
      → GivesInput after scope task input status old new → GivesInput before scope task input status old new
  given_before input status old new d =
      let P = GivesRead scope task input d.1.0 status old.errors new.errors in
      ((λ noted. d.0 (known.notes noted)), (d.1.0, d.1.1, either_before input d.1.0 status old.errors new.errors P d.1.2, d.1.3))

  scoped_before : (input : Input) (status : ℕ) (old new : ReportState)
      → GivesScoped after scope task input status old new → GivesScoped before scope task input status old new
  scoped_before input status old new (left_out out opened files ends told) = left_out out (λ noted. opened (known.notes noted)) files ends told
  scoped_before input status old new (included not d) = included not (given_before input status old new d)

  pub named_given_before : (input : Input) (status : ℕ) (old new : ReportState)
      → GivesNamed after scope task input status old new → GivesNamed before scope task input status old new
  named_given_before input status old new d =
      (d.0, d.1, scoped_before input d.0 (record old { errors = empty_stream }) (record new { errors = d.1 }) d.2, d.3)

  each_given_before : {old new : ReportState} {inputs : List Input} {status : ℕ}
      → GivesEach after scope task old inputs status new → GivesEach before scope task old inputs status new
  each_given_before none_given = none_given
  each_given_before (one_more {between = between} input one {after = new} each d) =
      one_more input one (each_given_before each) (named_given_before input one between new d)

  only_before : (names : Bool) (input : Input) (status : ℕ) (old new : ReportState)
      → MatchBool names (GivesEach after scope task old (input ∷ []) status new) (GivesScoped after scope task input status old new)
      → MatchBool names (GivesEach before scope task old (input ∷ []) status new) (GivesScoped before scope task input status old new)
  only_before true input status old new d = each_given_before d
  only_before false input status old new d = scoped_before input status old new d

  all_given_before : (inputs : List Input) (status : ℕ) (old new : ReportState)
      → GivesAll after scope task inputs status old new → GivesAll before scope task inputs status old new
  all_given_before [] status old new d = absurd d
  all_given_before (input ∷ []) status old new d = only_before scope.names input status old new d
  all_given_before (input ∷ next ∷ inputs) status old new d = each_given_before d

  stops_before : (input : Input) (old new : ReportState) → StopsAt after input old new → StopsAt before input old new
  stops_before input old new d = ((λ noted. d.0 (known.notes noted)), d.1)

  gave_up_before : (inputs : List Input) (old new : ReportState) → GaveUp after scope task inputs old new
      → GaveUp before scope task inputs old new
  gave_up_before inputs old new d =
      (d.0, d.1, d.2, d.3, d.4, d.5, each_given_before d.6, stops_before d.1 d.4 new d.7)

module _ {F : Type 0} (earlier later : Host F) (known : StillKnown earlier.inputs later.inputs) (scope : Scope) (task : ReportTask) (inputs : List Input) where
  pub report_before : (status : ℕ) (before after : World F) → DoesReport later scope task inputs status before after
      → DoesReport earlier scope task inputs status before after
  report_before status before after (errors, files, inl d) =
      let given = all_given_before earlier.inputs later.inputs known scope task inputs d.0 (empty_report before) (record { opened = after.opened; files = d.1; errors = errors }) d.2 in
      (errors, files, inl (d.0, d.1, given, d.3))
  report_before status before after (errors, files, inr d) =
      let gave_up = gave_up_before earlier.inputs later.inputs known scope task inputs (empty_report before) (record { opened = after.opened; files = d.0; errors = errors }) d.1 in
      (errors, files, inr (d.0, gave_up, d.2, d.3))

-- the first input, one more of those after it, and all of them
module _ (claim : InputClaim) (scope : Scope) (task : ReportTask) (before : ReportState) where
  pub first_given : (status : ℕ) (after : ReportState) (input : Input) → GivesNamed claim scope task input status before after
      → GivesEach claim scope task before (input ∷ []) status after
  first_given status after input d =
      let greatest : max 0 status ≡ status = omega arith in
      let each : GivesEach claim scope task before (input ∷ []) (max 0 status) after = one_more input status none_given d in
      subst (λ (n : ℕ). GivesEach claim scope task before (input ∷ []) n after) greatest each

  pub one_more_given : (greatest status result : ℕ) (between after : ReportState) (first input : Input) (rest : List Input) (k : ℕ)
      → k < length rest → input ≡ get_or rest k input → result ≡ max greatest status
      → GivesEach claim scope task before (first ∷ take k rest) greatest between
      → GivesNamed claim scope task input status between after
      → GivesEach claim scope task before (first ∷ take (k + 1) rest) result after
  one_more_given greatest status result between after first input rest k within same greater each d =
      let longer : take (k + 1) rest ≡ take k rest ++ input ∷ [] = take_more rest k input within ∙ ap (λ x. take k rest ++ x ∷ []) (sym same) in
      let added : GivesEach claim scope task before (first ∷ (take k rest ++ input ∷ [])) (max greatest status) after = one_more input status each d in
      subst (λ (n : List Input). GivesEach claim scope task before (first ∷ n) result after) (sym longer)
      (subst (λ (n : ℕ). GivesEach claim scope task before (first ∷ (take k rest ++ input ∷ [])) n after) (sym greater) added)

  pub all_given : (status : ℕ) (after : ReportState) (first : Input) (rest : List Input) (k : ℕ) → length rest ≤ k
      → GivesEach claim scope task before (first ∷ take k rest) status after → GivesEach claim scope task before (first ∷ rest) status after
  all_given status after first rest k all each =
      subst (λ (n : List Input). GivesEach claim scope task before (first ∷ n) status after) (take_all k rest all) each

  -- memory was refused at the first input, or at one after it
  pub first_gave_up : (first : Input) (rest : List Input) (after : ReportState) → StopsAt claim first before after
      → GaveUp claim scope task (first ∷ rest) before after
  first_gave_up first rest after stops = ([], first, rest, 0, before, refl, none_given, stops)

  pub next_gave_up : (status : ℕ) (between after : ReportState) (first input : Input) (rest : List Input) (k : ℕ)
      → k < length rest → input ≡ get_or rest k input → GivesEach claim scope task before (first ∷ take k rest) status between
      → StopsAt claim input between after → GaveUp claim scope task (first ∷ rest) before after
  next_gave_up status between after first input rest k within same each stops =
      let tail : drop k rest ≡ input ∷ drop (k + 1) rest = rw add-one (drop-cons rest k input within ∙ ap (λ x. x ∷ drop (suc k) rest) (sym same)) in
      let whole : first ∷ rest ≡ (first ∷ take k rest) ++ input ∷ drop (k + 1) rest =
      ap (λ x. first ∷ x) (sym (take-append-drop k rest) ∙ ap (λ x. take k rest ++ x) tail) in
      (first ∷ take k rest, input, drop (k + 1) rest, status, between, whole, each, stops)

-- memory was refused for an input as it is now
pub stops_as_before : (before after : InputClaim) (known : StillKnown before after) (input : Input) (old new : ReportState)
    → StopsAt after input old new → StopsAt before input old new
stops_as_before before after known input old new d = ((λ noted. d.0 (known.notes noted)), d.1)

-- the input is not left out
pub not_left_out : (out : Bool) (P : Type 0) → IsTrue out ↔ P → out ≡ false → ¬ P
not_left_out out P test unset p = false≢true (sym unset ∙ test.1 p)

-- the only input, or each of several
module _ (claim : InputClaim) (scope : Scope) (task : ReportTask) (before after : ReportState) (first : Input) where
  pub one_given : (rest : List Input) (status : ℕ) → scope.names ≡ false → rest ≡ []
      → GivesScoped claim scope task first status before after → GivesAll claim scope task (first ∷ rest) status before after
  one_given rest status unnamed none d =
      let given = subst (λ (b : Bool). MatchBool b (GivesEach claim scope task before (first ∷ []) status after) (GivesScoped claim scope task first status before after)) (sym unnamed) d in
      subst (λ (r : List Input). GivesAll claim scope task (first ∷ r) status before after) (sym none) given

  pub named_each : (rest : List Input) (status : ℕ) → scope.names ≡ true → GivesEach claim scope task before (first ∷ rest) status after
      → GivesAll claim scope task (first ∷ rest) status before after
  named_each [] status named d =
      subst (λ (b : Bool). MatchBool b (GivesEach claim scope task before (first ∷ []) status after) (GivesScoped claim scope task first status before after)) (sym named) d
  named_each (next ∷ rest) status named d = d

  pub several_given : (rest : List Input) (status : ℕ) → rest ≢ [] → GivesEach claim scope task before (first ∷ rest) status after
      → GivesAll claim scope task (first ∷ rest) status before after
  several_given [] status some d = absurd (some refl)
  several_given (next ∷ rest) status some d = d

-- the problems of a text that was checked, and the problem of one that was refused
module _ (task : ReportTask) (name : Option (List ℕ)) (status : ℕ) (reader left before after : ByteStream) (old new : List FileProblems) where
  pub found_over : (all : CheckedText) → Finds task.work task.form task.style reader.contents all → NoFailure reader left
      → NothingWritten before after
      → AddsFile name (λ added. AreAsked task.work all.problems.items all.changes.items added status) old new
      → AddsFile name (λ added. GivesOver task added status reader left before after) old new
  found_over all found works nothing d = (d.0, d.1, inl (all, found, d.2, works, nothing), d.3)

  pub refused_over : (f : Fault) (bytes : List ℕ) → Runs.RefusedText reader left f → Runs.Keeps reader.contents bytes f
      → EndsTold task.explain (Explains bytes f) f status before after → AddsFile name (IsOnly (RefusalProblem bytes f)) old new
      → AddsFile name (λ added. GivesOver task added status reader left before after) old new
  refused_over f bytes refused keeps ends d = (d.0, d.1, inr (f, bytes, refused, keeps, d.2, ends), d.3)

  pub refused_judged : (f : Fault) (bytes : List ℕ) → Runs.RefusedText reader left f → Runs.Keeps reader.contents bytes f
      → EndsTold task.explain (Explains bytes f) f status before after → AddsFile name (IsOnly (RefusalProblem bytes f)) old new
      → AddsFile name (λ added. GivesJudgedText task added status reader left before after) old new
  refused_judged f bytes refused keeps ends d = (d.0, d.1, inr (f, bytes, refused, keeps, d.2, ends), d.3)

  pub judged_over : (t : List ℕ) (v : Verdict) → GivesJudged true reader.contents t v → NoFailure reader left
      → AddsFile name (λ added. GivesAsJudged task v t added status before after) old new
      → AddsFile name (λ added. GivesJudgedText task added status reader left before after) old new
  judged_over t v judged works d = (d.0, d.1, inl (t, v, judged, works, d.2), d.3)

-- the problems of a text by the verdict on it
module _ (task : ReportTask) (name : Option (List ℕ)) (status : ℕ) (before after : ByteStream) (old new : List FileProblems) (t : List ℕ) where
  pub passed_given : (rest : List ℕ) → AddsFile name (λ added. GivesOver task added status (held t) (held rest) before after) old new
      → AddsFile name (λ added. GivesAsJudged task verdict.Passed t added status before after) old new
  passed_given rest d = (d.0, d.1, (rest, d.2), d.3)

  pub encrypted_given : (problems : List OwnedProblem) (changes : List Change) → problems ≡ [] → changes ≡ []
      → status ≡ left_status Vault → WrittenOrFailed before after (left_line Vault)
      → AddsFile name (λ added. (added.problems.items ≡ problems) × (added.changes.items ≡ changes)) old new
      → AddsFile name (λ added. GivesAsJudged task verdict.Encrypted t added status before after) old new
  encrypted_given problems changes none same ends told d = (d.0, d.1, (d.2.0 ∙ none, d.2.1 ∙ same, ends, told), d.3)

  pub no_data_given : (f : Finding) (found : CheckedText) (all : List OwnedProblem)
      → FindsBeside task.work task.style (Some t) found → WithGuard t f found.problems.items all
      → NothingWritten before after → AddsFile name (λ added. AreAsked task.work all [] added status) old new
      → AddsFile name (λ added. GivesAsJudged task (verdict.NoData f) t added status before after) old new
  no_data_given f found all checked guarded nothing d = (d.0, d.1, inl (found, all, checked, guarded, d.2, nothing), d.3)

  pub no_data_refused : (f : Finding) (rest : List ℕ) (g : Fault) (bytes : List ℕ) → Runs.RefusedText (held t) (held rest) g
      → Runs.Keeps (Some t) bytes g → EndsTold task.explain (Explains bytes g) g status before after
      → AddsFile name (IsOnly (RefusalProblem bytes g)) old new
      → AddsFile name (λ added. GivesAsJudged task (verdict.NoData f) t added status before after) old new
  no_data_refused f rest g bytes refused keeps ends d = (d.0, d.1, inr (rest, (g, bytes, refused, keeps, d.2, ends)), d.3)

-- the problems of an input
module _ (claim : InputClaim) (scope : Scope) (task : ReportTask) (input : Input) (status : ℕ) (before after : ReportState) where
  pub opened_given : (reader left : ByteStream) (judges : Bool) (name : Option (List ℕ)) → judges ≡ is_judged scope input
      → name ≡ file_name scope.stdin_name input → InputsOpened claim before.opened after.opened (input ∷ []) → Opens claim input reader left
      → AddsFile name (λ added. MatchBool judges (GivesJudgedText task added status reader left before.errors after.errors)
      (GivesOver task added status reader left before.errors after.errors)) before.files after.files
      → GivesInput claim scope task input status before after
  opened_given reader left judges name judged named opened opens d =
      let read = subst (λ (b : Bool). MatchBool b (GivesJudgedText task d.0 status reader left before.errors after.errors)
      (GivesOver task d.0 status reader left before.errors after.errors)) judged d.2 in
      (opened, (d.0, d.1 ∙ named, inr (reader, left, opens, read), d.3))

  pub unopened_given : (f : Fault) → f ≡ fault.ReadFailed → InputsOpened claim before.opened after.opened (input ∷ []) → IsFile input
      → (claim.tells → claim.fails input) → EndsTold task.explain AnyLines f status before.errors after.errors
      → AddsFile (file_name scope.stdin_name input) (IsOnly (RefusalProblem [] f)) before.files after.files
      → GivesInput claim scope task input status before after
  unopened_given f failed opened file fails ends d =
      let refusal = subst (λ (g : Fault). IsOnly (RefusalProblem [] g) d.0) failed d.2 in
      let told = subst (λ (g : Fault). EndsTold task.explain AnyLines g status before.errors after.errors) failed ends in
      (opened, (d.0, d.1, inl (file, fails, refusal, told), d.3))

  pub stops_opened : InputsOpened claim before.opened after.opened (input ∷ []) → NothingWritten before.errors after.errors
      → StopsAt claim input before after
  stops_opened opened nothing = ((λ noted. inr (opened noted)), nothing)

  -- the input is one of several
  pub named_given : (run : ℕ) (start memory : ByteStream) (said : List ℕ) → start ≡ empty_stream → said ≡ name_of scope.stdin_name input
      → ToldErrors said run status memory before.errors after.errors
      → GivesScoped claim scope task input run (record before { errors = start }) (record after { errors = memory })
      → GivesNamed claim scope task input status before after
  named_given run start memory said none same told d =
      let given = subst (λ (s : ByteStream). GivesScoped claim scope task input run (record before { errors = s }) (record after { errors = memory })) none d in
      let named = subst (λ (n : List ℕ). ToldErrors n run status memory before.errors after.errors) same told in
      (run, memory, given, named)
