-- A run over the inputs as they are now is also a run over the inputs as they were before. Also the runs over one of
-- several inputs, and over all of them.
use Rattle.std.proofs.Common.{◌≡◌, ◌≢◌, ◌⊎◌, ◌∙◌, ◌∷◌, ◌++◌, ◌+◌, ◌<◌, ◌≤◌, [], ℕ, List, Bool, false, true, inl, inr, add-one, ap, sym, subst, take, get_or, length, refl}
use Rattle.std.specs.Prelude.{◌&&◌, max, map, Option, None, MatchBool, Result}
use Rattle.std.proofs.Math.ListN.{get_or-map}
use Rattle.std.proofs.Math.Seq.{take-suc}
use Rattle.std.proofs.lemmas.List.{take_all}
use Rattle.yf_command_line.specs.Requests.{all_files, all_inputs}
use Rattle.yf_command_line.specs.declared.command.Check.{Check}
use Rattle.yf_command_line.specs.declared.command.Command.{Command}
use Rattle.yf_command_line.specs.declared.command.Command.TheVariants as command
use Rattle.yf_command_line.specs.declared.command.Fmt.TheVariants as fmt
use Rattle.yf_command_line.specs.declared.command.Input.{Input}
use Rattle.yf_command_line.specs.declared.command.InputList.{InputList}
use Rattle.yf_command_line.specs.declared.command.Output.{Output}
use Rattle.yf_command_line.specs.declared.command.Part.TheVariants as part
use Rattle.yf_parts.specs.PartRun.{IsPart}
use Rattle.yf_parts.specs.declared.show.Show.TheVariants as show
use Rattle.yf_command_line.specs.declared.command.Input.TheVariants.{Standard, File}
use Rattle.yf_files.specs.Tree.{FilesState}
use Rattle.yf_files.specs.declared.rewriting.RewriteError.{RewriteError}
use Rattle.yf_findings.specs.declared.printed.Form.{Form}
use Rattle.yf_forms.specs.declared.style.Style.{Style}
use Rattle.yf_rules.specs.Runs.ByteStream.{ByteStream}
use Rattle.yf_program.specs.Answer.{CopiesInput, DoesAll, DoesCheck, DoesCompare, DoesEach, DoesIn, DoesInput, DoesNamed, DoesOpened, DoesRewrite, DoesServer, ServedLater}
use Rattle.yf_program.specs.Answer.{EndsRewriting, Ran, RanLeftOut, RewritesInput, RunsOver, ScopedInput, ScopedRewrite, SkipsIf, SkipsInput}
use Rattle.yf_host.specs.Memory.{ToldMemory, empty_memory}
use Rattle.yf_program.specs.Answer.{host_in, name_of, task_of}
use Rattle.yf_program.specs.Answer.DoesEach.{one_done, one_more}
use Rattle.yf_program.specs.Forms.{check_form, checks_at_once, compare_form, explains_in, writes_at_once}
use Rattle.yf_program.specs.Reports.{DoesReport, ReportsNew, compare_task}
use Rattle.yf_program.specs.Run.{DoesWith}
use Rattle.yf_program.specs.Run.DoesWith.{other_version, without_memory, are_taken}
use Rattle.yf_program.specs.Guarded.{ReaderClaim, is_standard, prints_text}
use Rattle.yf_program.specs.Server.{Served}
use Rattle.yf_program.specs.Settings.{InputWork, NothingDone, PassesBy, Scoped, scope_of}
use Rattle.yf_program.specs.Settings.Scoped.{left_out, no_memory, included}
use Rattle.yf_program.specs.declared.scope.Scope.{Scope}
use Rattle.yf_program.specs.declared.search.InForce.{InForce}
use Rattle.yf_settings.specs.declared.file_settings.FileSettings.{FileSettings}
use Rattle.yf_program.proofs.BaselineLemmas.{new_before}
use Rattle.yf_program.proofs.ReportLemmas.{report_before}
use Rattle.yf_host.specs.Rewriting.{FormatsBytes, new_text_of}
use Rattle.yf_host.specs.declared.guarded_text.NoNewText.{NoNewText}
use Rattle.yf_host.specs.World.{Host, InputClaim, LinkClaim, OutputStreams, StillKnown, TextClaim, WorkClaim, World, later_in}
use Rattle.yf_host.specs.declared.sources.Sources.{Sources}
use Rattle.yf_program.specs.declared.task.Flags.{Flags}
use Rattle.yf_program.specs.declared.task.Task.{Task}
use Rattle.yf_program.specs.declared.task.Work.TheVariants as work

-- each of the two ways in which a check is done is a way of before
pub either_check : (at_once : Bool) {P Q R S : Type 0} → (P → R) → (Q → S) → MatchBool at_once P Q → MatchBool at_once R S
either_check true first second d = first d
either_check false first second d = second d

-- what was known is still known after two steps
pub known_on : {a b c : InputClaim} → StillKnown a b → StillKnown b c → StillKnown a c
known_on ab bc = record {
  tells = λ t. bc.tells (ab.tells t);
  notes = λ n. bc.notes (ab.notes n);
  holds = λ input. bc.holds input ∙ ab.holds input;
  fails = λ input f. ab.fails input (bc.fails input f);
  shows = λ name what s. ab.shows name what (bc.shows name what s);
}

-- what was done with the inputs as they are now was done with the inputs as they were
module _ (before after : InputClaim) (known : StillKnown before after) (input : Input) where
  runs_before : (Ran : ReaderClaim) (status : ℕ) (old new : OutputStreams) → RunsOver after input Ran status old new → RunsOver before input Ran status old new
  runs_before Ran status old new d =
      (d.0, d.1, (λ told. d.2.0 (known.tells told) ∙ known.holds input, d.2.1, λ told failed. known.fails input (d.2.2 (known.tells told) failed)), d.3)

  opened_before : (scope : Scope) (task : Task) (status : ℕ) (old new : OutputStreams) → DoesOpened after scope input task status old new → DoesOpened before scope input task status old new
  opened_before scope task status old new (inl refused) =
      inl (refused.0, (λ told. known.fails input (refused.1 (known.tells told))), refused.2, refused.3)
  opened_before scope task status old new (inr d) = inr (runs_before (Ran scope input task) status old new d)

module _ {F : Type 0} (earlier later : Host F) (known : StillKnown earlier.inputs later.inputs) (scope : Scope) (task : Task) where
  pub input_before : (input : Input) (status : ℕ) (before after : World F) → DoesInput later scope task input status before after → DoesInput earlier scope task input status before after
  input_before input status before after d =
      (d.0, (λ noted. d.1 (known.notes noted)), opened_before earlier.inputs later.inputs known input scope task status before.streams after.streams d.2)

module _ {F : Type 0} (earlier later : Host F) (known : StillKnown earlier.inputs later.inputs) where
  nothing_before : (before after : World F) → NothingDone later before after → NothingDone earlier before after
  nothing_before before after n = (n.0, (λ noted. n.1 (known.notes noted)), n.2)

  passes_before : (explain : Bool) (input : Input) (status : ℕ) (before after : World F) → PassesBy later explain input status before after
      → PassesBy earlier explain input status before after
  passes_before explain input status before after p = (nothing_before before after p.0, p.1, p.2)

  copies_before : (task : Task) (input : Input) (status : ℕ) (before after : World F) → CopiesInput later task input status before after
      → CopiesInput earlier task input status before after
  copies_before task input status before after d =
      (d.0, (λ noted. d.1 (known.notes noted)), runs_before earlier.inputs later.inputs known input (RanLeftOut task) status before.streams after.streams d.2)

  skips_if_before : (copies : Bool) (task : Task) (input : Input) (status : ℕ) (before after : World F) → SkipsIf copies later task input status before after
      → SkipsIf copies earlier task input status before after
  skips_if_before true task input status before after d = copies_before task input status before after d
  skips_if_before false task input status before after d = passes_before task.explain input status before after d

-- Of two works P and Q with an input: what Q does follows from what P does, also for an input that may be left out.
module _ {F : Type 0} (earlier later : Host F) (known : StillKnown earlier.inputs later.inputs) (P Q : InputWork F)
    (follows : (input : Input) (status : ℕ) (before after : World F) → P.Does input status before after → Q.Does input status before after)
    (skips : (input : Input) (status : ℕ) (before after : World F) → P.Skips input status before after → Q.Skips input status before after) where
  pub scoped_before : (scope : Scope) (input : Input) (status : ℕ) (before after : World F)
      → Scoped later scope P input status before after → Scoped earlier scope Q input status before after
  scoped_before scope input status before after (left_out out d) = left_out out (skips input status before after d)
  scoped_before scope input status before after (no_memory n s t) = no_memory (nothing_before earlier later known before after n) s t
  scoped_before scope input status before after (included not d) = included not (follows input status before after d)

module _ {F : Type 0} (earlier later : Host F) (known : StillKnown earlier.inputs later.inputs) (scope : Scope) (task : Task) where
  pub scoped_input_before : (input : Input) (status : ℕ) (before after : World F) → ScopedInput later scope task input status before after
      → ScopedInput earlier scope task input status before after
  scoped_input_before input status before after d =
      scoped_before earlier later known (record { Does = DoesInput later scope task; Skips = SkipsInput later task }) (record { Does = DoesInput earlier scope task; Skips = SkipsInput earlier task })
      (input_before earlier later known scope task)
      (λ input status before after. skips_if_before earlier later known (is_standard input && prints_text task.work) task input status before after)
      scope input status before after d

-- If Q follows from P, then Q follows for one of several inputs, and for all of them.
module _ {F : Type 0} (P Q : Input → WorkClaim F) (follows : (input : Input) (status : ℕ) (before after : World F) → P input status before after → Q input status before after) where
  pub named_by : (name : List ℕ) (input : Input) (status : ℕ) (before after : World F) → DoesNamed name (P input) status before after → DoesNamed name (Q input) status before after
  named_by name input status before after d =
      (d.0, d.1, follows input d.0 (record before { streams = empty_memory }) (record after { streams = d.1 }) d.2, d.3)

  each_by : {standard : Option (List ℕ)} {before after : World F} {inputs : List Input} {status : ℕ} → DoesEach standard P before inputs status after → DoesEach standard Q before inputs status after
  each_by {standard = standard} {before = before} (one_done {input = input} {status = status} {after = after} d) = one_done (named_by (name_of standard input) input status before after d)
  each_by {standard = standard} (one_more {between = between} input one {after = after} done d) = one_more input one (each_by done) (named_by (name_of standard input) input one between after d)

  only_by : (names : Bool) (standard : Option (List ℕ)) (input : Input) (status : ℕ) (before after : World F)
      → MatchBool names (DoesEach standard P before (input ∷ []) status after) (P input status before after)
      → MatchBool names (DoesEach standard Q before (input ∷ []) status after) (Q input status before after)
  only_by true standard input status before after d = each_by d
  only_by false standard input status before after d = follows input status before after d

  pub all_by : (scope : Scope) (inputs : List Input) (status : ℕ) (before after : World F) → DoesAll scope P inputs status before after → DoesAll scope Q inputs status before after
  all_by scope [] status before after d = absurd d
  all_by scope (input ∷ []) status before after d = only_by scope.names scope.stdin_name input status before after d
  all_by scope (input ∷ next ∷ inputs) status before after d = each_by d

-- an editor was served with the inputs as they are later
module _ {F : Type 0} (earlier later : Host F) (known : StillKnown earlier.inputs later.inputs)
    (laters : (P : InputClaim → Type 0) → later.Later P → earlier.Later P) where
  pub server_before : (scope : Scope) (style : Style) (status : ℕ) (before after : World F) → DoesServer later scope style status before after → DoesServer earlier scope style status before after
  server_before scope style status before after d =
      let over = runs_before earlier.inputs later.inputs known Standard (ServedLater later scope style) status before.streams after.streams d.2 in
      (d.0, (λ noted. d.1 (known.notes noted)), (over.0, over.1, over.2, laters (λ claim. Served claim scope style status over.0 over.1 before.streams after.streams) over.3))

-- what is later than a later moment
pub later_on : {I : Type 0} (claim : I → InputClaim) (old new : I) → StillKnown (claim old) (claim new) → (P : InputClaim → Type 0) → later_in claim new P → later_in claim old P
later_on claim old new known P d = (d.0, known_on known d.1, d.2)

module _ {F : Type 0} (earlier later : Host F) (known : StillKnown earlier.inputs later.inputs)
    (laters : (P : InputClaim → Type 0) → later.Later P → earlier.Later P)
    (rewrites : (first last : F) (name : List ℕ) (Formats : TextClaim) (result : Result Unit (RewriteError NoNewText)) → later.Rewrites first last name Formats result → earlier.Rewrites first last name Formats result) where
  rewrite_before : (explain : Bool) (Formats : TextClaim) (input : Input) (status : ℕ) (before after : World F) → RewritesInput later explain Formats input status before after
      → RewritesInput earlier explain Formats input status before after
  rewrite_before explain Formats Standard status before after d = absurd d
  rewrite_before explain Formats (File name) status before after d =
      ((λ noted. d.0 (known.notes noted)), d.1, (d.2.0, d.2.1, rewrites before.files after.files name Formats d.2.0 d.2.2, d.2.3, d.2.4))

  scoped_rewrite_before : (scope : Scope) (explain : Bool) (Formats : TextClaim) (input : Input) (status : ℕ) (before after : World F) → ScopedRewrite later scope explain Formats input status before after
      → ScopedRewrite earlier scope explain Formats input status before after
  scoped_rewrite_before scope explain Formats input status before after d =
      scoped_before earlier later known (record { Does = RewritesInput later explain Formats; Skips = PassesBy later explain }) (record { Does = RewritesInput earlier explain Formats; Skips = PassesBy earlier explain })
      (rewrite_before explain Formats) (passes_before earlier later known explain) scope input status before after d

  all_before : (scope : Scope) (task : Task) (inputs : List Input) (status : ℕ) (before after : World F) → DoesAll scope (ScopedInput later scope task) inputs status before after
      → DoesAll scope (ScopedInput earlier scope task) inputs status before after
  all_before scope task inputs status before after d =
      all_by (ScopedInput later scope task) (ScopedInput earlier scope task) (scoped_input_before earlier later known scope task) scope inputs status before after d

  check_before : (check : Check) (scope : Scope) (explain : Bool) (style : Style) (form : Form) (status : ℕ) (before after : World F)
      → DoesCheck later check scope explain style form status before after → DoesCheck earlier check scope explain style form status before after
  check_before check scope explain style form status before after d =
      either_check (checks_at_once form check)
      (all_before scope (task_of (work.Check check.without) explain style) (all_inputs check.inputs) status before after)
      (new_before earlier later known check scope explain style form status before after) d

  compare_before : (inputs : InputList) (scope : Scope) (explain : Bool) (style : Style) (form : Form) (status : ℕ) (before after : World F)
      → DoesCompare later inputs scope explain style form status before after → DoesCompare earlier inputs scope explain style form status before after
  compare_before inputs scope explain style form status before after d =
      either_check (writes_at_once form [] None)
      (all_before scope (task_of work.Compare explain style) (all_inputs inputs) status before after)
      (report_before earlier later known scope (compare_task explain style form) (all_inputs inputs) status before after) d

  pub does_in_before : (what : Command) (scope : Scope) (explain : Bool) (style : Style) (status : ℕ) (before after : World F) → DoesIn later what scope explain style status before after
      → DoesIn earlier what scope explain style status before after
  does_in_before (command.Events input) scope explain style status before after d = scoped_input_before earlier later known scope (task_of work.Events explain style) input status before after d
  does_in_before command.Server scope explain style status before after d = server_before earlier later known laters scope style status before after d
  does_in_before (command.Check check) scope explain style status before after d = check_before check scope explain style (check_form check scope explain) status before after d
  does_in_before (command.Fmt (fmt.Print input)) scope explain style status before after d = scoped_input_before earlier later known scope (task_of work.Print explain style) input status before after d
  does_in_before (command.Fmt (fmt.Check inputs output)) scope explain style status before after d = compare_before inputs scope explain style (compare_form inputs output scope explain) status before after d
  does_in_before (command.Fmt (fmt.Diff inputs)) scope explain style status before after d = all_before scope (task_of work.Diff explain style) (all_inputs inputs) status before after d
  does_in_before (command.Fmt (fmt.Write files)) scope explain style status before after d =
      let Formats = new_text_of scope.any_text (FormatsBytes style) in
      all_by (ScopedRewrite later scope explain Formats) (ScopedRewrite earlier scope explain Formats) (scoped_rewrite_before scope explain Formats) scope (map (λ name. File name) (all_files files)) status before after d
  does_in_before (command.Fmt (fmt.Part lines (part.Print input))) scope explain style status before after d = scoped_input_before earlier later known scope (task_of (work.Part (record { lines = lines; show = show.Text })) explain style) input status before after d
  does_in_before (command.Fmt (fmt.Part lines (part.Check input))) scope explain style status before after d = all_before scope (task_of (work.Part (record { lines = lines; show = show.Place })) explain style) (input ∷ []) status before after d
  does_in_before (command.Fmt (fmt.Part lines (part.Diff input))) scope explain style status before after d = all_before scope (task_of (work.Part (record { lines = lines; show = show.Diff })) explain style) (input ∷ []) status before after d
  does_in_before (command.Fmt (fmt.Part lines (part.Write file))) scope explain style status before after d =
      let Formats = new_text_of scope.any_text (IsPart style lines.items) in
      all_by (ScopedRewrite later scope explain Formats) (ScopedRewrite earlier scope explain Formats) (scoped_rewrite_before scope explain Formats) scope (File file ∷ []) status before after d

  pub does_with_before : (in_force : InForce) (settings : FileSettings) (flags : Flags) (what : Command) (status : ℕ) (before after : World F)
      → DoesWith later in_force settings flags what status before after → DoesWith earlier in_force settings flags what status before after
  does_with_before in_force settings flags what status before after (other_version n r) = other_version (nothing_before earlier later known before after n) r
  does_with_before in_force settings flags what status before after (without_memory n r) = without_memory (nothing_before earlier later known before after n) r
  does_with_before in_force settings flags what status before after (are_taken d) =
      are_taken (does_in_before what (scope_of in_force settings flags) flags.explain settings.style status before after d)

-- the check in its form: each finding was written at once, or one report of all was written
module _ {F : Type 0} (host : Host F) (check : Check) (scope : Scope) (explain : Bool) (style : Style) (form : Form) (same : form ≡ check_form check scope explain) (status : ℕ) (before after : World F) where
  in_form : DoesCheck host check scope explain style form status before after → DoesIn host (command.Check check) scope explain style status before after
  in_form d = subst (λ (f : Form). DoesCheck host check scope explain style f status before after) same d

  pub checked_at_once : checks_at_once form check ≡ true
      → DoesAll scope (ScopedInput host scope (task_of (work.Check check.without) explain style)) (all_inputs check.inputs) status before after
      → DoesIn host (command.Check check) scope explain style status before after
  checked_at_once at_once d =
      let Each = DoesAll scope (ScopedInput host scope (task_of (work.Check check.without) explain style)) (all_inputs check.inputs) status before after in
      let Report = ReportsNew host check scope explain style form status before after in
      in_form (subst (λ (b : Bool). MatchBool b Each Report) (sym at_once) d)

  pub checked_in_report : checks_at_once form check ≡ false → ReportsNew host check scope explain style form status before after
      → DoesIn host (command.Check check) scope explain style status before after
  checked_in_report later d =
      let Each = DoesAll scope (ScopedInput host scope (task_of (work.Check check.without) explain style)) (all_inputs check.inputs) status before after in
      let Report = ReportsNew host check scope explain style form status before after in
      in_form (subst (λ (b : Bool). MatchBool b Each Report) (sym later) d)

-- the comparison in its form: each line was written at once, or one report of all was written
module _ {F : Type 0} (host : Host F) (inputs : InputList) (output : Output) (scope : Scope) (explain : Bool) (style : Style) (form : Form) (same : form ≡ compare_form inputs output scope explain) (status : ℕ) (before after : World F) where
  in_compare_form : DoesCompare host inputs scope explain style form status before after → DoesIn host (command.Fmt (fmt.Check inputs output)) scope explain style status before after
  in_compare_form d = subst (λ (f : Form). DoesCompare host inputs scope explain style f status before after) same d

  pub compared_at_once : writes_at_once form [] None ≡ true
      → DoesAll scope (ScopedInput host scope (task_of work.Compare explain style)) (all_inputs inputs) status before after
      → DoesIn host (command.Fmt (fmt.Check inputs output)) scope explain style status before after
  compared_at_once at_once d =
      let Each = DoesAll scope (ScopedInput host scope (task_of work.Compare explain style)) (all_inputs inputs) status before after in
      let Report = DoesReport host scope (compare_task explain style form) (all_inputs inputs) status before after in
      in_compare_form (subst (λ (b : Bool). MatchBool b Each Report) (sym at_once) d)

  pub compared_in_report : (told : Bool) → told ≡ explains_in form explain → writes_at_once form [] None ≡ false
      → DoesReport host scope (record (compare_task explain style form) { explain = told }) (all_inputs inputs) status before after
      → DoesIn host (command.Fmt (fmt.Check inputs output)) scope explain style status before after
  compared_in_report told explains later d =
      let Each = DoesAll scope (ScopedInput host scope (task_of work.Compare explain style)) (all_inputs inputs) status before after in
      let Report = DoesReport host scope (compare_task explain style form) (all_inputs inputs) status before after in
      let reported = subst (λ (b : Bool). DoesReport host scope (record (compare_task explain style form) { explain = b }) (all_inputs inputs) status before after) explains d in
      in_compare_form (subst (λ (b : Bool). MatchBool b Each Report) (sym later) reported)

-- the work was done as if for the only file, and then the contents of memory were written
module _ {F : Type 0} (Does : WorkClaim F) (before after : World F) where
  pub named_done : (name said : List ℕ) (run status : ℕ) (start memory : OutputStreams) → start ≡ empty_memory → said ≡ name
      → Does run (record before { streams = start }) (record after { streams = memory }) → ToldMemory said run status memory before.streams after.streams
      → DoesNamed name Does status before after
  named_done name said run status start memory none same does told = (
    run,
    memory,
    subst (λ (s : OutputStreams). Does run (record before { streams = s }) (record after { streams = memory })) none does,
    subst (λ (n : List ℕ). ToldMemory n run status memory before.streams after.streams) same told,
  )

-- the work was done with the only input, or with each of several
module _ {F : Type 0} (scope : Scope) (Does : Input → WorkClaim F) (before after : World F) (status : ℕ) (first : Input) where
  only_of : (names : Bool) → names ≡ false → Does first status before after
      → MatchBool names (DoesEach scope.stdin_name Does before (first ∷ []) status after) (Does first status before after)
  only_of names none d = rw none d

  pub one_of : (rest : List Input) → scope.names ≡ false → rest ≡ [] → Does first status before after → DoesAll scope Does (first ∷ rest) status before after
  one_of rest bare none d = subst (λ (r : List Input). DoesAll scope Does (first ∷ r) status before after) (sym none) (only_of scope.names bare d)

  pub each_of : (rest : List Input) → rest ≢ [] → DoesEach scope.stdin_name Does before (first ∷ rest) status after → DoesAll scope Does (first ∷ rest) status before after
  each_of [] some d = absurd (some refl)
  each_of (next ∷ rest) some d = d

  named_only : (names : Bool) → names ≡ true → DoesEach scope.stdin_name Does before (first ∷ []) status after
      → MatchBool names (DoesEach scope.stdin_name Does before (first ∷ []) status after) (Does first status before after)
  named_only names named d = rw named d

  pub named_of : (rest : List Input) → scope.names ≡ true → DoesEach scope.stdin_name Does before (first ∷ rest) status after → DoesAll scope Does (first ∷ rest) status before after
  named_of [] named d = named_only scope.names named d
  named_of (next ∷ rest) named d = d

  -- Without other inputs it was done with the first one.
  pub no_more : (rest : List Input) → rest ≡ [] → DoesAll scope Does (first ∷ rest) status before after → DoesAll scope Does (first ∷ []) status before after
  no_more rest none d = subst (λ (r : List Input). DoesAll scope Does (first ∷ r) status before after) none d

-- no names give no files, and some names give some files
pub no_files : (names : List (List ℕ)) → names ≡ [] → map (λ (name : List ℕ). File name) names ≡ []
no_files names none = ap (map (λ (name : List ℕ). File name)) none

pub some_files : (names : List (List ℕ)) → names ≢ [] → map (λ (name : List ℕ). File name) names ≢ []
some_files [] some same = some refl
some_files (name ∷ names) some same = cc

-- one more of the inputs after the first
module _ {F : Type 0} (standard : Option (List ℕ)) (Does : Input → WorkClaim F) (before : World F) where
  pub next_done : (between after : World F) (first one : Input) (more : List Input) (k : ℕ) (d : Input) (greatest status result : ℕ)
      → k < length more → one ≡ get_or more k d → result ≡ max greatest status
      → DoesEach standard Does before (first ∷ take k more) greatest between → DoesNamed (name_of standard one) (Does one) status between after
      → DoesEach standard Does before (first ∷ take (k + 1) more) result after
  next_done between after first one more k d greatest status result within same greater done does =
      let longer : take (k + 1) more ≡ take k more ++ get_or more k d ∷ [] = rw add-one (take-suc more k d within) in
      let inputs : (first ∷ take k more) ++ one ∷ [] ≡ first ∷ take (k + 1) more = ap (λ x. first ∷ (take k more ++ x ∷ [])) same ∙ ap (λ x. first ∷ x) (sym longer) in
      let more_done = subst (λ n. DoesEach standard Does before n (max greatest status) after) inputs (one_more one status done does) in
      subst (λ n. DoesEach standard Does before (first ∷ take (k + 1) more) n after) (sym greater) more_done

  pub all_done : (after : World F) (first : Input) (more : List Input) (k status : ℕ) → length more ≤ k
      → DoesEach standard Does before (first ∷ take k more) status after → DoesEach standard Does before (first ∷ more) status after
  all_done after first more k status all done = subst (λ n. DoesEach standard Does before (first ∷ n) status after) (take_all k more all) done

-- one more of the files after the first
pub next_file : (names : List (List ℕ)) (k : ℕ) (d name : List ℕ) → name ≡ get_or names k d
    → File name ≡ get_or (map (λ (n : List ℕ). File n) names) k (File d)
next_file names k d name same = ap (λ n. File n) same ∙ sym (get_or-map (λ (n : List ℕ). File n) names k d)

-- a file was rewritten by the name that was read from it
module _ {F : Type 0} (host : Host F) (scope : Scope) (explain : Bool) (Formats : TextClaim) (status : ℕ) (before after : World F) where
  pub rewritten_by : (said name : List ℕ) → said ≡ name → ScopedRewrite host scope explain Formats (File said) status before after
      → ScopedRewrite host scope explain Formats (File name) status before after
  rewritten_by said name same d = subst (λ (n : List ℕ). ScopedRewrite host scope explain Formats (File n) status before after) same d

  pub named_by_name : (said name : List ℕ) → said ≡ name → DoesNamed said (ScopedRewrite host scope explain Formats (File said)) status before after
      → DoesNamed name (ScopedRewrite host scope explain Formats (File name)) status before after
  named_by_name said name same d = subst (λ (n : List ℕ). DoesNamed n (ScopedRewrite host scope explain Formats (File n)) status before after) same d

-- what was done with the inputs as they are now was done with the inputs as they were
module _ {I F : Type 0} (claim : I → InputClaim) (tells : Type 0) (state : F → FilesState) (leads : LinkClaim F) (now then : Sources I F) (same : now.inputs ≡ then.inputs) where
  pub named_before : (scope : Scope) (explain : Bool) (Formats : TextClaim) (name : List ℕ) (status : ℕ) (before after : World F)
      → DoesNamed name (ScopedRewrite (host_in claim tells state leads now) scope explain Formats (File name)) status before after
      → DoesNamed name (ScopedRewrite (host_in claim tells state leads then) scope explain Formats (File name)) status before after
  named_before scope explain Formats name status before after d =
      subst (λ (i : I). DoesNamed name (ScopedRewrite (host_in claim tells state leads (record { inputs = i; files = then.files })) scope explain Formats (File name)) status before after) same d

-- a rewriting with this result
pub ends_by : (explain : Bool) (P : Result Unit (RewriteError NoNewText) → Type 0) (result : Result Unit (RewriteError NoNewText)) (status : ℕ) (before after : ByteStream) → P result
    → EndsRewriting explain (λ outcome. outcome ≡ result) status before after → EndsRewriting explain P status before after
ends_by explain P result status before after p d = (d.0, d.1, subst P (sym d.2) p, d.3, d.4)
