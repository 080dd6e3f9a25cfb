-- What a run has shown of a text and its formatting, and how a run that shows the formatting does a work.
use Rattle.std.proofs.Common.{◌≡◌, ℕ, List, [], ◌∷◌, Bool, true, false, inl, inr, refl, subst}
use Rattle.std.specs.Prelude.{Option, Some, None, IfSome, MatchOption}
use Rattle.std.specs.Option.{is_none}
use Rattle.std.specs.Str.{IsUtf8}
use Rattle.yf_command_line.specs.declared.command.Input.{Input}
use Rattle.yf_command_line.specs.declared.command.Input.TheVariants.{Standard, File}
use Rattle.yf_explain.specs.Explained.{Explains}
use Rattle.yf_forms.specs.declared.style.Style.{Style}
use Rattle.yf_guarded.specs.Formatted.{GivesFormatting, verdict_of}
use Rattle.yf_guarded.specs.Judged.{GivesJudged}
use Rattle.yf_guarded.specs.declared.formatting.JudgedFormatting.{JudgedFormatting}
use Rattle.yf_host.specs.Ends.{EndsOver, EndsTold}
use Rattle.yf_host.specs.Report.{format_status}
use Rattle.yf_host.specs.World.{OutputStreams, streams_of}
use Rattle.yf_lines.specs.declared.fault.Fault.{Fault}
use Rattle.yf_lines.specs.declared.fault.Fault.TheVariants.{Memory, NotUtf8, WriteFailed}
use Rattle.yf_lines.specs.declared.place.Position.{Position}
use Rattle.yf_parts.specs.Shown.{DiffFound, DiffShown, IsShown, NotShown, PlaceShown, ShowBroke, TextShown}
use Rattle.yf_parts.specs.declared.show.Show.{Show}
use Rattle.yf_parts.specs.declared.show.Show.TheVariants as show
use Rattle.yf_program.specs.Answer.{RanFmt, RanFmtCheck, RanFmtDiff, RanShown, RanWork}
use Rattle.yf_program.specs.Guarded.{DoneAsJudged, RanJudged, ReaderClaim, formatting_shown, held, prints_text, reads_first}
use Rattle.yf_program.specs.declared.task.Task.{Task}
use Rattle.yf_program.specs.declared.task.Work.{Work}
use Rattle.yf_program.specs.declared.task.Work.TheVariants as work
use Rattle.yf_rules.proofs.Runs.CompareLemmas.{difference_of, same_is_clean}
use Rattle.yf_rules.proofs.Runs.DiffLemmas.{diff_of, nothing_is_clean}
use Rattle.yf_rules.proofs.Runs.GivenTexts.{GivenText}
use Rattle.yf_rules.specs.Headline.{Headline}
use Rattle.yf_rules.specs.Quoted.{quoted}
use Rattle.yf_rules.specs.Runs.ByteStream.{ByteStream, NothingWritten}
use Rattle.yf_rules.specs.Runs.Compare.{Difference, DiffersFirst, IsClean}
use Rattle.yf_rules.specs.Runs.Diffed.{DiffOf, is_same}
use Rattle.yf_rules.specs.Runs.Input.{IsNoText}
use Rattle.yf_rules.specs.Runs.Run.{FormattingGiven, Keeps}

-- the verdict on a text that a reader gave
pub judged_of : (style : Style) {known : Option (List ℕ)} {t : List ℕ} (j : JudgedFormatting) → GivesFormatting style known t j
    → GivesJudged true known t (verdict_of j)
judged_of style j g = record { gave = g.gave; within = g.within; utf8 = g.utf8; holds = g.holds.0 }

-- bytes that are UTF-8 are a text
pub is_text : {P : Type 0} (bytes : List ℕ) → IsUtf8 bytes → (fault : Fault) → IsNoText bytes fault → P
is_text bytes utf8 (NotUtf8 offset) none = absurd (none.0 utf8)
is_text bytes utf8 _ none = absurd none

-- (t, u: the text and its formatting; before, after: the output; errors: the stream of faults)
module _ (task : Task) (name t u : List ℕ) (headline : Headline t task.style u) (before after errors : ByteStream) where
  known : GivenText (Some t) t
  known = record { gave = refl; within = headline.within; utf8 = headline.utf8 }

  rendered : FormattingGiven task.style (Some t) u
  rendered = record { text = t; gave = refl; headline = headline }

  nothing : NothingWritten errors errors
  nothing = record { contents = refl; same = refl }

  differs : (place : Option Position) → MatchOption place (t ≡ u) (DiffersFirst t u) → Difference task.style (Some t) place
  differs place first = difference_of known headline place first

  diffed : (diff : List ℕ) → DiffFound (quoted name) t u diff → DiffOf task.style (quoted name) (Some t) diff
  diffed diff found = diff_of known headline refl refl refl found.written found.told found.none

  printed : (same : Bool) (status : ℕ) → status ≡ format_status same → TextShown u before after same
      → RanFmt task status (held t) (held []) (streams_of before errors) (streams_of after errors)
  printed true status e shown = inl (record { formatted = u; rendered = rendered; wrote = shown.0 }, refl, (e, nothing))
  printed false status e shown = cc

  clean_place : (same : Bool) (place : Option Position) → same ≡ is_none place → Difference task.style (Some t) place → same ≡ true
      → IfSome (Some t) (IsClean task.style)
  clean_place same None e d is = same_is_clean d
  clean_place same (Some place) e d is = cc

  compared : (same : Bool) (status : ℕ) → status ≡ format_status same → PlaceShown t u before after same
      → RanFmtCheck task status (held t) (held []) (streams_of before errors) (streams_of after errors)
  compared same status e shown =
      let d = differs shown.place shown.first in
      inl (
        same,
        record { place = shown.place; difference = d; wrote = shown.wrote; answer = shown.answer },
        clean_place same shown.place shown.answer d,
        refl,
        e,
        nothing,
      )

  clean_diff : (same : Bool) (diff : List ℕ) → same ≡ is_same diff → DiffOf task.style (quoted name) (Some t) diff → same ≡ true
      → IfSome (Some t) (IsClean task.style)
  clean_diff same [] e d is = nothing_is_clean d refl
  clean_diff same (byte ∷ bytes) e d is = cc

  differed : (same : Bool) (status : ℕ) → status ≡ format_status same → DiffShown (quoted name) t u before after same
      → RanFmtDiff name task status (held t) (held []) (streams_of before errors) (streams_of after errors)
  differed same status e shown =
      let d = diffed shown.diff shown.found in
      inl (
        same,
        record { diff = shown.diff; of_text = d; wrote = shown.wrote; answer = shown.answer },
        clean_diff same shown.diff shown.answer d,
        refl,
        e,
        nothing,
      )

  -- the formatting was shown
  pub shown_ran : (how : Show) (same : Bool) (status : ℕ) → status ≡ format_status same → IsShown how name t u before after same
      → RanShown how name task status (held t) (held []) (streams_of before errors) (streams_of after errors)
  shown_ran show.Text same status e shown = printed same status e shown
  shown_ran show.Place same status e shown = compared same status e shown
  shown_ran show.Diff same status e shown = differed same status e shown

  -- or it could not be
  module _ (told : ByteStream) (status : ℕ) where
    ends : (fault : Fault) → Keeps (Some t) t fault → EndsTold task.explain (Explains t fault) fault status errors told
        → EndsOver task.explain (Some t) fault status errors told
    ends fault kept explained = (t, kept, explained)

    pub broke_ran : (how : Show) (fault : Fault) → NotShown (ShowBroke how name t u before after) before after fault
        → EndsTold task.explain (Explains t fault) fault status errors told
        → RanShown how name task status (held t) (held []) (streams_of before errors) (streams_of after told)
    broke_ran show.Text WriteFailed broke explained =
        inr (WriteFailed, (record { formatted = u; rendered = rendered; broke = broke }, refl), ends WriteFailed refl explained)
    broke_ran show.Text Memory none explained = inr (Memory, (refl, none), ends Memory tt explained)
    broke_ran show.Text _ none explained = absurd none
    broke_ran show.Place WriteFailed broke explained =
        inr (WriteFailed, (record { place = broke.place; difference = differs (Some broke.place) broke.first; broke = broke.broke }, refl), ends WriteFailed refl explained)
    broke_ran show.Place Memory none explained = inr (Memory, (refl, none), ends Memory tt explained)
    broke_ran show.Place _ none explained = absurd none
    broke_ran show.Diff WriteFailed broke explained =
        inr (WriteFailed, (record { diff = broke.diff; of_text = diffed broke.diff broke.found; differs = broke.differs; broke = broke.broke }, refl), ends WriteFailed refl explained)
    broke_ran show.Diff Memory none explained = inr (Memory, (refl, none), ends Memory tt explained)
    broke_ran show.Diff _ none explained = absurd none

-- A work that shows the formatting of the whole text was done by showing it.
module _ (task : Task) (name : List ℕ) (status : ℕ) (reader left : ByteStream) (before after : OutputStreams) where
  abbrev pub Judged : Bool → ReaderClaim → Type 0
  Judged reads Ran = RanJudged (record { reads = reads; Does = DoneAsJudged (prints_text task.work) Ran; Ends = EndsOver task.explain })
      status reader left before after

  by_show : (how other : Show) → Some how ≡ Some other → Judged true (RanShown how name task) → Judged true (RanShown other name task)
  by_show how other e d =
      let same : how ≡ other = cc in
      subst (λ (s : Show). Judged true (RanShown s name task)) same d

  pub work_shown : (what : Work) (input : Input) (how : Show) → Some how ≡ formatting_shown what input → Judged true (RanShown how name task)
      → Judged (reads_first what input) (RanWork what name task)
  work_shown work.Events input how e d = cc
  work_shown (work.Check without) input how e d = cc
  work_shown work.Print Standard how e d = by_show how show.Text e d
  work_shown work.Print (File file) how e d = cc
  work_shown work.Compare input how e d = by_show how show.Place e d
  work_shown work.Diff input how e d = by_show how show.Diff e d
  work_shown (work.Part part) input how e d = cc
