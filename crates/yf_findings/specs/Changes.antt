-- The changes between a text and its formatting.
use Rattle.std.specs.Prelude.{◌≡◌, ◌↔◌, ◌≤◌, ◌<◌, ◌+◌, ◌++◌, ◌&&◌, ℕ, Bool, List, [], ◌∷◌, drop, length, slice_index}
use Rattle.std.specs.Prelude.{slice_range, MatchBool, ⊤}
use Rattle.std.specs.List.{list_any}
use Rattle.std.specs.Str.{IsCharBoundary}
use Rattle.yf_findings.specs.declared.changes.Change.{Change}
use Rattle.yf_findings.specs.declared.owned.OwnedProblem.{OwnedProblem}
use Rattle.yf_forms.specs.declared.style.Style.{Style}
use Rattle.yf_lines.specs.Lines.{PlaceOf}
use Rattle.yf_parts.specs.declared.hunks.Hunk.{Hunk}
use Rattle.yf_report.specs.declared.problem.Range.{Range}
use Rattle.yf_rules.specs.Headline.{Headline}

-- A line of the text begins at the offset, or the text ends there. Lines end after a line feed.
pub data IsLineEdge (t : List ℕ) (i : ℕ) : Type 0 where
  at_start : i ≡ 0 → IsLineEdge t i
  after_feed : (k : ℕ) → i ≡ k + 1 → k < length t → slice_index t k ≡ 10 → IsLineEdge t i
  at_end : i ≡ length t → IsLineEdge t i

-- the range of the whole lines from one offset to another
pub record LinesAt (t : List ℕ) (start end : ℕ) (r : Range) : Type 0 where
  pub first : IsLineEdge t start
  pub last : IsLineEdge t end
  pub order : start ≤ end
  pub from : PlaceOf t start r.line r.column
  pub to : PlaceOf t end r.end_line r.end_column

-- The text t from an offset on, with these changes made, is u. The changes are in order and don't overlap.
pub data Changed (t : List ℕ) : ℕ → List Change → List ℕ → Type 0 where
  no_change : {i : ℕ} {u : List ℕ} → u ≡ drop i t → Changed t i [] u
  one_change : {i : ℕ} {c : Change} {cs : List Change} {u v : List ℕ} (start end : ℕ) → i ≤ start
      → LinesAt t start end c.range → Changed t end cs v → u ≡ slice_range t i start ++ (c.text ++ v)
      → Changed t i (c ∷ cs) u

-- the changes of the text t make it u, and there is none only if t is u
pub record AreChanges (t u : List ℕ) (cs : List Change) : Type 0 where
  pub made : Changed t 0 cs u
  pub none : (t ≡ u) ↔ (cs ≡ [])

-- the changes between a text and its formatting
pub record FormatChanges (style : Style) (t : List ℕ) (cs : List Change) : Type 0 where
  pub formatted : List ℕ
  pub formats : Headline t style formatted
  pub changes : AreChanges t formatted cs

abbrev pub is_fixable : OwnedProblem → Bool
is_fixable p = p.fixable

-- the changes that are listed beside these problems of a text: they are asked for, and `fmt` fixes a problem
abbrev pub ListedChanges : Bool → Style → List ℕ → List OwnedProblem → List Change → Type 0
ListedChanges asked style t ps cs = MatchBool (asked && list_any is_fixable ps) (FormatChanges style t cs) (cs ≡ [])

-- ---- for private clauses: hunks

-- a hunk has whole lines of both texts
pub record IsCut (t u : List ℕ) (h : Hunk) : Type 0 where
  pub first : IsLineEdge t h.start.offset
  pub last : IsLineEdge t h.end.offset
  pub old_first : IsCharBoundary t h.start.offset
  pub old_last : IsCharBoundary t h.end.offset
  pub order : h.start.offset ≤ h.end.offset
  pub new_first : IsCharBoundary u h.start.formatted
  pub new_last : IsCharBoundary u h.end.formatted
  pub new_order : h.start.formatted ≤ h.end.formatted

abbrev pub AreCut : List ℕ → List ℕ → List Hunk → Type 0
AreCut t u [] = ⊤
AreCut t u (h ∷ hunks) = IsCut t u h × AreCut t u hunks

-- the change that a hunk makes
pub record ChangeOf (t u : List ℕ) (h : Hunk) (c : Change) : Type 0 where
  pub range : LinesAt t h.start.offset h.end.offset c.range
  pub text : c.text ≡ slice_range u h.start.formatted h.end.formatted

pub data ChangesOf (t u : List ℕ) : List Hunk → List Change → Type 0 where
  no_hunk : ChangesOf t u [] []
  one_hunk : {h : Hunk} {hunks : List Hunk} {c : Change} {cs : List Change} → ChangeOf t u h c → ChangesOf t u hunks cs
      → ChangesOf t u (h ∷ hunks) (c ∷ cs)
