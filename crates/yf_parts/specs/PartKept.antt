-- The contract of a part of a formatting.
use Rattle.std.specs.Prelude.{◌≡◌, ℕ, Bool, List, map}
use Rattle.yf_diff.specs.Texts.{lines_of}
use Rattle.yf_forms.specs.declared.style.Style.{Style}
use Rattle.yf_laws.specs.Laws.{HasSameComments, HasSameContent}
use Rattle.yf_rules.specs.Headline.{Headline}
use Rattle.yf_parts.specs.Asked.{AllUntouched, Settled, touched_by}
use Rattle.yf_parts.specs.Hunks.{Differ, origin, spliced}
use Rattle.yf_parts.specs.Tries.{IsNarrowed, Tried, TryFails, near_all}
use Rattle.yf_line_ranges.specs.declared.range.LineRange.{LineRange}
use Rattle.yf_parts.specs.declared.candidates.Reach.{Reach}
use Rattle.yf_parts.specs.declared.hunks.Hunk.{Hunk}

-- v is the text t with some of the hunks applied by which t and its formatting differ, for the requested lines
pub record PartKept (t : List ℕ) (s : Style) (lines : List LineRange) (hunks : List Hunk) (applied : List Bool)
    (v : List ℕ) : Type 0 where
  -- the only formatting of t, with all that is proved of it
  pub formatted : List ℕ
  pub of_text : Headline t s formatted
  -- the lines of t and those of its formatting are equal except for the hunks
  pub differences : Differ hunks origin (lines_of t) (lines_of formatted)
  -- v is t with exactly the hunks applied that have their flags set; all other bytes are those of t
  pub made : v ≡ spliced t formatted hunks applied 0
  -- v is accepted, and its only formatting is that of t
  pub of_part : Headline v s formatted
  -- v has the content of t
  pub content : HasSameContent t v
  -- v has the comments of t at the same places
  pub comments : HasSameComments t v
  -- a hunk is applied if and only if one that touches a requested line is at most `reach.before` hunks after it or at
  -- most `reach.after` hunks before it
  pub reach : Reach
  pub chosen : applied ≡ near_all reach (map (touched_by lines) hunks) 0 (map (touched_by lines) hunks)
  -- the reach is at most a radius of the tries, for which each smaller radius gives no text, or a text with another
  -- formatting than t's
  pub radius : ℕ
  pub tried : Tried (TryFails t s formatted hunks (map (touched_by lines) hunks)) radius
  -- and so does one hunk less on a side of the reach (`IsNarrowed`)
  pub narrowed : IsNarrowed (TryFails t s formatted hunks (map (touched_by lines) hunks)) radius reach
  -- each requested line is as in the formatting: every hunk that touches one is applied
  pub asked : Settled lines hunks applied
  -- if no hunk touches a requested line, nothing changes
  pub unchanged : AllUntouched lines hunks → v ≡ t
