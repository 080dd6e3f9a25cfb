-- What formatting leaves unchanged, in users' terms: u is a formatting of the text t.
use Rattle.std.specs.Prelude.{ℕ, List}
use Rattle.yf_forms.specs.declared.style.Style.{Style}
use Rattle.yf_laws.specs.Preservation.CommentsPlaced.{CommentsPlaced}
use Rattle.yf_laws.specs.Preservation.EmptyTexts.{IsEmptyAlike}
use Rattle.yf_laws.specs.Preservation.LayoutKey.{DependsOnKey}
use Rattle.yf_laws.specs.Preservation.ReadingKey.{DependsOnReading}
use Rattle.yf_laws.specs.Preservation.SizeKept.{SizeKept}
use Rattle.yf_laws.specs.Preservation.SpacedLines.{SameBlanks}
use Rattle.yf_laws.specs.Preservation.Spellings.{SameSpellings}
use Rattle.yf_laws.specs.Preservation.TidyLines.{IsTidyText}
use Rattle.yf_laws.specs.Types.{SameTypes}

pub record Keeps (t : List ℕ) (s : Style) (u : List ℕ) : Type 0 where
  pub types : SameTypes t u
  pub spellings : SameSpellings s t u
  pub lines : IsTidyText s u
  pub empty : IsEmptyAlike t u
  pub blanks : SameBlanks t s u
  pub key : DependsOnKey t s u
  -- the dependence in terms of the texts' readings
  pub reading : DependsOnReading t s u
  pub comments : CommentsPlaced t s u
  pub size : SizeKept t s u
